-- What only private contracts and proofs need.
use Rattle.std.specs.Prelude.{◌≡◌, ℕ, ◌+◌, ◌%◌, ◌<◌, ◌≤◌, true, List, ◌∷◌, map}
use Rattle.mot_objects.specs.Ids.{contains, next_free_id}
use Rattle.mot_objects.specs.declared.object.Object.{Object}
use Rattle.mot_objects.specs.declared.carousel.Carousel.{Carousel}

-- The circle of transport ids, on which 1 comes after 65,535.

-- the id so many places above one
abbrev pub id_above : ℕ → ℕ → ℕ
id_above id places = (id + places + 65534) % 65535 + 1

-- from the first id on each before the next is used; a first id that is used is passed
pub record PassesUsed (first : ℕ) (used : List ℕ) (next : ℕ) : Type 0 where
  pub places : ℕ
  pub is : next ≡ id_above first places
  pub passed : (k : ℕ) → k < places → contains used (id_above first k) ≡ true
  pub goes_on : contains used first ≡ true → 1 ≤ places

-- The ids that a carousel uses, and the one that its next object takes.

-- the ids of the carousel and of its objects, and those that a put or a replace takes
abbrev pub used_ids_of : Carousel → List ℕ
used_ids_of c = c.directory ∷ map (λ (o : Object). o.tid) c.objects.items

abbrev pub object_id : Carousel → ℕ
object_id c = next_free_id c.cursor (used_ids_of c)
