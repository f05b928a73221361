-- A copy of a disk: the same carousel on a disk of other sizes, its bodies one after the other.
use Rattle.std.specs.Prelude.{◌≡◌, ℕ, ◌+◌, ◌<◌, ◌≤◌, ◌==◌, Bool, not, if◌then◌else◌, List, [], ◌∷◌}
use Rattle.std.specs.Prelude.{◌++◌, length, map, sum_by, slice_range, Option, unwrap_or, Ok}
use Rattle.std.specs.List.{zip}
use Rattle.mot_carousel.specs.NewIds.{new_ids}
use Rattle.mot_journal.specs.declared.layout.Layout.TheVariants.{Two}
use Rattle.mot_journal.specs.declared.record.Record.{Record}
use Rattle.mot_journal.specs.Catalogue.{Placed, Catalogue}
use Rattle.mot_journal.specs.Image.{Standing, catalogue_of}
use Rattle.mot_journal.specs.Slot.{AreSound, slot_count}
use Rattle.mot_numbers.specs.declared.geometry.Geometry.{Geometry}
use Rattle.mot_numbers.specs.Geometry.{area_start}
use Rattle.mot_numbers.specs.declared.refusal.Refusal.{Refusal}
use Rattle.mot_numbers.specs.declared.refusal.Refusal.TheVariants.{NoRoom, OutOfMemory}
use Rattle.mot_numbers.specs.declared.refusal.Refusal.TheVariants.{TooManyObjects}
use Rattle.mot_objects.specs.declared.carousel.Carousel.{Carousel}
use Rattle.mot_objects.specs.declared.object.Object.{Object}
use Rattle.mot_objects.specs.Carousel as whole
use Rattle.mot_repository.specs.Records.{records_of_catalogue}
use Rattle.mot_repository.specs.Repository.{RepositoryView}

-- The ids of a copy of a carousel with these: its objects', in order, and the directory's, which is
-- the cursor, too. New ones go on after the given one, or else after the cursor. With another
-- segment size each object takes a new one, and then the directory. Else objects keep theirs, and
-- the directory takes a new one unless ids go on after its own.
abbrev pub copied_ids : Option ℕ → Bool → ℕ → ℕ → List ℕ → List ℕ × ℕ
copied_ids after resized directory cursor tids =
    let last = unwrap_or after cursor in
    let used = directory ∷ tids in
    if resized then new_ids (length tids) last used
    else (tids, if last == directory then directory else (new_ids 0 last used).1)

abbrev pub is_segment_resized : Geometry → Geometry → Bool
is_segment_resized old new = not (new.segment == old.segment)

abbrev pub copied_carousel : Option ℕ → Bool → whole.Carousel → whole.Carousel
copied_carousel after resized c =
    let ids = copied_ids after resized c.directory c.cursor
    (map (λ (o : whole.Object). o.tid) c.objects) in
    record {
      period = c.period;
      directory = ids.1;
      cursor = ids.1;
      objects = map (λ (p : ℕ × whole.Object). record p.1 { tid = p.0 }) (zip ids.0 c.objects);
    }

-- extents of the same lengths, one after the other from this start on
abbrev pub packed_from : ℕ → List (ℕ × ℕ) → List (ℕ × ℕ)
packed_from start [] = []
packed_from start (e ∷ extents) = (start, e.1) ∷ packed_from (start + e.1) extents

-- what a copy of this geometry stands for; these bytes come after its data area
abbrev pub copy_of : Geometry → Option ℕ → Standing → (rest : List ℕ) → Standing
copy_of g after s rest = record {
  geometry = g;
  carousel = copied_carousel after (is_segment_resized s.geometry g) s.carousel;
  extents = packed_from 0 s.extents;
  rest = rest;
}

-- the bytes of an image in these extents of its data area, one after the other
abbrev pub bytes_in_row : Geometry → List (ℕ × ℕ) → List ℕ → List ℕ
bytes_in_row g [] image = []
bytes_in_row g (e ∷ extents) image =
    slice_range image (area_start g + e.0) (area_start g + e.0 + e.1)
    ++ bytes_in_row g extents image

-- objects whose bodies lie one after the other from this start on
abbrev pub packed_objects : ℕ → List Object → List Placed
packed_objects start [] = []
packed_objects start (o ∷ objects) =
    record { object = o; start = start } ∷ packed_objects (start + o.length) objects

-- the objects with these ids
abbrev pub renumbered : List ℕ → List Object → List Object
renumbered ids objects = map (λ (p : ℕ × Object). record p.1 { tid = p.0 }) (zip ids objects)

-- a carousel with these ids of its objects and of the directory, its bodies so
abbrev pub packed_catalogue : Carousel → List ℕ × ℕ → Catalogue
packed_catalogue c ids = record {
  period = c.period;
  directory = ids.1;
  cursor = ids.1;
  objects = packed_objects 0 (renumbered ids.0 c.objects.items);
}

-- how many bytes these extents have
abbrev pub bytes_of_extents : List (ℕ × ℕ) → ℕ
bytes_of_extents extents = sum_by (λ (e : ℕ × ℕ). e.1) extents

-- the ids of a copy of what is kept in memory
abbrev pub ids_of_copy : RepositoryView → Geometry → Option ℕ → List ℕ × ℕ
ids_of_copy view g after =
    copied_ids after (is_segment_resized view.journal.geometry g) view.carousel.directory
    view.carousel.cursor (map (λ (o : Object). o.tid) view.carousel.objects.items)

-- The records of a new disk of this geometry, in layout 2, for a copy of what is kept in memory: a
-- half has room for them, no field has a fault, and they fold to the copy.
pub record AreOfCopy (view : RepositoryView) (g : Geometry) (after : Option ℕ)
    (records : List Record) : Type 0 where
  pub some : 0 < length records
  pub few : length records ≤ slot_count Two g
  pub sound : AreSound g Two records
  pub fold : catalogue_of g.objects records
      ≡ Ok (packed_catalogue view.carousel (ids_of_copy view g after))
  pub objects : length view.carousel.objects.items ≤ g.objects
  pub room : bytes_of_extents view.extents ≤ g.area

-- an id
abbrev pub IsId : ℕ → Type 0
IsId id = (1 ≤ id) × (id ≤ 65535)

-- The records that set each object in turn, with the ids of a copy and its bodies one after the
-- other, are those of the copy.
abbrev pub CopiesAreSound : RepositoryView → Type 0
CopiesAreSound view = (g : Geometry) (after : Option ℕ) (records : List Record)
    → IsId (unwrap_or after view.carousel.cursor)
    → length view.carousel.objects.items ≤ g.objects → bytes_of_extents view.extents ≤ g.area
    → records ≡ records_of_catalogue (packed_catalogue view.carousel (ids_of_copy view g after))
    → AreOfCopy view g after records

-- Why there are none. Memory is asked for last.
pub data IsNoCopy (view : RepositoryView) (g : Geometry) (refusal : Refusal) : Type 0 where
  many : refusal ≡ TooManyObjects → g.objects < length view.carousel.objects.items
      → IsNoCopy view g refusal
  no_room : refusal ≡ NoRoom → length view.carousel.objects.items ≤ g.objects
      → g.area < bytes_of_extents view.extents → IsNoCopy view g refusal
  no_memory : refusal ≡ OutOfMemory → length view.carousel.objects.items ≤ g.objects
      → bytes_of_extents view.extents ≤ g.area → IsNoCopy view g refusal
