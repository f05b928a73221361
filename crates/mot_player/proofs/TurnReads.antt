-- The segments of a turn read as its carousel.
use Rattle.std.proofs.Common.{◌≡◌, ℕ, ◌+◌, ◌<◌, ◌≤◌, List, [], ◌∷◌, ◌++◌, Bool, true, false, not}
use Rattle.std.proofs.Common.{refl, length, map, ap, ◌∙◌, sym, arith, eq-eqb, append_assoc}
use Rattle.std.proofs.Common.{append-nil}
use Rattle.std.proofs.lemmas.Bool.{le-leb, and_parts, or_parts, or_right, not-true}
use Rattle.std.proofs.lemmas.List.Elements.{filter-append, All-head, All-tail}
use Rattle.std.specs.Prelude.{Some, ◌==◌, ◌&&◌, ◌||◌, nat_eq, flat_map, All}
use Rattle.std.specs.List.{list_all, AllByRecursion}
use Rattle.std.specs.Cmp.{nat_eq_equiv}
use Rattle.mot_directory.specs.Directory.{Entry, read_directory}
use Rattle.mot_directory.proofs.Laws.{description_in-parameters_with}
use Rattle.mot_directory.specs.Entries.{entry_of}
use Rattle.mot_groups.specs.Entity.{IsCut, all_but_last, entity_of, numbered_segments, own_segments}
use Rattle.mot_groups.specs.Entity.{pieces, segments_of}
use Rattle.mot_groups.specs.Group.{Segment}
use Rattle.mot_numbers.specs.Reading.{read_each}
use Rattle.mot_objects.specs.Carousel.{Object, Carousel, IsSound}
use Rattle.mot_objects.specs.Ids.{contains, is_distinct}
use Rattle.mot_player.specs.Reading.{object_in, belongs, directory_in, read_segments}
use Rattle.mot_player.specs.Turn.{Turn, IsTurnOf, IsPlayable, IsSendable, bodies_with_ids}
use Rattle.mot_player.specs.Turn.{segments_of_bodies, segments_of_turn}

-- an object's parameters describe it
pub object_in-entry_of : (segments : List Segment) (o : Object)
    → entity_of segments 4 o.tid ≡ Some o.body →
    object_in segments (entry_of o) ≡ Some o
object_in-entry_of segments o e =
    grind (arith, description_in-parameters_with)

-- the segments of an entity, among its own and among others
pub own-numbered_segments : (kind tid number : ℕ) (ps : List (List ℕ)) →
    own_segments kind tid (numbered_segments kind tid number ps)
    ≡ numbered_segments kind tid number ps
own-numbered_segments kind tid number [] = refl
own-numbered_segments kind tid number (p ∷ ps) =
    grind (arith, own-numbered_segments kind tid (number + 1) ps)

pub foreign-numbered_segments : (kind tid other_kind other number : ℕ) (ps : List (List ℕ)) →
    (other_kind == kind && other == tid) ≡ false
    → own_segments kind tid (numbered_segments other_kind other number ps) ≡ []
foreign-numbered_segments kind tid other_kind other number [] e = refl
foreign-numbered_segments kind tid other_kind other number (p ∷ ps) e =
    rw (e, foreign-numbered_segments kind tid other_kind other (number + 1) ps e) refl

pub own-append : (kind tid : ℕ) (xs ys : List Segment) →
    own_segments kind tid (xs ++ ys) ≡ own_segments kind tid xs ++ own_segments kind tid ys
own-append kind tid xs ys = filter-append (λ (s : Segment). s.kind == kind && s.tid == tid) xs ys

own-between : (kind tid size : ℕ) (bytes : List ℕ) (front back : List Segment)
    → own_segments kind tid front ≡ [] →
    own_segments kind tid back ≡ [] →
    own_segments kind tid (front ++ segments_of kind tid size bytes ++ back)
    ≡ segments_of kind tid size bytes
own-between kind tid size bytes front back f b =
    grind (arith, own-append, append-nil, own-numbered_segments)

abbrev pub ids_of : List Object → List ℕ
ids_of objects = map (λ (o : Object). o.tid) objects

abbrev pub cut : ℕ → List Object → List Segment
cut size objects = segments_of_bodies size (bodies_with_ids objects)

foreign-cut : (tid size : ℕ) (objects : List Object) → contains (ids_of objects) tid ≡ false →
    own_segments 4 tid (cut size objects) ≡ []
foreign-cut tid size [] e = refl
foreign-cut tid size (o ∷ objects) e =
    let parts = or_parts (nat_eq tid o.tid) (contains (ids_of objects) tid) e in
    let here : (o.tid == tid) ≡ false = nat_eq_equiv.symm o.tid tid ∙ parts.0 in
    own-append 4 tid (segments_of 4 o.tid size o.body) (cut size objects)
    ∙ ap (λ xs. xs ++ own_segments 4 tid (cut size objects))
    (foreign-numbered_segments 4 tid 4 o.tid 0 (pieces size o.body) here)
    ∙ foreign-cut tid size objects parts.1

pub foreign-directory : (id size : ℕ) (objects : List Object)
    → own_segments 6 id (cut size objects) ≡ []
foreign-directory id size [] = refl
foreign-directory id size (o ∷ objects) =
    grind (arith, foreign-directory id size objects, own-append, foreign-numbered_segments)

-- an id that is in the list differs from one that is not
apart : (ids : List ℕ) (x y : ℕ) → contains ids x ≡ false → contains ids y ≡ true → (b : Bool)
    → (x == y) ≡ b →
    (x == y) ≡ false
apart ids x y p q b e = grind arith

all-cons : (p : Segment → Bool) (x : Segment) (xs : List Segment) → p x ≡ true
    → list_all p xs ≡ true →
    list_all p (x ∷ xs) ≡ true
all-cons p x xs e f = rw (e, f) refl

all-append : (p : Segment → Bool) (xs ys : List Segment) → list_all p xs ≡ true
    → list_all p ys ≡ true →
    list_all p (xs ++ ys) ≡ true
all-append p [] ys e f = f
all-append p (x ∷ xs) ys e f =
    let parts = and_parts (p x) (list_all p xs) e in
    rw (parts.0, all-append p xs ys parts.1 f) refl

belongs-numbered_segments : (id size kind tid number : ℕ) (ids : List ℕ) (ps : List (List ℕ)) →
    (kind == 6 && tid == id || kind == 4 && contains ids tid) ≡ true →
    All (λ p. length p ≡ size) (all_but_last ps) → All (λ p. length p ≤ size) ps →
    list_all (belongs id ids size) (numbered_segments kind tid number ps) ≡ true
belongs-numbered_segments id size kind tid number ids [] m full short = refl
belongs-numbered_segments id size kind tid number ids (p ∷ []) m full short =
    rw (m, le-leb (length p) size (All-head (λ p. length p ≤ size) p [] short)) refl
belongs-numbered_segments id size kind tid number ids (p ∷ q ∷ ps) m full short =
    let first : Segment = record
    { kind = kind; tid = tid; number = number; last = false; bytes = p } in
    let whole : length p ≡ size = All-head (λ p. length p ≡ size) p (all_but_last (q ∷ ps)) full in
    let here : belongs id ids size first ≡ true = rw (m, eq-eqb (length p) size whole) refl in
    all-cons (belongs id ids size) first (numbered_segments kind tid (number + 1) (q ∷ ps)) here
    (belongs-numbered_segments id size kind tid (number + 1) ids (q ∷ ps) m
    (All-tail (λ p. length p ≡ size) p (all_but_last (q ∷ ps)) full)
    (All-tail (λ p. length p ≤ size) p (q ∷ ps) short))

-- there is a piece
pub first-numbered_segments : (id : ℕ) (bytes : List ℕ) (ps : List (List ℕ))
    (others : List Segment) →
    flat_map (λ piece. piece) ps ≡ bytes → 0 < length bytes
    → directory_in (numbered_segments 6 id 0 ps ++ others) ≡ Some id
first-numbered_segments id bytes [] others e some = absurd (omega (arith, ap length e))
first-numbered_segments id bytes (p ∷ ps) others e some = refl

pub entry_ids : (objects : List Object)
    → map (λ (e : Entry). e.tid) (map entry_of objects) ≡ ids_of objects
entry_ids [] = refl
entry_ids (o ∷ objects) = ap (λ ids. o.tid ∷ ids) (entry_ids objects)

abbrev pub AreSome : List Object → Type 0
AreSome objects = AllByRecursion (λ (o : Object). 0 < length o.body) objects

-- Pieces of this size make up their entity again, and the segments of an entity, among any of
-- others, read as it.
pub record EntityLaws (size : ℕ) : Type 0 where
  -- the pieces of bytes are cut in segments of the size
  pub cut : (bytes : List ℕ) → IsCut size bytes (pieces size bytes)
  -- an entity's own segments, among any, read as its bytes
  pub entity : (kind tid : ℕ) (bytes : List ℕ) (segments : List Segment) → 0 < length bytes →
      own_segments kind tid segments ≡ segments_of kind tid size bytes
      → entity_of segments kind tid ≡ Some bytes

module _ (size : ℕ) (laws : EntityLaws size) where
  read_objects : (head : List Segment) (objects : List Object) → is_distinct (ids_of objects) ≡ true
      → AreSome objects →
      ((tid : ℕ) → contains (ids_of objects) tid ≡ true → own_segments 4 tid head ≡ []) →
      read_each (object_in (head ++ cut size objects)) (map entry_of objects) ≡ Some objects
  read_objects head [] d b f = refl
  read_objects head (o ∷ objects) d b f =
      let parts = and_parts (not (contains (ids_of objects) o.tid)) (is_distinct (ids_of objects))
      d in
      let absent : contains (ids_of objects) o.tid ≡ false =
      not-true (contains (ids_of objects) o.tid) parts.0 in
      let here : List Segment = segments_of 4 o.tid size o.body in
      let all : List Segment = head ++ cut size (o ∷ objects) in
      let regrouped : (head ++ here) ++ cut size objects ≡ all =
      append_assoc head here (cut size objects) in
      let body : entity_of all 4 o.tid ≡ Some o.body =
      ap (λ xs. entity_of xs 4 o.tid) (sym regrouped)
      ∙ laws.entity 4 o.tid o.body ((head ++ here) ++ cut size objects) b.0
      (own-between 4 o.tid size o.body head (cut size objects)
      (f o.tid (rw (eq-eqb o.tid o.tid refl) refl))
      (foreign-cut o.tid size objects absent)) in
      let object : object_in all (entry_of o) ≡ Some o = object_in-entry_of all o body in
      let later : (tid : ℕ) → contains (ids_of objects) tid ≡ true
      → own_segments 4 tid (head ++ here) ≡ [] = λ tid h.
      own-append 4 tid head here
      ∙ ap (λ xs. xs ++ own_segments 4 tid here)
      (f tid (or_right (nat_eq tid o.tid) (contains (ids_of objects) tid) h))
      ∙ foreign-numbered_segments 4 tid 4 o.tid 0 (pieces size o.body)
      (apart (ids_of objects) o.tid tid absent h (o.tid == tid) refl) in
      let others : read_each (object_in all) (map entry_of objects) ≡ Some objects =
      ap (λ xs. read_each (object_in xs) (map entry_of objects)) (sym regrouped)
      ∙ read_objects (head ++ here) objects parts.1 b.1 later in
      rw (object, others) refl

  pub belongs-entity : (id kind tid : ℕ) (ids bytes : List ℕ) →
      (kind == 6 && tid == id || kind == 4 && contains ids tid) ≡ true →
      list_all (belongs id ids size) (segments_of kind tid size bytes) ≡ true
  belongs-entity id kind tid ids bytes m =
      grind (arith, belongs-numbered_segments)

  pub belongs-cut : (id : ℕ) (ids : List ℕ) (objects : List Object) →
      ((tid : ℕ) → contains (ids_of objects) tid ≡ true → contains ids tid ≡ true) →
      list_all (belongs id ids size) (cut size objects) ≡ true
  belongs-cut id ids [] f = refl
  belongs-cut id ids (o ∷ objects) f =
      all-append (belongs id ids size) (segments_of 4 o.tid size o.body) (cut size objects)
      (belongs-entity id 4 o.tid ids o.body (f o.tid (rw (eq-eqb o.tid o.tid refl) refl)))
      (belongs-cut id ids objects
      (λ tid h. f tid (or_right (nat_eq tid o.tid) (contains (ids_of objects) tid) h)))

  read_segments-parts : (id period : ℕ) (bytes : List ℕ) (objects : List Object) → 0 < length bytes
      →
      read_directory bytes ≡ Some
      (record { period = period; segment_size = size; entries = map entry_of objects }) →
      is_distinct (id ∷ ids_of objects) ≡ true → AreSome objects →
      read_segments (segments_of 6 id size bytes ++ cut size objects)
      ≡ Some (record { directory = id; period = period; segment_size = size; objects = objects })
  unfolding read_segments
  read_segments-parts id period bytes objects b d distinct some =
      let own : List Segment = segments_of 6 id size bytes in
      let all : List Segment = own ++ cut size objects in
      let entity : entity_of all 6 id ≡ Some bytes =
      laws.entity 6 id bytes all b
      (own-between 6 id size bytes [] (cut size objects) refl
      (foreign-directory id size objects)) in
      let parts = and_parts (not (contains (ids_of objects) id)) (is_distinct (ids_of objects))
      distinct in
      let found : read_each (object_in all) (map entry_of objects) ≡ Some objects =
      read_objects own objects parts.1 some
      (λ tid h. foreign-numbered_segments 4 tid 6 id 0 (pieces size bytes) refl) in
      let members : list_all (belongs id (ids_of objects) size) all ≡ true =
      all-append (belongs id (ids_of objects) size) own (cut size objects)
      (belongs-entity id 6 id (ids_of objects) bytes (rw (eq-eqb id id refl) refl))
      (belongs-cut id (ids_of objects) objects (λ tid h. h)) in
      rw (
        first-numbered_segments id bytes (pieces size bytes) (cut size objects)
            (laws.cut bytes).whole b,
        entity,
        d,
        found,
        entry_ids objects,
        distinct,
        members,
      ) refl

  pub bodies-some : (objects : List Object)
      → All (λ (b : ℕ × List ℕ). IsSendable size b.1) (bodies_with_ids objects) →
      AreSome objects
  bodies-some [] h = tt
  bodies-some (o ∷ objects) h =
      let fits : (ℕ × List ℕ) → Type 0 = λ b. IsSendable size b.1 in (
        (All-head fits (o.tid, o.body) (bodies_with_ids objects) h).some,
        bodies-some objects (All-tail fits (o.tid, o.body) (bodies_with_ids objects) h),
      )

  -- the segments of a turn read as its carousel
  pub read_segments-turn : (turn : Turn) (c : Carousel) → IsTurnOf turn c size → IsSound c
      → IsPlayable turn size →
      read_segments (segments_of_turn turn size)
      ≡ Some (record {
        directory = c.directory;
        period = c.period;
        segment_size = size;
        objects =
            c.objects;
      })
  read_segments-turn turn c t sound playable =
      grind (arith, read_segments-parts, bodies-some)
