-- The records of a journal, folded over a new disk (own format).
use Rattle.std.specs.Prelude.{ℕ, ◌+◌, Bool, true, ◌&&◌, ◌||◌, ◌==◌, nat_lt, nat_le, if◌then◌else◌}
use Rattle.std.specs.Prelude.{List, [], ◌∷◌, ◌++◌, length, map, slice_range, Option, Some, None}
use Rattle.std.specs.Prelude.{option_map, bytes_eq}
use Rattle.std.specs.List.{list_all}
use Rattle.mot_journal.specs.declared.record.Record.{Record}
use Rattle.mot_journal.specs.declared.record.Action.{Action}
use Rattle.mot_journal.specs.declared.record.Action.TheVariants.{Nothing, Set, Remove}
use Rattle.mot_numbers.specs.Reading.{◌>>=◌}
use Rattle.mot_objects.specs.declared.object.Object.{Object}
use Rattle.mot_objects.specs.Ids.{is_distinct}
use Rattle.mot_objects.specs.Stands.{object_of}
use Rattle.mot_objects.specs.Carousel as whole

-- an object, and where in the data area its body begins
pub record Placed : Type 0 where
  pub object : Object
  pub start : ℕ

-- what records stand for: a carousel whose bodies lie in the data area
pub record Catalogue : Type 0 where
  pub period : ℕ
  pub directory : ℕ
  pub cursor : ℕ
  pub objects : List Placed

abbrev pub new_catalogue : Catalogue
new_catalogue = record { period = 0; directory = 1; cursor = 1; objects = [] }

-- the objects with this one in the place of the one of its name; none if there is none
abbrev pub put_in_place : Placed → List Placed → Option (List Placed)
put_in_place p [] = None
put_in_place p (q ∷ rest) =
    if bytes_eq q.object.name p.object.name then Some (p ∷ rest)
    else option_map (λ l. q ∷ l) (put_in_place p rest)

-- the objects without the one of this id; none if there is none
abbrev pub placed_without : ℕ → List Placed → Option (List Placed)
placed_without tid [] = None
placed_without tid (q ∷ rest) =
    if q.object.tid == tid then Some rest else option_map (λ l. q ∷ l) (placed_without tid rest)

abbrev pub in_place_or_appended : ℕ → Placed → List Placed → Option (List Placed)
    → Option (List Placed)
in_place_or_appended limit p objects (Some changed) = Some changed
in_place_or_appended limit p objects None =
    if nat_lt (length objects) limit then Some (objects ++ p ∷ []) else None

-- the objects after this action; none where there are too many for a new one, or none of the id to
-- be removed
abbrev pub objects_after : ℕ → List Placed → Action → Option (List Placed)
objects_after limit objects Nothing = Some objects
objects_after limit objects (Remove tid) = placed_without tid objects
objects_after limit objects (Set tid version content start size name mime) =
    let o : Object =
    record {
      name = name;
      content = content;
      mime = mime;
      version = version;
      tid = tid;
      length = size;
    } in
    let p : Placed = record { object = o; start = start } in
    in_place_or_appended limit p objects (put_in_place p objects)

abbrev pub are_apart : Placed → Placed → Bool
are_apart p q =
    nat_le (p.start + p.object.length) q.start || nat_le (q.start + q.object.length) p.start

abbrev pub are_all_apart : List Placed → Bool
are_all_apart [] = true
are_all_apart (p ∷ rest) = list_all (are_apart p) rest && are_all_apart rest

-- all ids differ, also from the directory's, and no two extents meet
abbrev pub is_consistent : Catalogue → Bool
is_consistent c =
    is_distinct (c.directory ∷ map (λ (p : Placed). p.object.tid) c.objects)
    && are_all_apart c.objects

-- the catalogue after one record more; none for a fault of the list
abbrev pub catalogue_after : ℕ → Catalogue → Record → Option Catalogue
catalogue_after limit c r = do
  objects ← objects_after limit c.objects r.action
  next ← Some (record {
    period = r.period;
    directory = r.directory;
    cursor = r.cursor;
    objects = objects;
  })
  if is_consistent next then Some next else None

abbrev pub body_in_area : List ℕ → Placed → List ℕ
body_in_area area p = slice_range area p.start (p.start + p.object.length)

-- the carousel, with its bodies out of the data area
abbrev pub carousel_in : List ℕ → Catalogue → whole.Carousel
carousel_in area c = record {
  period = c.period;
  directory = c.directory;
  cursor = c.cursor;
  objects = map (λ (p : Placed). object_of p.object (body_in_area area p)) c.objects;
}

-- where each body begins, and its length
abbrev pub extents_of : Catalogue → List (ℕ × ℕ)
extents_of c = map (λ (p : Placed). (p.start, p.object.length)) c.objects
