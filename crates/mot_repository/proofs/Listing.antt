-- Objects and the extents that stand beside them, as the code of a fold changes both.
use Rattle.std.proofs.Common.{◌≡◌, ℕ, zero, suc, ◌<◌, ◌≤◌, Bool, false}
use Rattle.std.proofs.Common.{◌&&◌, ◌||◌, List, [], ◌∷◌, ◌++◌, length, map, set, Option, Some, None}
use Rattle.std.proofs.Common.{refl, sym, ap, ◌∙◌, inl, inr, All}
use Rattle.std.specs.Prelude.{remove, bytes_eq, nat_eq, position}
use Rattle.std.specs.List.{list_all, list_any}
use Rattle.std.proofs.lemmas.Bool.{lt-ltb, le-ltb}
use Rattle.std.proofs.lemmas.List.{map_push}
use Rattle.std.proofs.lemmas.List.Elements.{All-head, All-tail}
use Rattle.mot_journal.specs.Catalogue.{Placed, put_in_place, placed_without, are_apart}
use Rattle.mot_journal.specs.Catalogue.{are_all_apart}
use Rattle.mot_objects.specs.declared.object.Object.{Object}
use Rattle.mot_objects.specs.Ids.{contains}
use Rattle.mot_objects.specs.Stands.{index_of}
use Rattle.mot_repository.specs.Inner.Extents.{objects_in, with_extent}
use Rattle.mot_carousel.specs.Gap.{is_free, is_beside}
use Rattle.mot_repository.specs.Inner.Fold.{HaveLengths, are_extents_apart, objects_set}
use Rattle.mot_carousel.proofs.Laws.{located_where, nowhere-cases, place_where}
use Rattle.mot_carousel.proofs.Laws.{position-place_where, same_step, tail}

-- ---- the place of the first object that passes a test

module _ (test : Object → Bool) where
  place-is : (os : List Object) (r : Option ℕ) → position test os ≡ r → place_where test os ≡ r
  place-is os r e = sym (position-place_where test os) ∙ e

  nowhere : (os : List Object) → All (λ o. test o ≡ false) os → place_where test os ≡ None
  nowhere [] h = refl
  nowhere (o ∷ os) h =
      rw (
        All-head (λ o. test o ≡ false) o os h,
        nowhere os (All-tail (λ o. test o ≡ false) o os h),
      ) refl

  -- where no object passes, none has the place of the first
  pub none_passes : (os : List Object) → All (λ o. test o ≡ false) os → position test os ≡ None
  none_passes os h =
      position-place_where test os ∙ nowhere os h

-- ---- one object in the place of another

abbrev has-name : List ℕ → Object → Bool
has-name name o = bytes_eq o.name name

abbrev has-id : ℕ → Object → Bool
has-id tid o = nat_eq o.tid tid

put-nowhere : (p : Placed) (os : List Object) (es : List (ℕ × ℕ))
    → place_where (has-name p.object.name) os ≡ None
    → put_in_place p (objects_in os es) ≡ None
put-nowhere p [] es e = refl
put-nowhere p (o ∷ os) [] e = refl
put-nowhere p (o ∷ os) (x ∷ es) e =
    let h = nowhere-cases (bytes_eq o.name p.object.name) (place_where (has-name p.object.name) os) e in
    rw (h.0, put-nowhere p os es h.1) refl

put-there : (p : Placed) (os : List Object) (es : List (ℕ × ℕ)) (i : ℕ) → HaveLengths os es
    → place_where (has-name p.object.name) os ≡ Some i
    → put_in_place p (objects_in os es)
    ≡ Some (objects_in (set os i p.object) (set es i (p.start, p.object.length)))
put-there p [] es i l e = cc
put-there p (o ∷ os) [] i l e = cc
put-there p (o ∷ os) (x ∷ es) i l e = elim (located_where (has-name p.object.name) o os i e) [
  | inl h ↦ rw (h.1, h.0) refl
  | inr h ↦ rw (h.2, h.1, put-there p os es h.0 (tail l) h.3) refl
]

gone-nowhere : (tid : ℕ) (os : List Object) (es : List (ℕ × ℕ)) → place_where (has-id tid) os ≡ None
    → placed_without tid (objects_in os es) ≡ None
gone-nowhere tid [] es e = refl
gone-nowhere tid (o ∷ os) [] e = refl
gone-nowhere tid (o ∷ os) (x ∷ es) e =
    let h = nowhere-cases (nat_eq o.tid tid) (place_where (has-id tid) os) e in
    rw (h.0, gone-nowhere tid os es h.1) refl

gone-there : (tid : ℕ) (os : List Object) (es : List (ℕ × ℕ)) (i : ℕ) → HaveLengths os es
    → place_where (has-id tid) os ≡ Some i
    → placed_without tid (objects_in os es) ≡ Some (objects_in (remove os i) (remove es i))
gone-there tid [] es i l e = cc
gone-there tid (o ∷ os) [] i l e = cc
gone-there tid (o ∷ os) (x ∷ es) i l e = elim (located_where (has-id tid) o os i e) [
  | inl h ↦ rw (h.1, h.0) refl
  | inr h ↦ rw (h.2, h.1, gone-there tid os es h.0 (tail l) h.3) refl
]

-- ---- one object more, and lengths

in-append : (os : List Object) (es : List (ℕ × ℕ)) (o : Object) (start : ℕ) → HaveLengths os es
    → objects_in (os ++ o ∷ []) (es ++ (start, o.length) ∷ [])
    ≡ objects_in os es ++ with_extent o (start, o.length) ∷ []
in-append [] [] o start l = refl
in-append [] (x ∷ es) o start l = cc
in-append (p ∷ os) [] o start l = cc
in-append (p ∷ os) (x ∷ es) o start l = ap (λ r. with_extent p x ∷ r) (in-append os es o start (tail l))

in-length : (os : List Object) (es : List (ℕ × ℕ)) → HaveLengths os es
    → length (objects_in os es) ≡ length os
in-length [] es l = refl
in-length (o ∷ os) [] l = cc
in-length (o ∷ os) (x ∷ es) l = ap suc (in-length os es (tail l))

-- there are as many extents as objects
pub same_count : (os : List Object) (es : List (ℕ × ℕ)) → HaveLengths os es → length es ≡ length os
same_count [] [] l = refl
same_count [] (x ∷ es) l = cc
same_count (o ∷ os) [] l = cc
same_count (o ∷ os) (x ∷ es) l = ap suc (same_count os es (tail l))

abbrev size : Object → ℕ
size o = o.length

abbrev extent-size : ℕ × ℕ → ℕ
extent-size e = e.1

-- an object put in a place, with its extent there, keeps the lengths of the extents
pub lengths_set : (os : List Object) (es : List (ℕ × ℕ)) (i : ℕ) (o : Object) (start : ℕ)
    → HaveLengths os es
    → HaveLengths (set os i o) (set es i (start, o.length))
lengths_set [] [] i o start l = refl
lengths_set [] (x ∷ es) i o start l = cc
lengths_set (p ∷ os) [] i o start l = cc
lengths_set (p ∷ os) (x ∷ es) zero o start l = ap (λ r. o.length ∷ r) (tail l)
lengths_set (p ∷ os) (x ∷ es) (suc i) o start l =
    same_step x.1 p.length (map extent-size es) (map size os) _ _ l
    (lengths_set os es i o start (tail l))

-- an object behind the others, with its extent, keeps the lengths of the extents
pub lengths_behind : (os : List Object) (es : List (ℕ × ℕ)) (o : Object) (start : ℕ)
    → HaveLengths os es → HaveLengths (os ++ o ∷ []) (es ++ (start, o.length) ∷ [])
lengths_behind os es o start l =
    map_push extent-size es (start, o.length) ∙ ap (λ r. r ++ o.length ∷ []) l
    ∙ sym (map_push size os o)

-- an object taken out, with its extent, keeps the lengths of the extents
pub lengths_remove : (os : List Object) (es : List (ℕ × ℕ)) (i : ℕ) → HaveLengths os es
    → HaveLengths (remove os i) (remove es i)
lengths_remove [] [] zero l = refl
lengths_remove [] [] (suc i) l = refl
lengths_remove [] (x ∷ es) i l = cc
lengths_remove (p ∷ os) [] i l = cc
lengths_remove (p ∷ os) (x ∷ es) zero l = tail l
lengths_remove (p ∷ os) (x ∷ es) (suc i) l =
    same_step x.1 p.length (map extent-size es) (map size os) _ _ l
    (lengths_remove os es i (tail l))

-- ---- as the code does it

module _ (os : List Object) (es : List (ℕ × ℕ)) (l : HaveLengths os es) where
  module _ (limit start : ℕ) (o : Object) where
    abbrev here : Placed
    here = record { object = o; start = start }

    -- an object of a name that is there takes the place of the first one of the name
    pub set_there : (i : ℕ) → index_of o.name os ≡ Some i
        → Some (objects_in (set os i o) (set es i (start, o.length)))
        ≡ objects_set limit here (objects_in os es)
    set_there i e = rw (put-there here os es i l (place-is (has-name o.name) os (Some i) e)) refl

    -- an object of a new name comes behind the others, where there is room for one
    pub set_behind : index_of o.name os ≡ None → length os < limit
        → Some (objects_in (os ++ o ∷ []) (es ++ (start, o.length) ∷ []))
        ≡ objects_set limit here (objects_in os es)
    set_behind e lt =
        rw (
          put-nowhere here os es (place-is (has-name o.name) os None e),
          in-length os es l,
          lt-ltb (length os) limit lt,
          in-append os es o start l,
        ) refl

    -- an object of a new name has no place among as many as the limit
    pub set_nowhere : index_of o.name os ≡ None → limit ≤ length os
        → None ≡ objects_set limit here (objects_in os es)
    set_nowhere e le =
        rw (
          put-nowhere here os es (place-is (has-name o.name) os None e),
          in-length os es l,
          le-ltb (length os) limit le,
        ) refl

  module _ (tid : ℕ) where
    -- an object of an id that is there is taken out with its extent
    pub remove_there : (i : ℕ) → position (has-id tid) os ≡ Some i
        → Some (objects_in (remove os i) (remove es i)) ≡ placed_without tid (objects_in os es)
    remove_there i e = sym (gone-there tid os es i l (place-is (has-id tid) os (Some i) e))

    -- where no object has the id, none is removed
    pub remove_nowhere : position (has-id tid) os ≡ None
        → None ≡ placed_without tid (objects_in os es)
    remove_nowhere e = sym (gone-nowhere tid os es (place-is (has-id tid) os None e))

-- ---- what a consistent list is

-- the ids of objects beside their extents are those of the objects
pub ids_in : (os : List Object) (es : List (ℕ × ℕ)) → HaveLengths os es
    → map (λ (p : Placed). p.object.tid) (objects_in os es) ≡ map (λ (o : Object). o.tid) os
ids_in [] es l = refl
ids_in (o ∷ os) [] l = cc
ids_in (o ∷ os) (x ∷ es) l = ap (λ r. o.tid ∷ r) (ids_in os es (tail l))

beside-in : (p : Placed) (os : List Object) (es : List (ℕ × ℕ)) → HaveLengths os es
    → list_all (are_apart p) (objects_in os es) ≡ is_free es p.object.length p.start
beside-in p [] [] l = refl
beside-in p [] (x ∷ es) l = cc
beside-in p (o ∷ os) [] l = cc
beside-in p (o ∷ os) (x ∷ es) l =
    ap (λ t. is_beside p.start p.object.length x && t) (beside-in p os es (tail l))

-- objects beside their extents lie apart where the extents do
pub apart_in : (os : List Object) (es : List (ℕ × ℕ)) → HaveLengths os es
    → are_all_apart (objects_in os es) ≡ are_extents_apart es
apart_in [] [] l = refl
apart_in [] (x ∷ es) l = cc
apart_in (o ∷ os) [] l = cc
apart_in (o ∷ os) (x ∷ es) l =
    ap (λ t. t && are_all_apart (objects_in os es)) (beside-in (with_extent o x) os es (tail l))
    ∙ ap (λ t. is_free es x.1 x.0 && t) (apart_in os es (tail l))

-- an id is used where one of the objects has it
pub used_by : (tid : ℕ) (os : List Object)
    → contains (map (λ (o : Object). o.tid) os) tid ≡ list_any (λ (o : Object). nat_eq tid o.tid) os
used_by tid [] = refl
used_by tid (o ∷ os) = ap (λ t. nat_eq tid o.tid || t) (used_by tid os)
