-- One object compared with the others, of which it is known that they are consistent.
use Rattle.std.proofs.Common.{◌≡◌, ℕ, suc, ◌+◌, ◌-◌, ◌<◌, Bool, true, false, not, ◌&&◌, ◌||◌, List}
use Rattle.std.proofs.Common.{[], ◌∷◌, ◌++◌, length, map, get_or, take, drop, refl, sym, ap, ◌∙◌}
use Rattle.std.proofs.Common.{arith, add-one, set, cond, Option, Some, None}
use Rattle.std.specs.Prelude.{remove, nat_eq, nat_le}
use Rattle.std.specs.List.{list_all, list_any}
use Rattle.std.proofs.Math.Bool.{or_comm, and-true}
use Rattle.std.proofs.lemmas.Bool.{and_parts, and_from, or_parts, or_from, not-true, not_from_false}
use Rattle.std.proofs.lemmas.Bool.Decides.{nat_tests}
use Rattle.std.proofs.lemmas.List.{take_rest, get_or_default}
use Rattle.mot_journal.specs.declared.record.Record.{Record}
use Rattle.mot_journal.specs.Catalogue.{Placed, Catalogue, objects_after, placed_without}
use Rattle.mot_journal.specs.Catalogue.{are_all_apart, is_consistent, catalogue_after}
use Rattle.mot_numbers.specs.Reading.{◌>>=◌}
use Rattle.mot_objects.specs.declared.object.Object.{Object}
use Rattle.mot_objects.specs.Ids.{contains, is_distinct}
use Rattle.mot_carousel.specs.Gap.{is_free, is_beside}
use Rattle.mot_repository.specs.Inner.Extents.{objects_in}
use Rattle.mot_repository.specs.Inner.Fold.{HaveLengths, are_extents_apart, are_consistent}
use Rattle.mot_repository.specs.Inner.Fold.{if_consistent, if_done}
use Rattle.mot_journal.specs.Faults.{HasListFault, tids_of}
use Rattle.mot_journal.specs.declared.reason.ListFault.TheVariants.{DirectoryId}
use Rattle.mot_repository.proofs.Folding.{IsWithoutOne, is_gone, apart_without_one, numbered}
use Rattle.mot_repository.proofs.Folding.{step_from}
use Rattle.mot_repository.proofs.Folding.IsWithoutOne.{gone, later}
use Rattle.mot_repository.proofs.Listing.{used_by, ids_in, apart_in, same_count, lengths_remove}
use Rattle.mot_repository.proofs.Pairwise.{are_pairwise, pairwise_at, pairwise_without, remove_set}
use Rattle.mot_repository.proofs.Pairwise.{remove_last}
use Rattle.mot_repository.specs.Inner.Whole.{placed_tids}

abbrev differ : Object → Object → Bool
differ o p = not (nat_eq o.tid p.tid)

abbrev beside : ℕ × ℕ → ℕ × ℕ → Bool
beside e f = is_beside e.0 e.1 f

same-ids : (x y : ℕ) → nat_eq x y ≡ nat_eq y x
same-ids x y = grind (arith, nat_tests)

differ-both-ways : (o p : Object) → differ o p ≡ differ p o
differ-both-ways o p = ap not (same-ids o.tid p.tid)

beside-both-ways : (e f : ℕ × ℕ) → beside e f ≡ beside f e
beside-both-ways e f = or_comm (nat_le (e.0 + e.1) f.0) (nat_le (f.0 + f.1) e.0)

not-or : (x y : Bool) → not (x || y) ≡ (not x && not y)
not-or true y = refl
not-or false y = refl

none-is : {X : Type 0} (test : X → Bool) (xs : List X)
    → not (list_any test xs) ≡ list_all (λ x. not (test x)) xs
none-is test [] = refl
none-is test (x ∷ xs) = not-or (test x) (list_any test xs)
    ∙ ap (λ t. not (test x) && t) (none-is test xs)

distinct-pairs : (os : List Object)
    → is_distinct (map (λ (o : Object). o.tid) os) ≡ are_pairwise differ differ-both-ways os
distinct-pairs [] = refl
distinct-pairs (o ∷ os) =
    ap (λ t. not t && is_distinct (map (λ (p : Object). p.tid) os)) (used_by o.tid os)
    ∙ ap (λ t. t && is_distinct (map (λ (p : Object). p.tid) os))
    (none-is (λ (p : Object). nat_eq o.tid p.tid) os)
    ∙ ap (λ t. list_all (differ o) os && t) (distinct-pairs os)

apart-pairs : (es : List (ℕ × ℕ)) → are_extents_apart es ≡ are_pairwise beside beside-both-ways es
apart-pairs [] = refl
apart-pairs (e ∷ es) = ap (λ t. is_free es e.1 e.0 && t) (apart-pairs es)

-- what the code takes for the rest behind a place
behind : {X : Type 0} (xs : List X) (i : ℕ)
    → drop (suc i) xs ≡ take (length xs - (i + 1)) (drop (i + 1) xs)
behind xs i = ap (λ k. drop k xs) (sym (add-one i)) ∙ sym (take_rest xs (i + 1))

-- where the others' ids differ, all do if none of the others has the id of this one
module _ (os : List Object) (i : ℕ) (o : Object) (lt : i < length os) (is : o ≡ get_or os i o)
    (others : is_distinct (map (λ (p : Object). p.tid) (remove os i)) ≡ true) where
  abbrev has-id : List Object → Bool
  has-id ps = list_any (λ (p : Object). nat_eq o.tid p.tid) ps

  distinct-at : is_distinct (map (λ (p : Object). p.tid) os)
      ≡ (not (has-id (take i os)) && not (has-id (drop (suc i) os)))
  distinct-at =
      distinct-pairs os
      ∙ pairwise_at differ differ-both-ways os i o lt is
      ∙ ap (λ t. (list_all (differ o) (take i os) && list_all (differ o) (drop (suc i) os)) && t)
      (sym (distinct-pairs (remove os i)) ∙ others)
      ∙ and-true _
      ∙ ap (λ t. t && list_all (differ o) (drop (suc i) os))
      (sym (none-is (λ (p : Object). nat_eq o.tid p.tid) (take i os)))
      ∙ ap (λ t. not (has-id (take i os)) && t)
      (sym (none-is (λ (p : Object). nat_eq o.tid p.tid) (drop (suc i) os)))

  -- where an object before has the id, the ids do not all differ
  pub id_before : has-id (take i os) ≡ true → false ≡ is_distinct (map (λ (p : Object). p.tid) os)
  id_before e = sym (distinct-at ∙ ap (λ t. not t && not (has-id (drop (suc i) os))) e)

  -- where no object before has the id, all ids differ if no object behind has it
  pub id_behind : has-id (take i os) ≡ false
      → not (has-id (take (length os - (i + 1)) (drop (i + 1) os)))
      ≡ is_distinct (map (λ (p : Object). p.tid) os)
  id_behind e = sym (distinct-at ∙ ap (λ t. not t && not (has-id (drop (suc i) os))) e
      ∙ ap (λ l. not (has-id l)) (behind os i))

-- where the others' extents are apart, all are if this one meets none of them
module _ (es : List (ℕ × ℕ)) (i : ℕ) (lt : i < length es)
    (others : are_extents_apart (remove es i) ≡ true) where
  abbrev is-beside : List (ℕ × ℕ) → Bool
  is-beside fs = is_free fs (get_or es i (0, 0)).1 (get_or es i (0, 0)).0

  apart-at : are_extents_apart es ≡ (is-beside (take i es) && is-beside (drop (suc i) es))
  apart-at =
      apart-pairs es
      ∙ pairwise_at beside beside-both-ways es i (get_or es i (0, 0)) lt
      (get_or_default es i (0, 0) (get_or es i (0, 0)) lt)
      ∙ ap (λ t. (is-beside (take i es) && is-beside (drop (suc i) es)) && t)
      (sym (apart-pairs (remove es i)) ∙ others)
      ∙ and-true _

  module _ (start : ℕ) (from : start ≡ (get_or es i (0, 0)).0) where
    -- where an extent before meets this one, the extents do not all lie apart
    pub met_before : is_free (take i es) (get_or es i (0, 0)).1 start ≡ false
        → false ≡ are_extents_apart es
    met_before e =
        sym (apart-at ∙ ap (λ t. t && is-beside (drop (suc i) es))
        (ap (is_free (take i es) (get_or es i (0, 0)).1) (sym from) ∙ e))

    -- where no extent before meets this one, all lie apart if none behind meets it
    pub met_behind : is_free (take i es) (get_or es i (0, 0)).1 start ≡ true
        → is_free (take (length es - (i + 1)) (drop (i + 1) es)) (get_or es i (0, 0)).1 start
        ≡ are_extents_apart es
    met_behind e =
        sym (apart-at
        ∙ ap (λ t. t && is-beside (drop (suc i) es))
        (ap (is_free (take i es) (get_or es i (0, 0)).1) (sym from) ∙ e)
        ∙ ap is-beside (behind es i)
        ∙ ap (is_free (take (length es - (i + 1)) (drop (i + 1) es)) (get_or es i (0, 0)).1)
        (sym from))

-- ---- objects and their extents

abbrev ids : List Object → List ℕ
ids os = map (λ (o : Object). o.tid) os

-- objects and their extents are consistent where the ids differ and the extents are apart
pub consistent_parts : (os : List Object) (es : List (ℕ × ℕ)) → HaveLengths os es
    → are_consistent (objects_in os es) ≡ (is_distinct (ids os) && are_extents_apart es)
consistent_parts os es l =
    ap (λ l. is_distinct l && are_all_apart (objects_in os es)) (ids_in os es l)
    ∙ ap (λ t. is_distinct (ids os) && t) (apart_in os es l)

-- the objects without the one of a place: what their being consistent says, and when they are
module _ (os : List Object) (es : List (ℕ × ℕ)) (l : HaveLengths os es) (i : ℕ) where
  others-parts : are_consistent (objects_in (remove os i) (remove es i)) ≡ true
      → (is_distinct (ids (remove os i)) ≡ true) × (are_extents_apart (remove es i) ≡ true)
  others-parts e = and_parts _ _
      (sym (consistent_parts (remove os i) (remove es i) (lengths_remove os es i l)) ∙ e)

  -- where the other objects are consistent, their ids differ
  pub others_distinct : are_consistent (objects_in (remove os i) (remove es i)) ≡ true
      → is_distinct (ids (remove os i)) ≡ true
  others_distinct e = (others-parts e).0

  -- where the other objects are consistent, their extents lie apart
  pub others_apart : are_consistent (objects_in (remove os i) (remove es i)) ≡ true
      → are_extents_apart (remove es i) ≡ true
  others_apart e = (others-parts e).1

  pub others_consistent : Object → i < length os → are_consistent (objects_in os es) ≡ true
      → are_consistent (objects_in (remove os i) (remove es i)) ≡ true
  others_consistent o lt e =
      let h = and_parts (is_distinct (ids os)) (are_extents_apart es)
      (sym (consistent_parts os es l) ∙ e) in
      let count = same_count os es l in
      consistent_parts (remove os i) (remove es i) (lengths_remove os es i l)
      ∙ and_from _ _
      (distinct-pairs (remove os i)
      ∙ pairwise_without differ differ-both-ways os i o lt (sym (distinct-pairs os) ∙ h.0))
      (apart-pairs (remove es i)
      ∙ pairwise_without beside beside-both-ways es i (0, 0) (omega (arith, lt, count))
      (sym (apart-pairs es) ∙ h.1))

-- with another object in a place, all but this place are consistent as they were
pub consistent_but_set : (os : List Object) (es : List (ℕ × ℕ)) (i : ℕ) (o : Object) (e : ℕ × ℕ)
    → HaveLengths os es → i < length os
    → are_consistent (objects_in os es) ≡ true
    → are_consistent (objects_in (remove (set os i o) i) (remove (set es i e) i)) ≡ true
consistent_but_set os es i o e l lt is =
    ap (λ (ps : List Object). are_consistent (objects_in ps (remove (set es i e) i)))
    (remove_set os i o)
    ∙ ap (λ (fs : List (ℕ × ℕ)). are_consistent (objects_in (remove os i) fs)) (remove_set es i e)
    ∙ others_consistent os es l i o lt is

-- with an object behind the others, all but the last are consistent
pub consistent_but_last : (os : List Object) (es : List (ℕ × ℕ)) (o : Object) (e : ℕ × ℕ)
    → length es ≡ length os → are_consistent (objects_in os es) ≡ true
    → are_consistent (objects_in (remove (os ++ o ∷ []) (length os))
    (remove (es ++ e ∷ []) (length os))) ≡ true
consistent_but_last os es o e count is =
    rw (sym count, remove_last es e, count, remove_last os o) is

-- ---- what a change made, where it is consistent

-- a change that answers whether its objects are consistent did what it may
pub done_where : (done : Bool) (objects : List Placed) → done ≡ are_consistent objects
    → if_done done objects ≡ if_consistent (Some objects)
done_where true objects e = ap (λ t. cond t (Some objects) None) e
done_where false objects e = ap (λ t. cond t (Some objects) None) e

gone-unused : {objects next : List Placed} (id : ℕ) → IsWithoutOne objects next
    → contains (placed_tids objects) id ≡ false → contains (placed_tids next) id ≡ false
gone-unused id (gone q objects) e =
    (or_parts (nat_eq id q.object.tid) (contains (placed_tids objects) id) e).1
gone-unused id (later q objects next is) e =
    let h = or_parts (nat_eq id q.object.tid) (contains (placed_tids objects) id) e in
    or_from _ _ h.0 (gone-unused id is h.1)

gone-distinct : {objects next : List Placed} → IsWithoutOne objects next
    → is_distinct (placed_tids objects) ≡ true → is_distinct (placed_tids next) ≡ true
gone-distinct (gone q objects) e =
    (and_parts (not (contains (placed_tids objects) q.object.tid)) (is_distinct (placed_tids objects)) e).1
gone-distinct (later q objects next is) e =
    let h = and_parts (not (contains (placed_tids objects) q.object.tid)) (is_distinct (placed_tids objects)) e in
    and_from _ _ (not_from_false _ (gone-unused q.object.tid is (not-true _ h.0)))
    (gone-distinct is h.1)

without-cases : (tid : ℕ) (objects : List Placed) (o : Option (List Placed))
    → placed_without tid objects ≡ o → are_consistent objects ≡ true
    → o ≡ if_consistent o
without-cases tid objects None e is = refl
without-cases tid objects (Some next) e is =
    let h = and_parts (is_distinct (placed_tids objects)) (are_all_apart objects) is in
    let left = is_gone tid objects next e in
    sym (ap (λ t. cond t (Some next) None)
    (and_from _ _ (gone-distinct left h.0) (apart_without_one left h.1)))

-- objects without one are consistent as they were
pub consistent_without : (tid : ℕ) (objects : List Placed) → are_consistent objects ≡ true
    → placed_without tid objects ≡ if_consistent (placed_without tid objects)
consistent_without tid objects is = without-cases tid objects (placed_without tid objects) refl is

-- ---- the catalogue of such objects, and the id of its directory

-- what a change gave, given that it was consistent
record IsKept (o : Option (List Placed)) (objects : List Placed) : Type 0 where
  is : o ≡ Some objects
  consistent : are_consistent objects ≡ true

test-cases : (objects next : List Placed) (t : Bool) → are_consistent objects ≡ t
    → Some next ≡ cond t (Some objects) None → IsKept (Some objects) next
test-cases objects next true is e = let g : objects ≡ next = cc in
    record { is = ap Some g; consistent = ap are_consistent (sym g) ∙ is }
test-cases objects next false is e = cc

is-kept : (o : Option (List Placed)) (objects : List Placed) (done : Bool) → done ≡ true
    → if_done done objects ≡ if_consistent o → IsKept o objects
is-kept None objects true holds e = cc
is-kept (Some l) objects true holds e = test-cases l objects (are_consistent l) refl e
is-kept o objects false holds e = cc

module _ (limit : ℕ) (c : Catalogue) (r : Record) (os : List Object) (es : List (ℕ × ℕ))
    (l : HaveLengths os es) (done : Bool) (holds : done ≡ true)
    (applied : if_done done (objects_in os es)
    ≡ if_consistent (objects_after limit c.objects r.action)) where
  kept : IsKept (objects_after limit c.objects r.action) (objects_in os es)
  kept = is-kept (objects_after limit c.objects r.action) (objects_in os es) done holds applied

  abbrev has-directory : Bool
  has-directory = list_any (λ (o : Object). nat_eq r.directory o.tid) os

  consistent-where : is_consistent (numbered r (objects_in os es)) ≡ not has-directory
  consistent-where =
      let h = and_parts (is_distinct (placed_tids (objects_in os es))) (are_all_apart (objects_in os es))
      kept.consistent in
      ap (λ i. (not (contains i r.directory) && is_distinct (placed_tids (objects_in os es)))
      && are_all_apart (objects_in os es)) (ids_in os es l)
      ∙ ap (λ t. (not t && is_distinct (placed_tids (objects_in os es)))
      && are_all_apart (objects_in os es)) (used_by r.directory os)
      ∙ ap (λ t. (not has-directory && t) && are_all_apart (objects_in os es)) h.0
      ∙ ap (λ t. (not has-directory && true) && t) h.1
      ∙ and-true (not has-directory && true) ∙ and-true (not has-directory)

  -- no object has the directory's id: that is the next catalogue
  pub goes_on : has-directory ≡ false
      → catalogue_after limit c r ≡ Some (numbered r (objects_in os es))
  goes_on e = step_from limit c r (objects_in os es) kept.is (consistent-where ∙ ap not e)

  -- one has: the record makes a fault of the list
  pub breaks : has-directory ≡ true → catalogue_after limit c r ≡ None
  breaks e =
      ap (λ o. o >>= λ k. cond (is_consistent (numbered r k)) (Some (numbered r k)) None) kept.is
      ∙ ap (λ t. cond t (Some (numbered r (objects_in os es))) None) (consistent-where ∙ ap not e)

  -- one has: that is the fault
  pub has_directory : (id : ℕ) → id ≡ r.directory → has-directory ≡ true
      → HasListFault limit c r (DirectoryId id)
  has_directory id same e = (
    same,
    (
      objects_in os es,
      kept.is,
      ap (contains (tids_of (objects_in os es))) same
          ∙ ap (λ l. contains l r.directory) (ids_in os es l) ∙ used_by r.directory os ∙ e,
    ),
  )
