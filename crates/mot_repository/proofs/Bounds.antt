-- Bounds of all objects of a fold: what lies beyond them, and how they are kept.
use Rattle.std.proofs.Common.{◌≡◌, ℕ, zero, suc, ◌+◌, ◌-◌, ◌<◌, ◌≤◌, Bool, true, false, List, []}
use Rattle.std.proofs.Common.{◌∷◌, ◌++◌, length, map, set, get_or, take, drop, All, None, refl, sym}
use Rattle.std.proofs.Common.{ap, ◌∙◌, subst, arith, add-one, not}
use Rattle.std.specs.Prelude.{remove, nat_eq, nat_le, bytes_eq}
use Rattle.std.specs.List.{list_any}
use Rattle.std.proofs.lemmas.Bool.{and_from, or_right}
use Rattle.std.proofs.lemmas.Bool.Decides.{nat_tests}
use Rattle.std.proofs.lemmas.List.Elements.{All-nil, All-cons, All-head, All-tail, All-take}
use Rattle.std.proofs.lemmas.List.Elements.{All-weaker}
use Rattle.std.proofs.lemmas.List.Folds.{list_any_none}
use Rattle.std.proofs.lemmas.Slice.Eq.{bytes_eq-Decides}
use Rattle.mot_objects.specs.declared.object.Object.{Object}
use Rattle.mot_objects.specs.Ids.{is_distinct}
use Rattle.mot_objects.specs.Stands.{index_of}
use Rattle.mot_repository.specs.declared.opening.bounds.Bounds.{Bounds}
use Rattle.mot_carousel.specs.Gap.{is_free, is_beside}
use Rattle.mot_repository.specs.Inner.Bounds.{AreEndsWithin, AreIdsWithin, AreNamesFlagged}
use Rattle.mot_repository.specs.Inner.Bounds.{AreWithin, IsFlagged, is_flagged}
use Rattle.mot_repository.specs.Inner.Fold.{are_extents_apart}
use Rattle.mot_repository.proofs.Apart.{id_behind, met_behind}
use Rattle.mot_repository.proofs.Listing.{none_passes}
use Rattle.mot_repository.proofs.Pairwise.{remove_set, remove_last}

-- ---- what holds of all elements, with and without the one of a place

module _ {X : Type 0} (P : X → Type 0) where
  all-without : (xs : List X) (i : ℕ) → All P xs → All P (remove xs i)
  all-without [] zero h = h
  all-without [] (suc i) h = h
  all-without (x ∷ xs) zero h = All-tail P x xs h
  all-without (x ∷ xs) (suc i) h =
      All-cons P x (remove xs i) (All-head P x xs h) (all-without xs i (All-tail P x xs h))

  all-before : (xs : List X) (i : ℕ) → All P (remove xs i) → All P (take i xs)
  all-before xs zero h = All-nil P
  all-before [] (suc i) h = All-nil P
  all-before (x ∷ xs) (suc i) h =
      All-cons P x (take i xs) (All-head P x (remove xs i) h)
      (all-before xs i (All-tail P x (remove xs i) h))

  all-later : (xs : List X) (i : ℕ) → All P (remove xs i) → All P (drop (suc i) xs)
  all-later [] i h = All-nil P
  all-later (x ∷ xs) zero h = h
  all-later (x ∷ xs) (suc i) h = all-later xs i (All-tail P x (remove xs i) h)

  all-behind : (xs : List X) (i n : ℕ) → All P (remove xs i) → All P (take n (drop (i + 1) xs))
  all-behind xs i n h = All-take P n (drop (i + 1) xs)
      (subst (λ k. All P (drop k xs)) (sym (add-one i)) (all-later xs i h))

  all-with : (xs : List X) (i : ℕ) (x : X) → i < length xs → x ≡ get_or xs i x → P x
      → All P (remove xs i) → All P xs
  all-with [] i x lt is p h = absurd (omega (arith, lt))
  all-with (y ∷ ys) zero x lt is p h = All-cons P y ys (subst P is p) h
  all-with (y ∷ ys) (suc i) x lt is p h =
      All-cons P y ys (All-head P y (remove ys i) h)
      (all-with ys i x (omega (arith, lt)) is p (All-tail P y (remove ys i) h))

-- ---- ids

other-id : (greatest tid id : ℕ) → id ≤ greatest → greatest < tid → nat_eq tid id ≡ false
other-id greatest tid id le lt = grind (arith, nat_tests)

-- an id above the greatest is no object's
pub id_unused : (greatest tid : ℕ) (os : List Object) → AreIdsWithin greatest os → greatest < tid
    → list_any (λ (o : Object). nat_eq tid o.tid) os ≡ false
id_unused greatest tid os within lt =
    list_any_none (λ (o : Object). nat_eq tid o.tid) os
    (All-weaker (λ (o : Object). o.tid ≤ greatest) (λ (o : Object). nat_eq tid o.tid ≡ false)
    (λ o le. other-id greatest tid o.tid le lt) os within)

-- ids differ where those of the others do, and none of these is as great as this one's
pub id_above : (os : List Object) (i : ℕ) (o : Object) (greatest : ℕ) → i < length os
    → o ≡ get_or os i o
    → is_distinct (map (λ (p : Object). p.tid) (remove os i)) ≡ true
    → AreIdsWithin greatest (remove os i) → greatest < o.tid
    → true ≡ is_distinct (map (λ (p : Object). p.tid) os)
id_above os i o greatest lt is others within above =
    let P : Object → Type 0 = λ p. p.tid ≤ greatest in
    sym (ap not (id_unused greatest o.tid (take (length os - (i + 1)) (drop (i + 1) os))
    (all-behind P os i (length os - (i + 1)) within) above))
    ∙ id_behind os i o lt is others
    (id_unused greatest o.tid (take i os) (all-before P os i within) above)

-- ---- extents

lies-behind : (greatest n start : ℕ) (e : ℕ × ℕ) → e.0 + e.1 ≤ greatest → greatest ≤ start
    → is_beside start n e ≡ true
lies-behind greatest n start e le above =
    or_right (nat_le (start + n) e.0) (nat_le (e.0 + e.1) start) (grind (arith, nat_tests))

-- bytes from the greatest end on meet no extent
pub free_above : (greatest n start : ℕ) (es : List (ℕ × ℕ)) → AreEndsWithin greatest es
    → greatest ≤ start → is_free es n start ≡ true
free_above greatest n start [] within above = refl
free_above greatest n start (e ∷ es) within above =
    let P : ℕ × ℕ → Type 0 = λ f. f.0 + f.1 ≤ greatest in
    and_from _ _ (lies-behind greatest n start e (All-head P e es within) above)
    (free_above greatest n start es (All-tail P e es within) above)

-- extents lie apart where the others do, and this one begins where none of these reaches
pub start_above : (es : List (ℕ × ℕ)) (i greatest start : ℕ) → i < length es
    → are_extents_apart (remove es i) ≡ true → AreEndsWithin greatest (remove es i)
    → start ≡ (get_or es i (0, 0)).0 → greatest ≤ start → true ≡ are_extents_apart es
start_above es i greatest start lt others within from above =
    let P : ℕ × ℕ → Type 0 = λ f. f.0 + f.1 ≤ greatest in
    let size : ℕ = (get_or es i (0, 0)).1 in
    sym (free_above greatest size start (take (length es - (i + 1)) (drop (i + 1) es))
    (all-behind P es i (length es - (i + 1)) within) above)
    ∙ met_behind es i lt others start from
    (free_above greatest size start (take i es) (all-before P es i within) above)

-- ---- names

other-name : (flags : List Bool) (name other : List ℕ) (t : Bool) → bytes_eq other name ≡ t
    → IsFlagged flags other → is_flagged flags name ≡ false → t ≡ false
other-name flags name other true is on off =
    sym on ∙ ap (is_flagged flags) ((bytes_eq-Decides other name).0 is) ∙ off
other-name flags name other false is on off = refl

-- a name whose flag is off is no object's
pub name_unused : (flags : List Bool) (name : List ℕ) (os : List Object) → AreNamesFlagged flags os
    → is_flagged flags name ≡ false → None ≡ index_of name os
name_unused flags name os within off =
    sym (none_passes (λ (o : Object). bytes_eq o.name name) os
    (All-weaker (λ (o : Object). IsFlagged flags o.name)
    (λ (o : Object). bytes_eq o.name name ≡ false)
    (λ o on. other-name flags name o.name (bytes_eq o.name name) refl on off) os within))

-- ---- bounds of objects and extents as these change

-- bounds hold on without the object of a place
pub within_without : (b : Bounds) (os : List Object) (es : List (ℕ × ℕ)) (i : ℕ) → AreWithin b os es
    → AreWithin b (remove os i) (remove es i)
within_without b os es i h = record {
  ids = all-without (λ (o : Object). o.tid ≤ b.greatest_id) os i h.ids;
  ends = all-without (λ (e : ℕ × ℕ). e.0 + e.1 ≤ b.greatest_end) es i h.ends;
  names = all-without (λ (o : Object). IsFlagged b.names o.name) os i h.names;
}

-- with another object in a place, they hold of all but this place
pub within_but_set : (b : Bounds) (os : List Object) (es : List (ℕ × ℕ)) (i : ℕ) (o : Object)
    (e : ℕ × ℕ) → AreWithin b os es
    → AreWithin b (remove (set os i o) i) (remove (set es i e) i)
within_but_set b os es i o e h =
    rw (remove_set os i o, remove_set es i e) (within_without b os es i h)

-- with an object behind the others, they hold of all but the last
pub within_but_last : (b : Bounds) (os : List Object) (es : List (ℕ × ℕ)) (o : Object) (e : ℕ × ℕ)
    → length es ≡ length os → AreWithin b os es
    → AreWithin b (remove (os ++ o ∷ []) (length os)) (remove (es ++ e ∷ []) (length os))
within_but_last b os es o e count h =
    rw (sym count, remove_last es e, count, remove_last os o) h

-- bounds that hold of all but one object, widened by this one, hold of all
pub widened : (old new : Bounds) (os : List Object) (es : List (ℕ × ℕ)) (i : ℕ) (o : Object)
    (e : ℕ × ℕ) → i < length os → i < length es → o ≡ get_or os i o → e ≡ get_or es i e
    → AreWithin old (remove os i) (remove es i)
    → o.tid ≤ new.greatest_id → old.greatest_id ≤ new.greatest_id
    → e.0 + e.1 ≤ new.greatest_end → old.greatest_end ≤ new.greatest_end
    → IsFlagged new.names o.name
    → ((name : List ℕ) → IsFlagged old.names name → IsFlagged new.names name)
    → AreWithin new os es
widened old new os es i o e count count_e at from h id ids end ends name names = record {
  ids = let P : Object → Type 0 = λ p. p.tid ≤ new.greatest_id in
      all-with P os i o count at id
      (All-weaker (λ (p : Object). p.tid ≤ old.greatest_id) P (λ p le. omega (arith, le, ids))
      (remove os i) h.ids);
  ends = let P : ℕ × ℕ → Type 0 = λ f. f.0 + f.1 ≤ new.greatest_end in
      all-with P es i e count_e from end
      (All-weaker (λ (f : ℕ × ℕ). f.0 + f.1 ≤ old.greatest_end) P
      (λ f le. omega (arith, le, ends)) (remove es i) h.ends);
  names = let P : Object → Type 0 = λ p. IsFlagged new.names p.name in
      all-with P os i o count at name
      (All-weaker (λ (p : Object). IsFlagged old.names p.name) P (λ p on. names p.name on)
      (remove os i) h.names);
}
