-- The marks that say which ids of a window are used.
use Rattle.std.proofs.Common.{◌≡◌, ◌≢◌, ℕ, ◌+◌, ◌<◌, ◌≤◌, ◌||◌, Bool, true, false, List, [], length}
use Rattle.std.proofs.Common.{get_or, take, set, replicate, refl, ap, subst, ◌∙◌, sym, arith, inl}
use Rattle.std.proofs.Common.{inr, get_or-set_same, get_or-set_other, length-set, lit<}
use Rattle.std.proofs.lemmas.Bool.{eq-eqb, false≢true, ne_eqb, cases_eq, cases_lt}
use Rattle.std.proofs.lemmas.List.{get_or-replicate, length-replicate}
use Rattle.std.proofs.lemmas.List.Folds.{list_any_more}
use Rattle.std.proofs.lemmas.List.Sums.{prefix_len-le-length, prefix_len_passes, prefix_len_stops}
use Rattle.std.specs.List.{prefix_len}
use Rattle.std.specs.Prelude.{nat_eq}
use Rattle.mot_objects.specs.Ids.{contains}
use Rattle.mot_carousel.specs.Inner.{id_above, PassesUsed}

-- each mark says whether the id so many places above the first is one of these
pub record Marks (first : ℕ) (ids : List ℕ) (marks : List Bool) : Type 0 where
  pub size : length marks ≡ 1024
  pub at : (k : ℕ) → k < 1024 → get_or marks k false ≡ contains ids (id_above first k)

or_true : (b : Bool) → (b || true) ≡ true
or_true true = refl
or_true false = refl

or_false : (b : Bool) → (b || false) ≡ b
or_false true = refl
or_false false = refl

-- of one id more, it is there, and nothing else that was not
taken-same : (used : List ℕ) (i d id : ℕ) → i < length used → id ≡ get_or used i d
    → contains (take (i + 1) used) id ≡ true
taken-same used i d id l e = list_any_more (nat_eq id) used i d l
    ∙ ap (λ b. contains (take i used) id || b) (eq-eqb id (get_or used i d) e)
    ∙ or_true (contains (take i used) id)

taken-other : (used : List ℕ) (i d id : ℕ) → i < length used → id ≢ get_or used i d
    → contains (take (i + 1) used) id ≡ contains (take i used) id
taken-other used i d id l n = list_any_more (nat_eq id) used i d l
    ∙ ap (λ b. contains (take i used) id || b) (ne_eqb id (get_or used i d) n)
    ∙ or_false (contains (take i used) id)

-- other places are other ids
apart : (first j k : ℕ) → j < 65535 → k < 65535 → k ≢ j → id_above first k ≢ id_above first j
apart first j k p q n = λ e. n (omega arith)

-- no mark of a new window is set, and there are no ids yet
pub marks-none : (first n : ℕ) → n ≡ 1024 → Marks first [] (replicate n false)
marks-none first n e = record {
  size = length-replicate n false ∙ e;
  at = λ k l. get_or-replicate n k false false (omega arith);
}

-- an id that lies in the window sets its mark
pub marks-set : (first : ℕ) (used : List ℕ) (i d places : ℕ) (marks : List Bool) → i < length used
    → id_above first places ≡ get_or used i d → places < 1024 → Marks first (take i used) marks
    → Marks first (take (i + 1) used) (set marks places true)
marks-set first used i d places marks l is near was = record {
  size = length-set marks places true ∙ was.size;
  at = λ k within. elim (cases_eq k places) [
    | inl e ↦ rw (e, taken-same used i d (id_above first places) l is)
        (get_or-set_same marks places true false (omega (arith, was.size)))
    | inr n ↦ get_or-set_other marks places k true false n ∙ was.at k within
        ∙ sym (taken-other used i d (id_above first k) l
        (subst (λ x. id_above first k ≢ x) is
        (apart first places k (omega arith) (omega arith) n)))
  ];
}

-- one that lies further sets none
pub marks-far : (first : ℕ) (used : List ℕ) (i d places : ℕ) (marks : List Bool) → i < length used
    → id_above first places ≡ get_or used i d → places < 65535 → 1024 ≤ places
    → Marks first (take i used) marks → Marks first (take (i + 1) used) marks
marks-far first used i d places marks l is low far was = record {
  size = was.size;
  at = λ k within. was.at k within ∙ sym (taken-other used i d (id_above first k) l
      (subst (λ x. id_above first k ≢ x) is
      (apart first places k low (omega arith) (omega arith))));
}

-- the ids before the first that has no mark are used
pub marks-passed : (first : ℕ) (used : List ℕ) (marks : List Bool) (places next : ℕ) → 1 ≤ first
    → first ≤ 65535 → Marks first used marks → places ≡ prefix_len (λ b. b) marks
    → next ≡ id_above first places → PassesUsed first used next
marks-passed first used marks places next p q are count e = record {
  places = places;
  is = e;
  passed = λ k l. sym (are.at k (omega (arith, within)))
      ∙ prefix_len_passes (λ b. b) marks k false (omega (arith, count));
  goes_on = λ here. elim (cases_lt 0 places) [
    | inl l ↦ l
    | inr l ↦ absurd (false≢true (sym (stop (omega arith)) ∙ are.at 0 (lit< tt)
        ∙ ap (contains used) zero ∙ here))
  ];
}
  where
    within : places ≤ 1024
    within = omega (arith, count, prefix_len-le-length (λ b. b) marks, are.size)

    zero : id_above first 0 ≡ first
    zero = omega arith

    stop : places ≡ 0 → get_or marks 0 false ≡ false
    stop none = subst (λ n. get_or marks n false ≡ false) (sym count ∙ none)
        (prefix_len_stops (λ b. b) marks false (omega (arith, count, are.size, none)))
