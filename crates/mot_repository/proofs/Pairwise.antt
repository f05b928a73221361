-- Lists of which any two elements stand in a relation, and one element of such a list.
use Rattle.std.proofs.Common.{◌≡◌, ℕ, zero, suc, ◌<◌, Bool, true, false, ◌&&◌, List, [], ◌∷◌, ◌++◌}
use Rattle.std.proofs.Common.{length, set, get_or, take, drop, refl, sym, ap, ◌∙◌, arith}
use Rattle.std.specs.Prelude.{remove}
use Rattle.std.specs.List.{list_all}
use Rattle.std.proofs.Math.Seq.{split_at}
use Rattle.std.proofs.lemmas.Bool.{and_parts}
use Rattle.std.proofs.lemmas.List.{get_or_default}
use Rattle.std.proofs.lemmas.List.Folds.{list_all-append}

-- a list without the element of a place is what stands before it and behind it
pub remove_parts : {A : Type 0} (xs : List A) (i : ℕ) → i < length xs
    → remove xs i ≡ take i xs ++ drop (suc i) xs
remove_parts [] i lt = absurd (omega (arith, lt))
remove_parts (x ∷ xs) zero lt = refl
remove_parts (x ∷ xs) (suc i) lt = ap (λ l. x ∷ l) (remove_parts xs i (omega (arith, lt)))

-- another element in its place stands before and behind the same
pub remove_set : {A : Type 0} (xs : List A) (i : ℕ) (y : A) → remove (set xs i y) i ≡ remove xs i
remove_set [] zero y = refl
remove_set [] (suc i) y = refl
remove_set (x ∷ xs) zero y = refl
remove_set (x ∷ xs) (suc i) y = ap (λ l. x ∷ l) (remove_set xs i y)

-- the last element taken off again
pub remove_last : {A : Type 0} (xs : List A) (y : A) → remove (xs ++ y ∷ []) (length xs) ≡ xs
remove_last [] y = refl
remove_last (x ∷ xs) y = ap (λ l. x ∷ l) (remove_last xs y)

and-swap : (a b c d : Bool) → ((a && b) && (c && d)) ≡ ((a && c) && (b && d))
and-swap true true c d = refl
and-swap true false true d = refl
and-swap true false false d = refl
and-swap false b c d = refl

and-turn : (a b c : Bool) → (a && (b && c)) ≡ (b && (a && c))
and-turn true true c = refl
and-turn true false c = refl
and-turn false true c = refl
and-turn false false c = refl

all-middle : {A : Type 0} (f : A → Bool) (xs ys : List A) (y : A)
    → list_all f (xs ++ y ∷ ys) ≡ (f y && list_all f (xs ++ ys))
all-middle f [] ys y = refl
all-middle f (x ∷ xs) ys y =
    ap (λ t. f x && t) (all-middle f xs ys y) ∙ and-turn (f x) (f y) (list_all f (xs ++ ys))

module _ {A : Type 0} (related : A → A → Bool)
    (both_ways : (x y : A) → related x y ≡ related y x) where
  -- each element is related to all behind it
  abbrev pub are_pairwise : List A → Bool
  are_pairwise [] = true
  are_pairwise (x ∷ xs) = list_all (related x) xs && are_pairwise xs

  -- an element counts the same wherever it stands
  middle : (xs ys : List A) (y : A)
      → are_pairwise (xs ++ y ∷ ys) ≡ (list_all (related y) (xs ++ ys) && are_pairwise (xs ++ ys))
  middle [] ys y = refl
  middle (x ∷ xs) ys y =
      ap (λ t. t && are_pairwise (xs ++ y ∷ ys)) (all-middle (related x) xs ys y)
      ∙ ap (λ t. (related x y && list_all (related x) (xs ++ ys)) && t) (middle xs ys y)
      ∙ and-swap (related x y) (list_all (related x) (xs ++ ys)) (list_all (related y) (xs ++ ys))
      (are_pairwise (xs ++ ys))
      ∙ ap (λ t. (t && list_all (related y) (xs ++ ys))
      && (list_all (related x) (xs ++ ys) && are_pairwise (xs ++ ys))) (both_ways x y)

  -- the pairs of a list are those without an element, and those of this element
  pub pairwise_at : (xs : List A) (i : ℕ) (x : A) → i < length xs → x ≡ get_or xs i x
      → are_pairwise xs ≡ ((list_all (related x) (take i xs)
      && list_all (related x) (drop (suc i) xs)) && are_pairwise (remove xs i))
  pairwise_at xs i x lt is =
      ap are_pairwise (split_at xs i x lt)
      ∙ ap (λ y. are_pairwise (take i xs ++ y ∷ drop (suc i) xs)) (sym is)
      ∙ middle (take i xs) (drop (suc i) xs) x
      ∙ ap (λ t. t && are_pairwise (take i xs ++ drop (suc i) xs))
      (list_all-append (related x) (take i xs) (drop (suc i) xs))
      ∙ ap (λ l. (list_all (related x) (take i xs) && list_all (related x) (drop (suc i) xs))
      && are_pairwise l) (sym (remove_parts xs i lt))

  -- what holds of all pairs holds of those without an element
  pub pairwise_without : (xs : List A) (i : ℕ) (d : A) → i < length xs → are_pairwise xs ≡ true
      → are_pairwise (remove xs i) ≡ true
  pairwise_without xs i d lt e =
      let x = get_or xs i d in
      (and_parts _ _ (sym (pairwise_at xs i x lt (get_or_default xs i d x lt)) ∙ e)).1
