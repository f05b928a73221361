-- Extents in another order leave the same places free.
use Rattle.std.proofs.Common.{◌≡◌, ℕ, ◌+◌, Bool, true, false, cond, List, [], ◌∷◌, Option, Some, None}
use Rattle.std.proofs.Common.{refl, sym, ◌∙◌, ap, arith}
use Rattle.std.specs.Prelude.{sum_by, nat_eq, ◌&&◌}
use Rattle.std.proofs.lemmas.Bool.Decides.{nat_tests}
use Rattle.std.proofs.lemmas.List.Sums.{sum_by-cons}
use Rattle.mot_carousel.specs.Gap.{AreReordered, IsLeastGap, is_beside, is_free, least_gap}
use Rattle.mot_carousel.proofs.FirstFit.{only-one}
use Rattle.mot_carousel.proofs.Gaps.{least_gap_is_least}

-- 1 for an extent that is met, and 0 for another
abbrev met : ℕ → ℕ → ℕ × ℕ → ℕ
met n start e = cond (is_beside start n e) 0 1

met-cases : (b rest : Bool) (sum : ℕ) → rest ≡ nat_eq sum 0
    → (b && rest) ≡ nat_eq (cond b 0 1 + sum) 0
met-cases true rest sum e = grind (arith, nat_tests)
met-cases false rest sum e = grind (arith, nat_tests)

-- a place is free if it meets none
free-sum : (xs : List (ℕ × ℕ)) (n start : ℕ)
    → is_free xs n start ≡ nat_eq (sum_by (met n start) xs) 0
free-sum [] n start = refl
free-sum (e ∷ xs) n start =
    met-cases (is_beside start n e) (is_free xs n start) (sum_by (met n start) xs)
    (free-sum xs n start)
    ∙ ap (λ s. nat_eq s 0) (sym (sum_by-cons (met n start) e xs))

-- in another order they leave the same places free
pub free-reordered : (xs ys : List (ℕ × ℕ)) (n start : ℕ) → AreReordered xs ys
    → is_free ys n start ≡ is_free xs n start
free-reordered xs ys n start same =
    free-sum ys n start ∙ ap (λ s. nat_eq s 0) (same (met n start)) ∙ sym (free-sum xs n start)

IsLeastGap-reordered : (xs ys : List (ℕ × ℕ)) (n size : ℕ) (a : Option ℕ) → AreReordered xs ys
    → IsLeastGap xs n size a → IsLeastGap ys n size a
IsLeastGap-reordered xs ys n size None same is =
    λ k fits. is k (fits.0, sym (free-reordered xs ys n k same) ∙ fits.1)
IsLeastGap-reordered xs ys n size (Some x) same is = (
  (is.0.0, free-reordered xs ys n x same ∙ is.0.1),
  λ k fits. is.1 k (fits.0, sym (free-reordered xs ys n k same) ∙ fits.1),
)

-- the order of the extents does not matter
pub least_gap-reordered : (xs ys : List (ℕ × ℕ)) (n size : ℕ) → AreReordered xs ys
    → least_gap ys n size ≡ least_gap xs n size
least_gap-reordered xs ys n size same =
    only-one ys n size (least_gap ys n size) (least_gap xs n size) (least_gap_is_least ys n size)
    (IsLeastGap-reordered xs ys n size (least_gap xs n size) same (least_gap_is_least xs n size))
