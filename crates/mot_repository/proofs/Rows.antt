-- Gaps, computed on worked rows.
use Rattle.std.proofs.Common.{◌≡◌, [], ◌∷◌, Some, None, refl}
use Rattle.mot_carousel.specs.Gap.{least_gap}

middle : least_gap ((100, 100) ∷ []) 100 300 ≡ Some 0
unfolding least_gap
middle = refl

too_small : least_gap ((100, 100) ∷ []) 150 300 ≡ None
unfolding least_gap
too_small = refl

second_gap : least_gap ((10, 5) ∷ (0, 3) ∷ []) 8 30 ≡ Some 15
unfolding least_gap
second_gap = refl

full : least_gap ((0, 1) ∷ []) 1 1 ≡ None
unfolding least_gap
full = refl

too_long : least_gap [] 2 1 ≡ None
unfolding least_gap
too_long = refl

no_extents : least_gap [] 10 10 ≡ Some 0
unfolding least_gap
no_extents = refl

exact : least_gap ((0, 10) ∷ (15, 5) ∷ []) 5 20 ≡ Some 10
unfolding least_gap
exact = refl

exact_at_the_end : least_gap ((0, 10) ∷ []) 10 20 ≡ Some 10
unfolding least_gap
exact_at_the_end = refl

one_byte_short : least_gap ((0, 10) ∷ []) 10 19 ≡ None
unfolding least_gap
one_byte_short = refl

between_two_unsorted : least_gap ((20, 10) ∷ (0, 10) ∷ []) 10 30 ≡ Some 10
unfolding least_gap
between_two_unsorted = refl

extents_that_overlap : least_gap ((0, 10) ∷ (5, 10) ∷ (14, 2) ∷ []) 4 20 ≡ Some 16
unfolding least_gap
extents_that_overlap = refl
