-- Where so many bytes have no gap, more have none.
use Rattle.std.proofs.Common.{◌≡◌, ℕ, ◌+◌, ◌<◌, ◌≤◌, true, false, List, [], ◌∷◌, Option, Some}
use Rattle.std.proofs.Common.{None, refl, subst, arith}
use Rattle.std.specs.Prelude.{is_none}
use Rattle.std.proofs.lemmas.Bool.Decides.{nat_tests}
use Rattle.mot_carousel.specs.Gap.{is_free, least_gap}
use Rattle.mot_carousel.specs.Gap.{IsLeastGap}
use Rattle.mot_carousel.proofs.Gaps.{least_gap_is_least}

fewer_free : (extents : List (ℕ × ℕ)) (n m start : ℕ) → n ≤ m → is_free extents m start ≡ true
    → is_free extents n start ≡ true
fewer_free [] n m start le is = refl
fewer_free (e ∷ extents) n m start le is = grind (arith, nat_tests, fewer_free extents n m start le)

-- no bytes at all lie everywhere
nothing_free : (extents : List (ℕ × ℕ)) → is_free extents 0 0 ≡ true
nothing_free [] = refl
nothing_free (e ∷ extents) = grind (arith, nat_tests, nothing_free extents)

none-cases : (extents : List (ℕ × ℕ)) (m size : ℕ) (answer : Option ℕ)
    → ((start : ℕ) → (start + m ≤ size) × (is_free extents m start ≡ true) → ⊥)
    → IsLeastGap extents m size answer → answer ≡ None
none-cases extents m size None none is = refl
none-cases extents m size (Some start) none is = absurd (none start is.0)

some-cases : (extents : List (ℕ × ℕ)) (size : ℕ) (answer : Option ℕ)
    → IsLeastGap extents 0 size answer → is_none answer ≡ false
some-cases extents size None is = absurd (is 0 (omega arith, nothing_free extents))
some-cases extents size (Some start) is = refl

-- a gap for no bytes at all is always there
pub zero_bytes_fit : (extents : List (ℕ × ℕ)) (size : ℕ)
    → is_none (least_gap extents 0 size) ≡ false
zero_bytes_fit extents size =
    some-cases extents size (least_gap extents 0 size) (least_gap_is_least extents 0 size)

-- more bytes than the area has have no gap
pub more_than_all : (extents : List (ℕ × ℕ)) (n size : ℕ) → size < n
    → least_gap extents n size ≡ None
more_than_all extents n size lt =
    none-cases extents n size (least_gap extents n size)
    (λ start fits. let within = fits.0 in omega (arith, within, lt))
    (least_gap_is_least extents n size)

-- where so many bytes have no gap, more have none
pub none_above : (extents : List (ℕ × ℕ)) (n m size : ℕ) → least_gap extents n size ≡ None → n ≤ m
    → least_gap extents m size ≡ None
none_above extents n m size none le =
    let no = subst (IsLeastGap extents n size) none (least_gap_is_least extents n size) in
    none-cases extents m size (least_gap extents m size)
    (λ start fits.
    let within = fits.0 in
    no start (omega (arith, within, le), fewer_free extents n m start le fits.1))
    (least_gap_is_least extents m size)
