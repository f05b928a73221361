-- An answer that is a least gap is the one that the definition finds.
use Rattle.std.proofs.Common.{◌≡◌, ℕ, ◌+◌, ◌<◌, ◌≤◌, true, List, Option, Some, None, refl, ap}
use Rattle.std.proofs.Common.{arith}
use Rattle.mot_carousel.specs.Gap.{is_free, least_gap}
use Rattle.mot_carousel.specs.Gap.{IsLeastGap}
use Rattle.mot_carousel.proofs.Gaps.{least_gap_is_least}

pub only-one : (extents : List (ℕ × ℕ)) (n size : ℕ) (a b : Option ℕ) → IsLeastGap extents n size a
    → IsLeastGap extents n size b → a ≡ b
only-one extents n size None None p q = refl
only-one extents n size None (Some y) p q = absurd (p y q.0)
only-one extents n size (Some x) None p q = absurd (q x p.0)
only-one extents n size (Some x) (Some y) p q =
    let low = p.1 y q.0 in let high = q.1 x p.0 in let same : x ≡ y = omega (arith, low, high) in
    ap Some same

-- a free start that fits the area and that no free one lies before is the least gap
pub gap_found : (extents : List (ℕ × ℕ)) (n size start : ℕ) → start + n ≤ size
    → is_free extents n start ≡ true
    → ((k : ℕ) → is_free extents n k ≡ true → start ≤ k) → Some start ≡ least_gap extents n size
gap_found extents n size start within free first =
    only-one extents n size (Some start) (least_gap extents n size)
    ((within, free), λ k fits. first k fits.1) (least_gap_is_least extents n size)

-- where each free start lies too near the end of the area, there is no gap
pub no_gap : (extents : List (ℕ × ℕ)) (n size start : ℕ) → size < start + n
    → ((k : ℕ) → is_free extents n k ≡ true → start ≤ k) → None ≡ least_gap extents n size
no_gap extents n size start over first =
    only-one extents n size None (least_gap extents n size)
    (λ k fits. let low = first k fits.1 in let within = fits.0 in omega (arith, over, low, within))
    (least_gap_is_least extents n size)
