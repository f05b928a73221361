use Rattle.std.proofs.Common.{◌≡◌, ◌+◌, ◌-◌, ◌<◌, ◌≤◌, ℕ, None, false}
use Rattle.std.specs.Prelude.{is_none}
use Rattle.mot_carousel.specs.Gap.{least_gap}
use Rattle.mot_carousel.proofs.gap.longest_gap.Given as goal

-- the one has a gap, and the other and all above it have none
abbrev pub invariant-loop-fits : goal.invariant-loop-fits
invariant-loop-fits l = record {
  low : l.fits < l.above;
  high : l.above ≤ l.data_len + 1;
  has : is_none (least_gap l.extents l.fits l.data_len) ≡ false;
  none : (n : ℕ) → l.above ≤ n → least_gap l.extents n l.data_len ≡ None;
}

abbrev pub decreases-loop-fits : goal.decreases-loop-fits
decreases-loop-fits l = l.above - l.fits
