use Rattle.std.proofs.Common.{◌≡◌, ◌+◌, ◌-◌, ◌<◌, ◌≤◌, ◌^◌, ℕ, true}
use Rattle.mot_carousel.specs.Gap.{is_free}
use Rattle.mot_carousel.proofs.gap.first_fit.Given as goal

-- no start before this one is free
abbrev pub invariant-loop-start : goal.invariant-loop-start
invariant-loop-start l = record {
  low : l.start < 2 ^ 33;
  before : (k : ℕ) → is_free l.extents l.len k ≡ true → l.start ≤ k;
}

abbrev pub decreases-loop-start : goal.decreases-loop-start
decreases-loop-start l = l.data_len + 1 - l.start
