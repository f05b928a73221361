use Rattle.std.proofs.Common.{◌≡◌, ◌+◌, ◌<◌, ◌≤◌, ◌^◌, ℕ, true, take}
use Rattle.mot_carousel.specs.Gap.{is_free}
use Rattle.mot_carousel.proofs.Sweep.{are_apart}
use Rattle.mot_carousel.proofs.gap.raised.Given as goal

-- each one so far ends before the start, or begins beyond; no free start lies below it
abbrev pub invariant-loop-from : goal.invariant-loop-from
invariant-loop-from l = record {
  least : l.start ≤ l.above;
  low : l.above < 2 ^ 33;
  rises : l.above ≡ l.start → l.start + l.len ≤ l.beyond;
  apart : are_apart l.above l.beyond (take l.from-index l.extents) ≡ true;
  next : (k : ℕ) → l.start ≤ k → is_free l.extents l.len k ≡ true → l.above ≤ k;
}
