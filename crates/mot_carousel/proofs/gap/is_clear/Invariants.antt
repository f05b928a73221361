use Rattle.std.proofs.Common.{◌≡◌, true, take}
use Rattle.mot_carousel.specs.Gap.{is_free}
use Rattle.mot_carousel.proofs.gap.is_clear.Given as goal

-- none so far is met
abbrev pub invariant-loop-from : goal.invariant-loop-from
invariant-loop-from l = is_free (take l.from-index l.extents) l.len l.start ≡ true
