use Rattle.std.proofs.Common.{sym, ◌∙◌}
use Rattle.mot_base.proofs.checksum.Front.over_fours.Goals as goal

pub loop-later-preserved : goal.loop-later-preserved
loop-later-preserved c = sym c.in-Some.ensures.same ∙ c.loop-later.invariant

pub loop-later-smaller : goal.loop-later-smaller
loop-later-smaller c = c.in-Some.ensures.shorter

pub returns : goal.returns
returns c = sym c.loop-later.invariant
