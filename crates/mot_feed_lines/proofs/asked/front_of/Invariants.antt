use Rattle.std.proofs.Common.{◌≤◌}
use Rattle.mot_feed_lines.proofs.asked.front_of.Given as goal

abbrev pub invariant-loop-end : goal.invariant-loop-end
invariant-loop-end l = l.end ≤ 255

abbrev pub decreases-loop-end : goal.decreases-loop-end
decreases-loop-end l = l.end
