use Rattle.std.proofs.Common.{length}
use Rattle.mot_feed_lines.proofs.telling.show_lines.Given as goal

abbrev pub decreases-loop-line : goal.decreases-loop-line
decreases-loop-line g l = length l.rest
