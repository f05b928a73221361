use Rattle.std.proofs.Common.{length}
use Rattle.mot_line_folder.proofs.names.Names.keep_all.Given as goal

abbrev pub decreases-loop-end : goal.decreases-loop-end
decreases-loop-end l = length l.rest
