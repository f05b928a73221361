use Rattle.std.proofs.Common.{◌≡◌, ◌≤◌, ◌+◌, ◌-◌, length}
use lib.ListN.{drop}
use Rattle.mot_line_folder.specs.LineFiles.{word_len}
use Rattle.mot_line_folder.proofs.line_file.word_len.Given as goal

abbrev pub invariant-loop-at : goal.invariant-loop-at
invariant-loop-at l = (l.at ≤ length l.start) × (word_len l.start ≡ l.at + word_len (drop l.at l.start))

abbrev pub decreases-loop-at : goal.decreases-loop-at
decreases-loop-at l = length l.start - l.at
