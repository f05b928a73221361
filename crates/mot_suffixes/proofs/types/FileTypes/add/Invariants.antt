use Rattle.std.proofs.Common.{length}
use Rattle.mot_suffixes.proofs.types.FileTypes.add.Given as goal
use Rattle.mot_suffixes.proofs.Suffixes.{IsGoneOver}

abbrev pub invariant-loop-line : goal.invariant-loop-line
invariant-loop-line l = IsGoneOver l.initial.self l.self l.text l.rest l.number

abbrev pub decreases-loop-line : goal.decreases-loop-line
decreases-loop-line l = length l.rest
