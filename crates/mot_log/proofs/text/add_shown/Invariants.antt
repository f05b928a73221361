use Rattle.std.proofs.Common.{◌≡◌, ◌++◌, length}
use Rattle.mot_suffixes.specs.Shown.{shown}
use Rattle.mot_log.proofs.text.add_shown.Given as goal

abbrev pub invariant-loop-byte : goal.invariant-loop-byte
invariant-loop-byte l = l.text.items ++ shown l.rest ≡ l.initial.text.items ++ shown l.name

abbrev pub decreases-loop-byte : goal.decreases-loop-byte
decreases-loop-byte l = length l.rest
