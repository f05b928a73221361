use Rattle.std.proofs.Common.{◌≡◌, length}
use Rattle.mot_commands.specs.Asking.{base_name, name_after}
use Rattle.mot_commands.proofs.asking.base_name.Given as goal

abbrev pub invariant-loop-byte : goal.invariant-loop-byte
invariant-loop-byte l = name_after l.found l.rest ≡ base_name l.path

abbrev pub decreases-loop-byte : goal.decreases-loop-byte
decreases-loop-byte l = length l.rest
