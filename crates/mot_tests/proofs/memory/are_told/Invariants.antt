use Rattle.std.proofs.Common.{◌≡◌}
use Rattle.disk_store.specs.Memory.{memory_state}
use Rattle.mot_tests.proofs.memory.are_told.Given as goal

abbrev pub invariant-loop-number : goal.invariant-loop-number
invariant-loop-number l = (memory_state l.disk).len ≡ 8
