use Rattle.std.proofs.Common.{Bool, List, length}
use Rattle.mot_files.specs.Call.{Call}
use Rattle.mot_devices.specs.Looking.{OnlyLooks}
use Rattle.mot_devices.specs.Mounts.{parts_of}
use Rattle.mot_devices.specs.Tables.{AreSwapLines}
use Rattle.mot_devices.proofs.tables.has_swap.Given as goal

abbrev pub invariant-loop-line : goal.invariant-loop-line
invariant-loop-line g l = record {
  looks : OnlyLooks (g.S.System.calls l.initial.system) (g.S.System.calls l.system);
  swap : (is : Bool) (new : List Call) → AreSwapLines l.numbers.own.items l.numbers.others.items
      (parts_of 10 l.rest) is (g.S.System.calls l.system) new
      → AreSwapLines l.numbers.own.items l.numbers.others.items (parts_of 10 l.table) is
      (g.S.System.calls l.initial.system) new;
}

abbrev pub decreases-loop-line : goal.decreases-loop-line
decreases-loop-line g l = length l.rest
