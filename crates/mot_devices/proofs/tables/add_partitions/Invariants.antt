use Rattle.std.proofs.Common.{List, length, ℕ}
use Rattle.mot_files.specs.Call.{Call}
use Rattle.mot_devices.specs.Looking.{OnlyLooks}
use Rattle.mot_devices.specs.Mounts.{parts_of}
use Rattle.mot_devices.specs.Tables.{AddPartitions}
use Rattle.mot_devices.proofs.tables.add_partitions.Given as goal

abbrev pub invariant-loop-name : goal.invariant-loop-name
invariant-loop-name g l = record {
  looks : OnlyLooks (g.S.System.calls l.initial.system) (g.S.System.calls l.system);
  added : (after : List ℕ) (new : List Call) → AddPartitions l.folder (parts_of 0 l.rest)
      l.others.items after (g.S.System.calls l.system) new
      → AddPartitions l.folder (parts_of 0 l.names) l.initial.others.items after
      (g.S.System.calls l.initial.system) new;
}

abbrev pub decreases-loop-name : goal.decreases-loop-name
decreases-loop-name g l = length l.rest
