use Rattle.std.proofs.Common.{◌≡◌, ◌++◌, ◌-◌, List, ℕ, length}
use Rattle.mot_devices.specs.Looking.{OnlyLooks}
use Rattle.mot_files.specs.Reading.{joined, reads}
use Rattle.mot_devices.proofs.reading.read_open.Given as goal

abbrev pub invariant-loop-handle : goal.invariant-loop-handle
invariant-loop-handle g l = record {
  looks : OnlyLooks (g.S.System.calls l.initial.system) (g.S.System.calls l.system);
  read : (chunks : List (List ℕ)) × (l.bytes.items ≡ joined chunks)
      × (g.S.System.calls l.system ≡ g.S.System.calls l.initial.system ++ reads l.handle chunks);
}

abbrev pub decreases-loop-handle : goal.decreases-loop-handle
decreases-loop-handle g l = l.most - length l.bytes.items
