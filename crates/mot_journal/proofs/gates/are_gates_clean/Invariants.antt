use Rattle.std.proofs.Common.{◌≡◌, ◌+◌, false}
use Rattle.disk_model.specs.Disk.{OnlyReads}
use Rattle.mot_journal.specs.Inner.Steps.{scan, slots_in_half}
use Rattle.mot_journal.proofs.Scan.{slots_from}
use Rattle.mot_journal.proofs.gates.are_gates_clean.Given as goal

abbrev pub invariant-loop-number : goal.invariant-loop-number
invariant-loop-number g l =
    let old = g.D.Disk.state l.initial.disk in
    let now = g.D.Disk.state l.disk in
    let slots = slots_in_half l.geometry l.half l.layout old.bytes in
    record {
      reads : OnlyReads old now;
      calm : now.failures ≡ old.failures;
      cost : now.calls ≡ old.calls + l.number;
      scanned : now.IsHonest
          → scan false slots ≡ scan l.is_shut
          (slots_from l.geometry l.half l.layout old.bytes l.number);
    }
