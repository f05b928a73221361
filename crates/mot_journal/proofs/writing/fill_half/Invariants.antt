use Rattle.std.proofs.Common.{◌≡◌, ◌+◌}
use Rattle.disk_model.specs.Disk.{Keeps}
use Rattle.mot_journal.specs.Inner.Steps.{HasSlots, ChangesWithin}
use Rattle.mot_journal.proofs.writing.fill_half.Given as goal
use Rattle.mot_numbers.specs.Geometry.{half_start, half_size}

abbrev pub invariant-loop-number : goal.invariant-loop-number
invariant-loop-number g l =
    let old = g.D.Disk.state l.initial.disk in
    let now = g.D.Disk.state l.disk in
    record {
      keeps : Keeps old now;
      calm : now.failures ≡ old.failures;
      cost : now.calls ≡ old.calls + l.number;
      range : old.IsHonest → ChangesWithin (half_start l.geometry l.half) (half_size l.geometry) old
          now;
      slots : old.IsHonest → HasSlots l.geometry l.half l.layout l.given l.number now.bytes;
    }
