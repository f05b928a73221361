use Rattle.std.proofs.Common.{◌≡◌, ◌≤◌, ◌-◌, take, drop}
use Rattle.disk_model.specs.Disk.{OnlyReads, Keeps}
use Rattle.mot_copy_command.specs.Inner.Steps.{ChangesOnly}
use Rattle.mot_repository.specs.OnDisk.{extent_at, body_on}
use Rattle.mot_copy_command.proofs.copying.write_body.Given as goal

abbrev pub invariant-loop-done : goal.invariant-loop-done
invariant-loop-done g l = record {
  within : l.done ≤ l.size;
  view : l.from.view ≡ l.initial.from.view;
  reads : OnlyReads (g.D.Disk.state l.initial.from.disk) (g.D.Disk.state l.from.disk);
  keeps : Keeps (g.E.Disk.state l.initial.to) (g.E.Disk.state l.to);
  range : (g.E.Disk.state l.initial.to).IsHonest
      → ChangesOnly l.at (extent_at l.initial.from.view.extents l.place).1
      (g.E.Disk.state l.initial.to) (g.E.Disk.state l.to);
  written : (g.E.Disk.state l.initial.to).IsHonest → (g.D.Disk.state l.from.disk).IsHonest
      → take l.done (drop l.at (g.E.Disk.state l.to).bytes)
      ≡ take l.done (body_on l.initial.from.view.journal.geometry l.initial.from.view.extents
      l.place (g.D.Disk.state l.initial.from.disk).bytes);
}

abbrev pub decreases-loop-done : goal.decreases-loop-done
decreases-loop-done g l = l.size - l.done
