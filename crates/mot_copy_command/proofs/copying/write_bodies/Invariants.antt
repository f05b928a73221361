use Rattle.std.proofs.Common.{◌≡◌, ◌+◌, take, drop}
use Rattle.disk_model.specs.Disk.{OnlyReads, Keeps}
use Rattle.mot_copy_command.specs.Inner.Steps.{ChangesOnly}
use Rattle.mot_numbers.specs.Geometry.{area_start}
use Rattle.mot_repository.specs.Copy.{bytes_in_row, bytes_of_extents}
use Rattle.mot_copy_command.proofs.copying.write_bodies.Given as goal

abbrev pub invariant-loop-place : goal.invariant-loop-place
invariant-loop-place g l = record {
  at : l.at
      ≡ area_start l.geometry + bytes_of_extents (take l.place l.initial.from.view.extents);
  view : l.from.view ≡ l.initial.from.view;
  reads : OnlyReads (g.D.Disk.state l.initial.from.disk) (g.D.Disk.state l.from.disk);
  keeps : Keeps (g.E.Disk.state l.initial.to) (g.E.Disk.state l.to);
  range : (g.E.Disk.state l.initial.to).IsHonest
      → ChangesOnly (area_start l.geometry) l.geometry.area
      (g.E.Disk.state l.initial.to) (g.E.Disk.state l.to);
  written : (g.E.Disk.state l.initial.to).IsHonest → (g.D.Disk.state l.from.disk).IsHonest
      → take (bytes_of_extents (take l.place l.initial.from.view.extents))
      (drop (area_start l.geometry) (g.E.Disk.state l.to).bytes)
      ≡ bytes_in_row l.initial.from.view.journal.geometry
      (take l.place l.initial.from.view.extents) (g.D.Disk.state l.initial.from.disk).bytes;
}
