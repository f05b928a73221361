use Rattle.std.proofs.Common.{◌≡◌, take}
use Rattle.std.specs.Io.KnownBytes.{Appends}
use Rattle.std.specs.List.{flat_map}
use Rattle.disk_model.specs.Disk.{OnlyReads}
use Rattle.mot_lines.specs.Export.{put_line}
use Rattle.mot_journal.specs.Image.{Standing}
use Rattle.mot_repository.specs.Repository.{HasStanding}
use Rattle.mot_export.proofs.exporting.write_export.Given as goal

abbrev pub invariant-loop-place : goal.invariant-loop-place
invariant-loop-place g l = record {
  reads : OnlyReads (g.D.Disk.state l.initial.repository.disk) (g.D.Disk.state l.repository.disk);
  view : l.repository.view ≡ l.initial.repository.view;
  calm : (g.D.Disk.state l.repository.disk).failures
      ≡ (g.D.Disk.state l.initial.repository.disk).failures;
  written : (s : Standing) → HasStanding l.initial.repository.view s
      (g.D.Disk.state l.initial.repository.disk)
      → (g.D.Disk.state l.repository.disk).IsHonest
      → Appends (g.W.Write.contents l.initial.writer) (g.W.Write.contents l.writer)
      (flat_map put_line (take l.place s.carousel.objects));
}
