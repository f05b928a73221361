use Rattle.std.proofs.Common.{◌≡◌, ◌-◌, ◌≤◌, take}
use Rattle.std.specs.Io.KnownBytes.{Appends}
use Rattle.disk_model.specs.Disk.{OnlyReads}
use Rattle.hex.specs.Hex.{encode_lower}
use Rattle.mot_journal.specs.Image.{Standing}
use Rattle.mot_repository.specs.Repository.{HasStanding, object_body}
use Rattle.mot_export.proofs.exporting.write_body.Given as goal

abbrev pub invariant-loop-from : goal.invariant-loop-from
invariant-loop-from g l = record {
  within : l.from ≤ l.length;
  reads : OnlyReads (g.D.Disk.state l.initial.repository.disk) (g.D.Disk.state l.repository.disk);
  view : l.repository.view ≡ l.initial.repository.view;
  calm : (g.D.Disk.state l.repository.disk).failures
      ≡ (g.D.Disk.state l.initial.repository.disk).failures;
  written : (s : Standing) → HasStanding l.initial.repository.view s
      (g.D.Disk.state l.initial.repository.disk)
      → (g.D.Disk.state l.repository.disk).IsHonest
      → Appends (g.W.Write.contents l.initial.writer) (g.W.Write.contents l.writer)
      (encode_lower (take l.from (object_body s.carousel.objects l.place)));
}

abbrev pub decreases-loop-from : goal.decreases-loop-from
decreases-loop-from g l = l.length - l.from
