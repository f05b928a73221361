use Rattle.std.proofs.Common.{length, take, ◌-◌, ◌≡◌, ◌≤◌}
use Rattle.disk_model.specs.Disk.{OnlyReads}
use Rattle.mot_journal.specs.Image.{Standing}
use Rattle.mot_repository.specs.Repository.{Holds, object_body}
use Rattle.mot_playout.proofs.comparing.is_body.Given as goal

abbrev pub invariant-loop-from : goal.invariant-loop-from
invariant-loop-from g l = record {
  within : l.from ≤ length l.bytes;
  view : l.repository.view ≡ l.initial.repository.view;
  reads : OnlyReads (g.D.Disk.state l.initial.repository.disk) (g.D.Disk.state l.repository.disk);
  calm : (g.D.Disk.state l.repository.disk).failures
      ≡ (g.D.Disk.state l.initial.repository.disk).failures;
  same : (s : Standing) → Holds l.initial.repository.view s
      (g.D.Disk.state l.initial.repository.disk)
      → (g.D.Disk.state l.repository.disk).IsHonest
      → take l.from (object_body s.carousel.objects l.place) ≡ take l.from l.bytes;
}

abbrev pub decreases-loop-from : goal.decreases-loop-from
decreases-loop-from g l = length l.bytes - l.from
