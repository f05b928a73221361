use Rattle.std.proofs.Common.{◌≡◌, ◌-◌, length, true}
use Rattle.disk_model.specs.Disk.{KeepsLength}
use Rattle.mot_journal.specs.Image.{Standing}
use Rattle.mot_repository.specs.Repository.{Holds}
use Rattle.mot_update.specs.Faults.{StaysCalm}
use Rattle.mot_update.specs.Told.{TellsSince}
use Rattle.mot_update.proofs.Looks.{SettledSoFar}
use Rattle.mot_update.proofs.looking.settle_all.Given as goal

abbrev pub invariant-loop-wanted : goal.invariant-loop-wanted
invariant-loop-wanted g l = record {
  keeps : KeepsLength (g.D.Disk.state l.initial.server.disk) (g.D.Disk.state l.server.disk);
  calm : StaysCalm l.initial.server l.server (g.D.Disk.state l.initial.server.disk)
      (g.D.Disk.state l.server.disk);
  same : g.S.Source.names l.source ≡ g.S.Source.names l.initial.source;
  so_far : (s : Standing) → Holds l.initial.server.view s (g.D.Disk.state l.initial.server.disk)
      → (g.D.Disk.state l.server.disk).IsHonest
      → (so_far : SettledSoFar l.initial.server l.server (g.D.Disk.state l.initial.server.disk)
      (g.D.Disk.state l.server.disk) s (g.S.Source.names l.initial.source)
      (g.S.Source.place l.initial.source) (g.S.Source.place l.source)
      (g.S.Source.given l.initial.source) (g.S.Source.given l.source) (g.S.Source.is_fine l.source))
      × TellsSince (g.S.Source.was_told l.initial.source) (g.S.Source.was_told l.source)
      so_far.answers so_far.wanted;
  fine : g.S.Source.is_fine l.source ≡ true → g.S.Source.is_fine l.initial.source ≡ true;
}

abbrev pub decreases-loop-wanted : goal.decreases-loop-wanted
decreases-loop-wanted g l = length (g.S.Source.names l.source) - g.S.Source.place l.source
