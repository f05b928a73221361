use Rattle.std.proofs.Common.{◌≡◌, [], take, true}
use Rattle.disk_model.specs.Disk.{KeepsLength}
use Rattle.mot_journal.specs.Image.{Standing}
use Rattle.mot_repository.specs.Repository.{Holds}
use Rattle.mot_update.specs.Faults.{StaysCalm}
use Rattle.mot_update.specs.Looking.{Gives, withdraw_all}
use Rattle.mot_update.specs.Told.{TellsSince}
use Rattle.mot_update.proofs.Looks.{WithdrewSoFar}
use Rattle.mot_update.proofs.looking.withdraw_these.Given as goal

abbrev pub invariant-loop-name : goal.invariant-loop-name
invariant-loop-name g l = record {
  keeps : KeepsLength (g.D.Disk.state l.initial.server.disk) (g.D.Disk.state l.server.disk);
  calm : StaysCalm l.initial.server l.server (g.D.Disk.state l.initial.server.disk)
      (g.D.Disk.state l.server.disk);
  same : g.S.Source.names l.source ≡ g.S.Source.names l.initial.source;
  gives : Gives (g.S.Source.given l.initial.source) (g.S.Source.given l.source) [];
  run : (s : Standing) → Holds l.initial.server.view s (g.D.Disk.state l.initial.server.disk)
      → (g.D.Disk.state l.server.disk).IsHonest
      → (so_far : WithdrewSoFar l.initial.server l.server (g.D.Disk.state l.initial.server.disk)
      (g.D.Disk.state l.server.disk) s (withdraw_all (take l.name-index l.names))
      (g.S.Source.is_fine l.source))
      × TellsSince (g.S.Source.was_told l.initial.source) (g.S.Source.was_told l.source)
      so_far.answers [];
  stays : g.S.Source.place l.source ≡ g.S.Source.place l.initial.source;
  fine : g.S.Source.is_fine l.source ≡ true → g.S.Source.is_fine l.initial.source ≡ true;
}
