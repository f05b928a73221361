use Rattle.std.proofs.Common.{Some}
use Rattle.disk_model.specs.Disk.{KeepsLength}
use Rattle.mot_feed.proofs.Fed.{SoFar}
use Rattle.mot_feed.specs.Feeding.Stage.{Ready}
use Rattle.mot_journal.specs.Image.{Standing}
use Rattle.mot_repository.specs.Repository.{Holds}
use Rattle.mot_update.specs.Faults.{StaysCalm}
use Rattle.mot_feed.proofs.feeding.feed.Given as goal

abbrev pub invariant-loop-sent : goal.invariant-loop-sent
invariant-loop-sent g l = record {
  keeps : KeepsLength (g.D.Disk.state l.fn.server.disk) (g.D.Disk.state l.server.disk);
  calm : StaysCalm l.fn.server l.server (g.D.Disk.state l.fn.server.disk)
      (g.D.Disk.state l.server.disk);
  fed : (s : Standing) → Holds l.fn.server.view s (g.D.Disk.state l.fn.server.disk)
      → (g.D.Disk.state l.server.disk).IsHonest
      → SoFar g.U.Update.tells l.how Ready l.fn.update l.update l.fn.server l.server
      (g.D.Disk.state l.fn.server.disk) (g.D.Disk.state l.server.disk) s
      l.left l.between_turns (Some l.until) l.rest l.sent
      (g.O.Outlet.writes l.fn.outlet) (g.O.Outlet.writes l.outlet);
}
