use Rattle.std.specs.Prelude.{IsFalse}
use Rattle.mot_journal.specs.Image.{Standing}
use Rattle.mot_player.specs.Laws.{bytes_left}
use Rattle.mot_repository.specs.Repository.{Holds}
use Rattle.mot_session.specs.Inner.Writes.{ReadsAlone}
use Rattle.mot_session.specs.Session.{state_of}
use Rattle.mot_session.proofs.Anyhow.{ShownSoFar}
use Rattle.mot_session.proofs.Replies.{SentSoFar}
use Rattle.mot_session.proofs.serving.reply.write_turn.Given as goal

abbrev pub invariant-loop-ends_turn : goal.invariant-loop-ends_turn
invariant-loop-ends_turn g l = record {
  reads : ReadsAlone l.initial.server l.server (g.D.Disk.state l.initial.server.disk)
      (g.D.Disk.state l.server.disk);
  sent : (s : Standing) → Holds l.initial.server.view s (g.D.Disk.state l.initial.server.disk)
      → (g.D.Disk.state l.server.disk).IsHonest
      → SentSoFar (state_of l.initial.server s (g.D.Disk.state l.initial.server.disk))
      (state_of l.server s (g.D.Disk.state l.server.disk))
      (g.W.Write.contents l.initial.writer) (g.W.Write.contents l.writer);
  shown : IsFalse l.initial.server.view.halted
      → ShownSoFar (g.D.Disk.state l.initial.server.disk).failures
      (g.D.Disk.state l.server.disk).failures
      (g.W.Write.contents l.initial.writer) (g.W.Write.contents l.writer);
}

abbrev pub decreases-loop-ends_turn : goal.decreases-loop-ends_turn
decreases-loop-ends_turn g l = bytes_left l.server.player
