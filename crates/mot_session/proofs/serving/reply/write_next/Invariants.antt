use Rattle.std.proofs.Common.{◌≡◌, List, length}
use Rattle.std.specs.Prelude.{IsFalse}
use Rattle.std.specs.Io.KnownBytes.{Appends}
use Rattle.mot_journal.specs.Image.{Standing}
use Rattle.mot_player.specs.Place.{Sent}
use Rattle.mot_repository.specs.Repository.{Holds}
use Rattle.mot_session.specs.Inner.Writes.{ReadsAlone}
use Rattle.mot_session.specs.Replies.{Shown, shown_lines}
use Rattle.mot_session.specs.Session.{sent_lines, state_of}
use Rattle.mot_session.proofs.Written.{Sends}
use Rattle.mot_session.proofs.serving.reply.write_next.Given as goal

abbrev pub invariant-loop : goal.invariant-loop
invariant-loop g l = record {
  reads : ReadsAlone l.initial.server l.server (g.D.Disk.state l.initial.server.disk)
      (g.D.Disk.state l.server.disk);
  sent : (s : Standing) → Holds l.initial.server.view s (g.D.Disk.state l.initial.server.disk)
      → (g.D.Disk.state l.server.disk).IsHonest
      → (sents : List Sent)
      × Sends (state_of l.initial.server s (g.D.Disk.state l.initial.server.disk)) l.counter sents
      (state_of l.server s (g.D.Disk.state l.server.disk))
      × Appends (g.W.Write.contents l.initial.writer) (g.W.Write.contents l.writer)
      (sent_lines sents);
  shown : IsFalse l.initial.server.view.halted
      → (shown : List Shown) × (length shown ≡ l.counter)
      × Appends (g.W.Write.contents l.initial.writer) (g.W.Write.contents l.writer)
      (shown_lines shown)
      × ((g.D.Disk.state l.server.disk).failures
      ≡ (g.D.Disk.state l.initial.server.disk).failures);
}
