use Rattle.std.proofs.Common.{[], ◌∙◌, ap, refl, Some}
use Rattle.std.specs.Prelude.{IsFalse}
use Rattle.std.proofs.KnownBytes.{Appends-nil}
use Rattle.std.proofs.lemmas.Result.{err_from_is_err_and}
use Rattle.mot_journal.specs.Image.{Standing}
use Rattle.mot_repository.specs.Repository.{RepositoryView, Holds}
use Rattle.mot_session.specs.Session.{state_of}
use Rattle.mot_session.proofs.Anyhow as anyhow
use Rattle.mot_session.proofs.Replies.{SentSoFar, turn-broken, turn-cut, turn-ended, turn-more}
use Rattle.mot_session.proofs.Requests.{holds-read, reads-more, reads-none}
use Rattle.mot_session.proofs.Written.{Sends-none}
use Rattle.mot_session.proofs.serving.reply.write_turn.Given as given
use Rattle.mot_session.proofs.serving.reply.write_turn.Goals as goal
use Rattle.mot_session.proofs.serving.reply.write_turn.Goals.{After-write_next_packet}

pub loop-ends_turn-init : goal.loop-ends_turn-init
loop-ends_turn-init g c =
    let state = g.D.Disk.state c.args.server.now.disk in
    let nothing = Appends-nil (g.W.Write.contents c.args.writer.now) in
    record {
      reads = reads-none c.args.server.now state;
      sent = λ s holds honest. record {
        made = 0;
        sents = [];
        within = record { sends = Sends-none (state_of c.args.server.now s state); ends = refl };
        lines = nothing;
      };
      shown = λ going.
          record { count = 0; shown = []; within = refl; lines = nothing; calm = refl };
    }

-- what was sent before the packet that is asked for, and what the disk holds still
found : (g : given.Over) (c : After-write_next_packet g) (s : Standing)
    → Holds c.args.server.now.view s (g.D.Disk.state c.args.server.now.disk)
    → (g.D.Disk.state c.write_next_packet.new.server.disk).IsHonest
    → SentSoFar (state_of c.args.server.now s (g.D.Disk.state c.args.server.now.disk))
    (state_of c.loop-ends_turn.server s (g.D.Disk.state c.loop-ends_turn.server.disk))
    (g.W.Write.contents c.args.writer.now) (g.W.Write.contents c.loop-ends_turn.writer)
    × Holds c.loop-ends_turn.server.view s (g.D.Disk.state c.loop-ends_turn.server.disk)
found g c s holds honest =
    let state = g.D.Disk.state in
    let first = c.args.server.now in
    let mid = c.loop-ends_turn.server in
    let so_far = c.loop-ends_turn.invariant in
    let was = c.write_next_packet.ensures.reads.disk.keeps.was_honest honest in (
      so_far.sent s holds was,
      holds-read first mid (state first.disk) (state mid.disk) so_far.reads was s holds,
    )

-- and a server that goes on goes on there
going_there : (g : given.Over) (c : After-write_next_packet g)
    → IsFalse c.args.server.now.view.halted → IsFalse c.loop-ends_turn.server.view.halted
going_there g c going =
    ap (λ (v : RepositoryView). v.halted) c.loop-ends_turn.invariant.reads.view ∙ going

pub returns-in_err-ends_turn-clause-answers : goal.returns-in_err-ends_turn-clause-answers
returns-in_err-ends_turn-clause-answers g c = λ s holds honest.
    let new = c.write_next_packet.new.server in
    let from = (goal.at.returns-in_err-ends_turn-clause-answers g c).After-write_next_packet in
    let before = found g from s holds honest in
    rw (err_from_is_err_and c.from_residual.result c.from_residual.ensures.1).1
    (turn-broken {after = state_of new s (g.D.Disk.state new.disk)} before.0 holds.going
    (c.in_err-ends_turn.ensures.answers s before.1 honest))

pub returns-in_default-clause-answers : goal.returns-in_default-clause-answers
returns-in_default-clause-answers g c = λ s holds honest.
    let new = c.write_next_packet.new.server in
    let from = (goal.at.returns-in_default-clause-answers g c).After-write_next_packet in
    let before = found g from s holds honest in
    turn-cut {after = state_of new s (g.D.Disk.state new.disk)} before.0 holds.going
    (c.in_ok-ends_turn.ensures.answers s before.1 honest) c.in_default.is

pub returns-then-ends_turn-clause-answers : goal.returns-then-ends_turn-clause-answers
returns-then-ends_turn-clause-answers g c = λ s holds honest.
    let new = c.write_next_packet.new.server in
    let from = (goal.at.returns-then-ends_turn-clause-answers g c).After-write_next_packet in
    let before = found g from s holds honest in
    turn-ended {after = state_of new s (g.D.Disk.state new.disk)} before.0 holds.going
    (c.in_ok-ends_turn.ensures.answers s before.1 honest)
    (c.in-Some.is ∙ ap (λ e. Some e) c.if-ends_turn.true)

pub loop-ends_turn-preserved : goal.loop-ends_turn-preserved
loop-ends_turn-preserved g c =
    let state = g.D.Disk.state in
    let from = (goal.at.loop-ends_turn-preserved g c).After-write_next_packet in
    let first = c.args.server.now in
    let mid = c.loop-ends_turn.server in
    let new = c.write_next_packet.new.server in
    let so_far = c.loop-ends_turn.invariant in
    let one = c.in_ok-ends_turn.ensures in
    let shown = c.in-Some.is ∙ ap (λ e. Some e) c.if-ends_turn.false in
    record {
      reads = reads-more first mid new (state first.disk) (state mid.disk)
          (state new.disk) so_far.reads one.reads;
      sent = λ s holds honest.
          let before = found g from s holds honest in
          turn-more {after = state_of new s (state new.disk)} before.0
          (one.answers s before.1 honest) shown;
      shown = λ going.
          anyhow.turn-more (one.reads.view ∙ so_far.reads.view) going (so_far.shown going)
          (one.anyhow (going_there g from going)) shown;
    }

pub returns-in_err-ends_turn-clause-anyhow : goal.returns-in_err-ends_turn-clause-anyhow
returns-in_err-ends_turn-clause-anyhow g c = λ going.
    let from = (goal.at.returns-in_err-ends_turn-clause-anyhow g c).After-write_next_packet in
    let so_far = c.loop-ends_turn.invariant in
    let one = c.in_err-ends_turn.ensures in
    rw (err_from_is_err_and c.from_residual.result c.from_residual.ensures.1).1
    (anyhow.turn-broken (one.reads.view ∙ so_far.reads.view) going (so_far.shown going)
    (one.anyhow (going_there g from going)))

pub returns-in_default-clause-anyhow : goal.returns-in_default-clause-anyhow
returns-in_default-clause-anyhow g c = λ going.
    let from = (goal.at.returns-in_default-clause-anyhow g c).After-write_next_packet in
    let so_far = c.loop-ends_turn.invariant in
    let one = c.in_ok-ends_turn.ensures in
    anyhow.turn-cut (one.reads.view ∙ so_far.reads.view) going (so_far.shown going)
    (one.anyhow (going_there g from going)) c.in_default.is

pub returns-then-ends_turn-clause-anyhow : goal.returns-then-ends_turn-clause-anyhow
returns-then-ends_turn-clause-anyhow g c = λ going.
    let from = (goal.at.returns-then-ends_turn-clause-anyhow g c).After-write_next_packet in
    let so_far = c.loop-ends_turn.invariant in
    let one = c.in_ok-ends_turn.ensures in
    anyhow.turn-ended (one.reads.view ∙ so_far.reads.view) going (so_far.shown going)
    (one.anyhow (going_there g from going)) (c.in-Some.is ∙ ap (λ e. Some e) c.if-ends_turn.true)

pub returns-in_err-ends_turn-clause-reads : goal.returns-in_err-ends_turn-clause-reads
returns-in_err-ends_turn-clause-reads g c =
    let state = g.D.Disk.state in
    let first = c.args.server.now in
    let mid = c.loop-ends_turn.server in
    let new = c.write_next_packet.new.server in
    reads-more first mid new (state first.disk) (state mid.disk) (state new.disk)
    c.loop-ends_turn.invariant.reads c.in_err-ends_turn.ensures.reads

pub returns-in_default-clause-reads : goal.returns-in_default-clause-reads
returns-in_default-clause-reads g c =
    let state = g.D.Disk.state in
    let first = c.args.server.now in
    let mid = c.loop-ends_turn.server in
    let new = c.write_next_packet.new.server in
    reads-more first mid new (state first.disk) (state mid.disk) (state new.disk)
    c.loop-ends_turn.invariant.reads c.in_ok-ends_turn.ensures.reads

pub returns-then-ends_turn-clause-reads : goal.returns-then-ends_turn-clause-reads
returns-then-ends_turn-clause-reads g c =
    let state = g.D.Disk.state in
    let first = c.args.server.now in
    let mid = c.loop-ends_turn.server in
    let new = c.write_next_packet.new.server in
    reads-more first mid new (state first.disk) (state mid.disk) (state new.disk)
    c.loop-ends_turn.invariant.reads c.in_ok-ends_turn.ensures.reads

pub loop-ends_turn-smaller : goal.loop-ends_turn-smaller
loop-ends_turn-smaller g c =
    c.in_ok-ends_turn.ensures.nearer (c.in-Some.is ∙ ap (λ e. Some e) c.if-ends_turn.false)
