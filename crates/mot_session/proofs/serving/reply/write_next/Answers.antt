use Rattle.std.proofs.Common.{◌≡◌, [], arith, subst, ◌<◌, ◌+◌, ◌∷◌, ◌++◌, ◌∙◌, ap, length-append}
use Rattle.std.proofs.Common.{refl, sym}
use Rattle.std.specs.Prelude.{IsFalse}
use Rattle.std.proofs.KnownBytes.{Appends-nil}
use Rattle.std.proofs.lemmas.Result.{err_from_is_err_and}
use Rattle.mot_session.specs.Session.{state_of}
use Rattle.mot_session.proofs.Replies.{next-broken, next-cut, next-more}
use Rattle.mot_session.proofs.Requests.{holds-read, reads-more, reads-none}
use Rattle.mot_session.proofs.Written.{Answered-next, Sends, Sends-none}
use Rattle.mot_journal.specs.Image.{Standing}
use Rattle.mot_repository.specs.Repository.{RepositoryView, Holds}
use Rattle.mot_session.specs.Replies.{shown_lines}
use Rattle.mot_session.proofs.Anyhow.{next-broken as next-broken_anyhow, next-all}
use Rattle.mot_session.proofs.Anyhow.{next-cut as next-cut_anyhow, one-more}
use Rattle.mot_session.proofs.serving.reply.write_next.Given as given
use Rattle.mot_session.proofs.serving.reply.write_next.Goals as goal
use Rattle.mot_session.proofs.serving.reply.write_next.Goals.{After-write_next_packet}

-- what the disk holds before the packet that is asked for
held_there : (g : given.Over) (c : After-write_next_packet g) (s : Standing)
    → Holds c.args.server.now.view s (g.D.Disk.state c.args.server.now.disk)
    → (g.D.Disk.state c.loop.server.disk).IsHonest
    → Holds c.loop.server.view s (g.D.Disk.state c.loop.server.disk)
held_there g c s holds was =
    let state = g.D.Disk.state in
    let first = c.args.server.now in
    let mid = c.loop.server in
    holds-read first mid (state first.disk) (state mid.disk) c.loop.invariant.reads was s holds

-- and a server that goes on goes on there
going_there : (g : given.Over) (c : After-write_next_packet g)
    → IsFalse c.args.server.now.view.halted → IsFalse c.loop.server.view.halted
going_there g c going = ap (λ (v : RepositoryView). v.halted) c.loop.invariant.reads.view ∙ going

pub loop-init : goal.loop-init
loop-init g c =
    let state = g.D.Disk.state c.args.server.now.disk in record {
      reads = reads-none c.args.server.now state;
      sent = λ s holds honest. (
        [],
        Sends-none (state_of c.args.server.now s state),
        Appends-nil (g.W.Write.contents c.args.writer.now),
      );
      shown = λ going. ([], refl, Appends-nil (g.W.Write.contents c.args.writer.now), refl);
    }

pub returns-in_err-write_next_packet-clause-answers :
    goal.returns-in_err-write_next_packet-clause-answers
returns-in_err-write_next_packet-clause-answers g c = λ s holds honest.
    let state = g.D.Disk.state in
    let first = c.args.server.now in
    let mid = c.loop.server in
    let new = c.write_next_packet.new.server in
    let p = err_from_is_err_and c.from_residual.result c.from_residual.ensures.1 in
    let so_far = c.loop.invariant in
    let was = c.in_err-write_next_packet.ensures.reads.disk.keeps.was_honest honest in
    let sent = so_far.sent s holds was in
    let from = (goal.at.returns-in_err-write_next_packet-clause-answers g c).After-write_next_packet in
    let held = held_there g from s holds was in
    rw p.1 (next-broken (state_of first s (state first.disk)) (state_of mid s (state mid.disk))
    (state_of new s (state new.disk)) holds.going _ _ _ c.loop.counter sent.0 sent.2 _ c.args.count
    c.loop-test.true sent.1 (c.in_err-write_next_packet.ensures.answers s held honest))

pub returns-in_default-clause-answers : goal.returns-in_default-clause-answers
returns-in_default-clause-answers g c = λ s holds honest.
    let state = g.D.Disk.state in
    let first = c.args.server.now in
    let mid = c.loop.server in
    let new = c.write_next_packet.new.server in
    let so_far = c.loop.invariant in
    let was = c.in_ok-write_next_packet.ensures.reads.disk.keeps.was_honest honest in
    let sent = so_far.sent s holds was in
    let from = (goal.at.returns-in_default-clause-answers g c).After-write_next_packet in
    let held = held_there g from s holds was in
    next-cut (state_of first s (state first.disk)) (state_of mid s (state mid.disk))
    (state_of new s (state new.disk)) holds.going _ _ _ c.loop.counter sent.0 sent.2
    c.in_ok-write_next_packet.field-0 (c.in_ok-write_next_packet.ensures.answers s held honest)
    c.in_default.is c.args.count c.loop-test.true sent.1

pub loop-preserved : goal.loop-preserved
loop-preserved g c =
    let state = g.D.Disk.state in
    let first = c.args.server.now in
    let mid = c.loop.server in
    let new = c.write_next_packet.new.server in
    let so_far = c.loop.invariant in
    let one = c.in_ok-write_next_packet.ensures in
    let from = (goal.at.loop-preserved g c).After-write_next_packet in record {
      reads = reads-more first mid new (state first.disk) (state mid.disk)
          (state new.disk) so_far.reads one.reads;
      sent = λ s holds honest.
          let was = one.reads.disk.keeps.was_honest honest in
          let sent = so_far.sent s holds was in
          let held = held_there g from s holds was in
          next-more (state_of first s (state first.disk)) (state_of mid s (state mid.disk))
          (state_of new s (state new.disk)) holds.going _ _ _ c.loop.counter sent.0 sent.2
          c.in_ok-write_next_packet.field-0
          (one.answers s held honest) c.in-Some.field-0 c.in-Some.is sent.1;
      shown = λ going.
          let shown = so_far.shown going in
          let more = one-more first.view new.view (one.reads.view ∙ so_far.reads.view) going
          _ _ _ shown.3 _ _ _ shown.0 shown.2 c.in_ok-write_next_packet.field-0
          c.in-Some.field-0 (one.anyhow (going_there g from going)) c.in-Some.is in (
            shown.0 ++ more.0 ∷ [],
            length-append shown.0 (more.0 ∷ []) ∙ ap (λ n. n + 1) shown.1,
            more.3,
            more.2,
          );
    }

pub returns-clause-answers : goal.returns-clause-answers
returns-clause-answers g c = λ s holds honest.
    let state = g.D.Disk.state in
    let first = c.args.server.now in
    let mid = c.loop.server in
    let so_far = c.loop.invariant.sent s holds honest in
    let last = c.loop-test.false in
    let bound = c.loop.auto.counter-end in
    let all : c.loop.counter ≡ c.args.count = omega (arith, last, bound) in
    Answered-next (state_of first s (state first.disk))
    (state_of mid s (state mid.disk)) holds.going _ _
    c.args.count so_far.0
    (subst (λ n. Sends (state_of first s (state first.disk)) n so_far.0
    (state_of mid s (state mid.disk))) all so_far.1)
    so_far.2

pub returns-in_err-write_next_packet-clause-anyhow :
    goal.returns-in_err-write_next_packet-clause-anyhow
returns-in_err-write_next_packet-clause-anyhow g c = λ going.
    let p = err_from_is_err_and c.from_residual.result c.from_residual.ensures.1 in
    let so_far = c.loop.invariant.shown going in
    let view = c.in_err-write_next_packet.ensures.reads.view ∙ c.loop.invariant.reads.view in
    let from = (goal.at.returns-in_err-write_next_packet-clause-anyhow g c).After-write_next_packet in
    let mid = going_there g from going in
    rw p.1 (next-broken_anyhow c.args.server.now.view c.write_next_packet.new.server.view view going
    _ _ _
    so_far.3 _ _ _ so_far.0 so_far.2 _ c.args.count
    (c.in_err-write_next_packet.ensures.anyhow mid)
    (subst (λ n. n < c.args.count) (sym so_far.1) c.loop-test.true))

pub returns-in_default-clause-anyhow : goal.returns-in_default-clause-anyhow
returns-in_default-clause-anyhow g c = λ going.
    let so_far = c.loop.invariant.shown going in
    let view = c.in_ok-write_next_packet.ensures.reads.view ∙ c.loop.invariant.reads.view in
    let from = (goal.at.returns-in_default-clause-anyhow g c).After-write_next_packet in
    let mid = going_there g from going in
    next-cut_anyhow c.args.server.now.view c.write_next_packet.new.server.view view going _ _ _
    so_far.3 _ _ _ so_far.0 so_far.2 c.in_ok-write_next_packet.field-0 c.args.count
    (c.in_ok-write_next_packet.ensures.anyhow mid) c.in_default.is
    (subst (λ n. n < c.args.count) (sym so_far.1) c.loop-test.true)

pub returns-clause-anyhow : goal.returns-clause-anyhow
returns-clause-anyhow g c = λ going.
    let so_far = c.loop.invariant.shown going in
    let last = c.loop-test.false in
    let bound = c.loop.auto.counter-end in
    let all : c.loop.counter ≡ c.args.count = omega (arith, last, bound) in (
      shown_lines so_far.0,
      next-all c.args.server.now.view c.loop.server.view _ _ c.args.count so_far.0
          c.loop.invariant.reads.view going (so_far.1 ∙ all),
      so_far.2,
    )

pub returns-in_err-write_next_packet-clause-reads : goal.returns-in_err-write_next_packet-clause-reads
returns-in_err-write_next_packet-clause-reads g c =
    let state = g.D.Disk.state in
    let first = c.args.server.now in
    let mid = c.loop.server in
    let new = c.write_next_packet.new.server in
    reads-more first mid new (state first.disk) (state mid.disk) (state new.disk)
    c.loop.invariant.reads c.in_err-write_next_packet.ensures.reads

pub returns-in_default-clause-reads : goal.returns-in_default-clause-reads
returns-in_default-clause-reads g c =
    let state = g.D.Disk.state in
    let first = c.args.server.now in
    let mid = c.loop.server in
    let new = c.write_next_packet.new.server in
    reads-more first mid new (state first.disk) (state mid.disk) (state new.disk)
    c.loop.invariant.reads c.in_ok-write_next_packet.ensures.reads

pub returns-clause-reads : goal.returns-clause-reads
returns-clause-reads g c = c.loop.invariant.reads
