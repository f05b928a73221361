use Rattle.std.proofs.Common.{◌∙◌}
use Rattle.std.proofs.lemmas.Result.{err_from_is_err_and}
use Rattle.disk_model.proofs.Laws.{keeps_on, unchanged_on}
use Rattle.mot_lines.specs.Line.{line_of}
use Rattle.mot_session.specs.Session.{state_of}
use Rattle.mot_session.proofs.Answered.{Crosses-line, Decides-parsed}
use Rattle.mot_session.proofs.Requests.{stands-read}
use Rattle.mot_session.proofs.Written.{AnswersWith-kept}
use Rattle.mot_session.proofs.Anyhow.{anyhow-kept, anyhow-parsed}
use Rattle.mot_session.proofs.serving.reply.respond.Goals as goal

pub returns-in_err-write_reply-clause-answers : goal.returns-in_err-write_reply-clause-answers
returns-in_err-write_reply-clause-answers g c = λ line parsed s stands honest.
    let state = g.D.Disk.state in
    let old = c.args.server.now in
    let mid = c.decide-decision.new.server in
    let new = c.write_reply.new.server in
    let p = err_from_is_err_and c.from_residual.result c.from_residual.ensures.1 in
    let reads = c.in_err-write_reply.ensures.reads in
    let was = reads.disk.keeps.was_honest honest in
    let decided = c.decide-decision.ensures.decides s stands was in
    let before = state_of old s (state old.disk) in
    let between = state_of mid decided.0 (state mid.disk) in
    let after = state_of new decided.0 (state new.disk) in
    let written = c.in_err-write_reply.ensures.answers before
    (line_of line) decided.0 decided.1 honest
    (Decides-parsed before between c.decide-decision.result c.args.request (line_of line) parsed
    decided.2) in (
      decided.0,
      stands-read mid new (state mid.disk) (state new.disk) reads honest decided.0 decided.1,
      record {
        reply = written.0;
        answers = rw p.1 written.2;
        crosses = Crosses-line old mid new s (state old.disk) (state mid.disk)
            (state new.disk) line written.0
            after c.decide-decision.result c.args.request stands honest reads parsed written.1
            (c.decide-decision.ensures.writes.crosses s)
            (λ is. (c.decide-decision.ensures.writes.halted is).1);
      },
    )

pub returns-clause-answers : goal.returns-clause-answers
returns-clause-answers g c = λ line parsed s stands honest.
    let state = g.D.Disk.state in
    let old = c.args.server.now in
    let mid = c.decide-decision.new.server in
    let new = c.write_reply.new.server in
    let reads = c.in_ok-write_reply.ensures.reads in
    let was = reads.disk.keeps.was_honest honest in
    let decided = c.decide-decision.ensures.decides s stands was in
    let before = state_of old s (state old.disk) in
    let between = state_of mid decided.0 (state mid.disk) in
    let after = state_of new decided.0 (state new.disk) in
    let written = c.in_ok-write_reply.ensures.answers before
    (line_of line) decided.0 decided.1 honest
    (Decides-parsed before between c.decide-decision.result c.args.request (line_of line) parsed
    decided.2) in (
      decided.0,
      stands-read mid new (state mid.disk) (state new.disk) reads honest decided.0 decided.1,
      record {
        reply = written.0;
        answers =
            AnswersWith-kept c.map_err.result before after (line_of line) written.0 _ _ _ written.2
            c.flush.ensures.bytes;
        crosses = Crosses-line old mid new s (state old.disk) (state mid.disk)
            (state new.disk) line written.0
            after c.decide-decision.result c.args.request stands honest reads parsed written.1
            (c.decide-decision.ensures.writes.crosses s)
            (λ is. (c.decide-decision.ensures.writes.halted is).1);
      },
    )

pub returns-in_err-write_reply-clause-anyhow : goal.returns-in_err-write_reply-clause-anyhow
returns-in_err-write_reply-clause-anyhow g c = λ line parsed.
    let p = err_from_is_err_and c.from_residual.result c.from_residual.ensures.1 in
    rw p.1 (c.in_err-write_reply.ensures.anyhow c.args.server.now.view _ (line_of line)
    (anyhow-parsed _ _ _ _ c.decide-decision.result c.args.request (line_of line) parsed
    c.decide-decision.ensures.anyhow))

pub returns-clause-anyhow : goal.returns-clause-anyhow
returns-clause-anyhow g c = λ line parsed.
    anyhow-kept _ _ _ _ c.map_err.result (line_of line) _ _ _
    (c.in_ok-write_reply.ensures.anyhow c.args.server.now.view _ (line_of line)
    (anyhow-parsed _ _ _ _ c.decide-decision.result c.args.request (line_of line) parsed
    c.decide-decision.ensures.anyhow)) c.flush.ensures.bytes

pub returns-in_err-write_reply-clause-goes : goal.returns-in_err-write_reply-clause-goes
returns-in_err-write_reply-clause-goes g c =
    let reads = c.in_err-write_reply.ensures.reads in
    let decided = c.decide-decision.ensures in
    record {
      keeps = keeps_on _ _ _ decided.writes.keeps reads.disk.keeps;
      halted = λ is.
          let same = decided.writes.halted is in
          (reads.view ∙ same.0, λ honest. unchanged_on _ _ _ same.1 (reads.disk.unchanged honest));
    }

pub returns-clause-goes : goal.returns-clause-goes
returns-clause-goes g c =
    let reads = c.in_ok-write_reply.ensures.reads in
    let decided = c.decide-decision.ensures in
    record {
      keeps = keeps_on _ _ _ decided.writes.keeps reads.disk.keeps;
      halted = λ is.
          let same = decided.writes.halted is in
          (reads.view ∙ same.0, λ honest. unchanged_on _ _ _ same.1 (reads.disk.unchanged honest));
    }
