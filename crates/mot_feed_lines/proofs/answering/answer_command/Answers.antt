use Rattle.std.proofs.Common.{[], inl, refl, subst, sym, ◌∙◌}
use Rattle.mot_feed_lines.proofs.Commands.{asked_of, ran}
use Rattle.mot_feed_lines.proofs.Requests.{never}
use Rattle.mot_feed_lines.proofs.answering.answer_command.Goals as goal
use Rattle.mot_feed_lines.specs.Inner.{ran_of}
use Rattle.mot_update.proofs.Laws.{answered_one, attempted}
use Rattle.mot_update.specs.HasRun.{HasRun}

pub returns-clause-answered : goal.returns-clause-answered
returns-clause-answered g c =
    let state = g.D.Disk.state in
    let old = c.args.server.now in
    let new = c.attempt-attempt.new.self in
    let attempt = c.attempt-attempt.result in
    let is = c.attempt-attempt.ensures in
    let command = c.args.command.now in
    let tells = attempted old new (state old.disk) (state new.disk) attempt is.calm is.halted
    is.fault in
    record {
      commands = ran_of command attempt;
      are = asked_of old new (state old.disk) (state new.disk) command attempt tells;
      run = λ s holds honest.
          let run = ran old new (state old.disk) (state new.disk) command s attempt tells
          (answered_one old new (state old.disk) (state new.disk) s command attempt
          (is.leaves s holds) is.layout (λ last. is.place s last holds)) in (
            run.0,
            subst (λ f. HasRun old new (state old.disk) (state new.disk) s
                (ran_of command attempt) run.0 f) (sym c.ended.ensures) run.1,
          );
    }

pub returns-then-halted-clause-answered : goal.returns-then-halted-clause-answered
returns-then-halted-clause-answered g c = record {
  commands = [];
  are = inl refl;
  run = λ s holds honest. absurd (never (sym holds.going ∙ sym c.if-halted.ensures.value));
}
