use Rattle.std.proofs.Common.{◌≡◌, ℕ, List, length, length-take-le, take, drop, sym, ap, ◌∙◌, arith}
use Rattle.std.proofs.Common.{refl}
use Rattle.mot_numbers.proofs.Laws.{same_error}
use Rattle.mot_player.specs.PlayerView.{TurnPlan}
use Rattle.mot_player.specs.Inner.Entities.{entity_bytes}
use Rattle.mot_player.proofs.SomeBodies.{some_bodies}
use Rattle.mot_player.proofs.state.State.begin.Goals as goal

pub returns-clause-of_some : goal.returns-clause-of_some
returns-clause-of_some g c =
    let part = c.part_at-part in
    let plan : TurnPlan = c.args.self.now.turn in
    let buffer : List ℕ = c.read_front.new.buffer.items in
    let bytes : List ℕ = take part.result.len buffer in
    let long : length bytes ≡ part.result.len =
    length-take-le part.result.len buffer (omega (
      arith,
      c.read_front.ensures.len,
      c.requires.fitted.buffer,
      part.ensures.len,
    )) in
    let some = some_bodies plan part.result.entity part.result.from bytes part.ensures.entity
    (omega (arith, long, part.ensures.range))
    (λ first. c.in_ok-read_front.ensures.directory first
    ∙ ap (λ (n : ℕ). take n (drop part.result.from plan.directory)) (sym long)) in
    let begun = c.begin_part.ensures.begun some.0 some.1 (some.2
    ∙ ap (λ (n : ℕ). take n (drop part.result.from
    (entity_bytes plan some.0 part.result.entity))) long) in (
      some.0,
      some.1,
      record {
        segment = begun.segment;
        others = begun.others;
        next = begun.next;
        group = begun.group;
        place = begun.place;
      },
    )

pub returns-clause-begun : goal.returns-clause-begun
returns-clause-begun g c = λ honest.
    let begun = c.begin_part.ensures.begun (g.B.Bodies.bodies c.args.bodies.now) c.requires.bodies
    (c.in_ok-read_front.ensures.bytes honest) in
    record {
      segment = begun.segment;
      others = begun.others;
      next = begun.next;
      group = begun.group;
      place = begun.place;
    }

pub returns-clause-taken : goal.returns-clause-taken
returns-clause-taken g c = λ bodies are.
    let taken = c.begin_part.ensures.taken bodies are in
    record {
      segment = taken.segment;
      others = taken.others;
      next = taken.next;
      len = taken.len;
      waiting = taken.waiting;
    }

pub returns-in_err-read_front-clause-begun : goal.returns-in_err-read_front-clause-begun
returns-in_err-read_front-clause-begun g c = λ honest.
    rw (same_error c.from_residual.result c.in_err-read_front.field-0.0
    c.from_residual.ensures.1) tt

pub returns-in_err-read_front-clause-of_some : goal.returns-in_err-read_front-clause-of_some
returns-in_err-read_front-clause-of_some g c =
    rw (same_error c.from_residual.result c.in_err-read_front.field-0.0
    c.from_residual.ensures.1) tt

pub returns-in_err-read_front-clause-taken : goal.returns-in_err-read_front-clause-taken
returns-in_err-read_front-clause-taken g c =
    rw (same_error c.from_residual.result c.in_err-read_front.field-0.0
    c.from_residual.ensures.1) tt

pub returns-in_err-read_front-clause-some : goal.returns-in_err-read_front-clause-some
returns-in_err-read_front-clause-some g c =
    rw (same_error c.from_residual.result c.in_err-read_front.field-0.0
    c.from_residual.ensures.1) tt

pub returns-in_err-read_front-clause-sent : goal.returns-in_err-read_front-clause-sent
returns-in_err-read_front-clause-sent g c = c.requires.sent

pub returns-in_err-read_front-clause-fitted : goal.returns-in_err-read_front-clause-fitted
returns-in_err-read_front-clause-fitted g c =
    let fitted = c.requires.fitted in
    record {
      index = fitted.index;
      on_course = fitted.on_course;
      plannable = fitted.plannable;
      size = fitted.size;
      group = fitted.group;
      directory = fitted.directory;
      body = fitted.body;
      buffer = c.read_front.ensures.len ∙ fitted.buffer;
    }

pub returns-in_err-read_front-clause-stays : goal.returns-in_err-read_front-clause-stays
returns-in_err-read_front-clause-stays g c =
    rw (same_error c.from_residual.result c.in_err-read_front.field-0.0
    c.from_residual.ensures.1) refl

pub returns-in_err-read_front-clause-reads : goal.returns-in_err-read_front-clause-reads
returns-in_err-read_front-clause-reads g c =
    rw (same_error c.from_residual.result c.in_err-read_front.field-0.0 c.from_residual.ensures.1)
    c.in_err-read_front.ensures.reads

pub returns-clause-reads : goal.returns-clause-reads
returns-clause-reads g c = c.in_ok-read_front.ensures.reads

pub returns-clause-fitted : goal.returns-clause-fitted
returns-clause-fitted g c = c.begin_part.ensures.fitted

pub returns-clause-sent : goal.returns-clause-sent
returns-clause-sent g c = c.begin_part.ensures.sent

pub returns-clause-some : goal.returns-clause-some
returns-clause-some g c = c.begin_part.ensures.some

pub returns-clause-turn : goal.returns-clause-turn
returns-clause-turn g c = c.begin_part.ensures.turn

pub returns-clause-size : goal.returns-clause-size
returns-clause-size g c = c.begin_part.ensures.size
