use Rattle.std.proofs.Common.{ℕ, ap, length, ◌∙◌, subst, sym}
use Rattle.mot_player.specs.Course.{CourseView, entities_of, queued, waiting_of}
use Rattle.mot_player.specs.PlayerView.{turn_with}
use Rattle.mot_player.specs.Inner.Entities.{IsOnCourse}
use Rattle.mot_player.specs.Inner.Ready.{IsFitted, place_with}
use Rattle.mot_player.specs.Place.{Place, change_turn}
use Rattle.mot_player.specs.Turn.{Turn}
use Rattle.mot_player.specs.declared.state.State.{State}
use Rattle.mot_player.proofs.Passing.{course-whole, on-whole}
use Rattle.mot_player.proofs.state.State.begin_turn.Goals as goal

pub returns-clause-fitted : goal.returns-clause-fitted
returns-clause-fitted c =
    let size : ℕ = c.args.self.now.segment_size in
    let fitted : IsFitted c.args.self.now = c.requires.fitted in
    record {
      index = fitted.index;
      on_course = subst (IsOnCourse c.args.turn size) (sym c.begin_turn.ensures.course)
          (on-whole c.args.turn size c.entity_count.ensures.plannable);
      plannable = c.entity_count.ensures.plannable;
      size = fitted.size;
      group = fitted.group;
      directory = fitted.directory;
      body = fitted.body;
      buffer = fitted.buffer;
    }

pub returns-clause-begun : goal.returns-clause-begun
unfolding change_turn
returns-clause-begun c = λ bodies next.
    let old : State = c.args.self.now in
    let size : ℕ = old.segment_size in
    let turn : Turn = turn_with c.args.turn next in
    let place : Place = place_with old bodies in
    ap (λ (v : CourseView). record place {
      turn = turn;
      waiting = waiting_of size turn v;
      early = length (queued size (entities_of turn) v.queue);
    }) c.begin_turn.ensures.course
    ∙ ap (λ w. record place { turn = turn; waiting = w; early = 0 }) (course-whole turn size)
