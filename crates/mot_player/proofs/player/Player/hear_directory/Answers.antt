use Rattle.std.proofs.Common.{◌≡◌, ◌+◌, List, length, ℕ, ap, ◌∙◌, arith, subst, sym}
use Rattle.mot_groups.specs.Group.{Segment}
use Rattle.mot_player.specs.Course.{CourseView, course_of, entities_of, queued, waiting_of}
use Rattle.mot_player.specs.Inner.Course.{heard_course}
use Rattle.mot_player.specs.PlayerView.{AreBodiesFor, PlayerView, TurnPlan, place_of, turn_with}
use Rattle.mot_player.specs.Inner.Ready.{IsFitted, place_with}
use Rattle.mot_player.specs.Place.{Place, hear_directory}
use Rattle.mot_player.specs.Turn.{Turn}
use Rattle.mot_player.specs.declared.course.Waiting.{Waiting}
use Rattle.mot_player.specs.declared.state.State.{State}
use Rattle.mot_player.proofs.Passing.{course-heard, heard-queue}
use Rattle.mot_player.proofs.player.Player.hear_directory.Goals as goal

pub returns-clause-place : goal.returns-clause-place
unfolding hear_directory
returns-clause-place c = λ bodies are.
    let state : State = c.self.inside.state in
    let plan : TurnPlan = state.turn in
    let size : ℕ = state.segment_size in
    let own : AreBodiesFor plan bodies =
    subst (λ (t : TurnPlan). AreBodiesFor t bodies)
    (sym (ap (λ (s : PlayerView). s.turn) c.self.view_is)) are in
    let fitted : IsFitted state = c.self.invariant.fitted in
    let turn : Turn = turn_with plan bodies in
    let n : ℕ = length plan.bodies + 1 in
    let before : CourseView = course_of state.course in
    let old : Place = place_with state bodies in
    let course : course_of c.hear_directory.new.self ≡ heard_course n before =
    c.hear_directory.ensures.course
    ∙ ap (λ (k : ℕ). heard_course k before) c.entity_count-count.ensures.count in
    ap (λ (v : CourseView). record old {
      waiting = waiting_of size turn v;
      early = length (queued size (entities_of turn) v.queue);
    }) course
    ∙ ap (λ (q : List Waiting). record old {
      waiting = waiting_of size turn (heard_course n before);
      early = length (queued size (entities_of turn) q);
    }) (heard-queue n before)
    ∙ ap (λ (w : List Segment). record old { waiting = w })
    (course-heard plan bodies size before (omega (arith, fitted.size.0)) own fitted.on_course)
    ∙ ap (λ (s : PlayerView). hear_directory (place_of s bodies)) c.self.view_is
