use Rattle.std.proofs.Common.{ap, ◌∙◌, arith, subst, sym}
use Rattle.std.specs.Prelude.{◌==◌, nat_lt, not}
use Rattle.mot_player.specs.Course.{course_of}
use Rattle.mot_player.specs.PlayerView.{AreBodiesFor, PlayerView, TurnPlan, place_of}
use Rattle.mot_player.specs.Inner.Ready.{IsFitted}
use Rattle.mot_player.specs.declared.state.State.{State}
use Rattle.mot_player.proofs.Passing.{queue-early}
use Rattle.mot_player.proofs.player.Player.has_early.Goals as goal

pub returns : goal.returns
returns c = λ bodies are.
    let state : State = c.self.inside.state in
    let own : AreBodiesFor state.turn bodies =
    subst (λ (t : TurnPlan). AreBodiesFor t bodies)
    (sym (ap (λ (s : PlayerView). s.turn) c.self.view_is)) are in
    let fitted : IsFitted state = c.self.invariant.fitted in
    ap (nat_lt 0) c.queued.ensures.count
    ∙ queue-early state.turn bodies state.segment_size (course_of state.course).queue
    (omega (arith, fitted.size.0)) own fitted.on_course.queue
    ∙ ap (λ (s : PlayerView). not ((place_of s bodies).early == 0)) c.self.view_is
