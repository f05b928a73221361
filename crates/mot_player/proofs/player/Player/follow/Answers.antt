use Rattle.std.proofs.Common.{◌≡◌, ◌<◌, ◌∙◌, ap, sym, subst, ℕ, length, Bool, true, false, refl}
use Rattle.std.specs.Prelude.{if◌then◌else◌, is_some}
use Rattle.mot_player.specs.Course.{CourseView}
use Rattle.mot_player.specs.Turn.{IsFollowable, Turn}
use Rattle.mot_player.specs.Inner.Ready.{place_with}
use Rattle.mot_player.specs.Place.{Place, change_turn, changed, follow}
use Rattle.mot_player.specs.PlayerView.{AreBodiesFor, PlayerView, place_of, turn_with}
use Rattle.mot_player.specs.State.{view_of}
use Rattle.mot_player.specs.declared.state.State.{State}
use Rattle.mot_player.proofs.player.Player.follow.Goals as goal

-- a changed turn is followed, or begins
changed-cases : (turn : Turn) (old new : Place) (t : Bool) → is_some old.follows ≡ t →
    (is_some old.follows ≡ false → new ≡ change_turn turn old) →
    (is_some old.follows ≡ true → new ≡ follow turn old) → new ≡ changed turn old
unfolding changed
changed-cases turn old new true e f g =
    g e ∙ ap (λ (b : Bool). if b then follow turn old else change_turn turn old) (sym e)
changed-cases turn old new false e f g =
    f e ∙ ap (λ (b : Bool). if b then follow turn old else change_turn turn old) (sym e)

pub returns-clause-begun : goal.returns-clause-begun
returns-clause-begun c = λ bodies next e.
    let turn : Turn = turn_with c.args.turn next in
    c.change.ensures.begun bodies next (ap (λ (s : PlayerView). is_some s.follows) c.self.view_is ∙ e)
    ∙ ap (λ (s : PlayerView). change_turn turn (place_of s bodies)) c.self.view_is

pub returns-clause-place : goal.returns-clause-place
returns-clause-place c = λ bodies next are next_are may_follow.
    let state : State = c.self.inside.state in
    let view : PlayerView = c.args.self.now in
    let turn : Turn = turn_with c.args.turn next in
    let is : view_of state ≡ view = c.self.view_is in
    changed-cases turn (place_of view bodies) (place_with c.change.new.self next)
    (is_some view.follows) refl
    (λ e. c.change.ensures.begun bodies next (ap (λ (s : PlayerView). is_some s.follows) is ∙ e)
    ∙ ap (λ (s : PlayerView). change_turn turn (place_of s bodies)) is)
    (λ e. let may = may_follow e in
    c.change.ensures.followed bodies next
    (subst (λ (s : PlayerView). AreBodiesFor s.turn bodies) (sym is) are) next_are
    (ap (λ (s : PlayerView). is_some s.follows) is ∙ e)
    (subst (λ (n : ℕ). length (view_of state).course.queue < n) (sym c.into_queue.ensures.room)
    (subst (λ (s : PlayerView). length s.course.queue < c.args.spare) (sym is) may.0))
    (subst (λ (s : PlayerView). IsFollowable (turn_with s.turn bodies) turn) (sym is) may.1)
    ∙ ap (λ (s : PlayerView). follow turn (place_of s bodies)) is)

pub returns-clause-stays : goal.returns-clause-stays
returns-clause-stays c =
    let course : CourseView = (view_of c.change.new.self).course in
    c.change.ensures.stays
    ∙ ap (λ (s : PlayerView). record s { turn = c.args.turn; course = course }) c.self.view_is
