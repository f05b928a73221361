use Rattle.std.proofs.Common.{◌≡◌, ℕ, ◌+◌, ◌<◌, Bool, List, length, arith, ap, ◌∙◌, Option, Some}
use Rattle.std.proofs.Common.{subst, sym}
use Rattle.std.specs.Prelude.{◌==◌, is_some, unwrap_or}
use Rattle.mot_groups.specs.Group.{Segment}
use Rattle.mot_player.specs.Course.{CourseView, course_of, entities_of, queued, waiting_of}
use Rattle.mot_player.specs.Inner.Course.{changed_course, followed, left_course, whole_course}
use Rattle.mot_player.specs.Inner.Difference.{difference_in}
use Rattle.mot_player.specs.PlayerView.{turn_with}
use Rattle.mot_player.specs.Inner.Entities.{IsOnCourse}
use Rattle.mot_player.specs.Inner.Ready.{IsFitted, place_with}
use Rattle.mot_player.specs.Place.{Place, change_turn, follow}
use Rattle.mot_player.specs.State.{view_of}
use Rattle.mot_player.specs.Turn.{Turn}
use Rattle.mot_player.specs.declared.difference.Difference.{Difference}
use Rattle.mot_player.specs.declared.state.State.{State}
use Rattle.mot_player.proofs.FollowedPlace.{IsFollowedOn, IsLeft, difference-found, followed-on}
use Rattle.mot_player.proofs.FollowedPlace.{left-place}
use Rattle.mot_player.proofs.Moved.{on-changed}
use Rattle.mot_player.proofs.Passing.{course-whole}
use Rattle.mot_player.proofs.state.State.change.Goals as goal

pub returns-clause-fitted : goal.returns-clause-fitted
returns-clause-fitted c =
    let old : State = c.args.self.now in
    let size : ℕ = old.segment_size in
    let fitted : IsFitted old = c.requires.fitted in
    let course : CourseView = course_of old.course in
    record {
      index = fitted.index;
      on_course = subst (IsOnCourse c.args.turn size) (sym (c.change.ensures.course
          ∙ ap (λ (d : Option Difference). changed_course d (old.sent == 0) c.unwrap_or-most.result
          c.entity_count-count.result course) c.difference-difference.ensures.difference))
          (on-changed old.turn c.args.turn size c.unwrap_or-most.result c.entity_count-count.result
          c.capacity.result course (old.sent == 0) (is_some old.follows)
          fitted.plannable c.entity_count.ensures.plannable c.entity_count-count.ensures.count
          fitted.on_course);
      plannable = c.entity_count.ensures.plannable;
      size = fitted.size;
      group = fitted.group;
      directory = fitted.directory;
      body = fitted.body;
      buffer = fitted.buffer;
    }

pub returns-clause-begun : goal.returns-clause-begun
unfolding change_turn
returns-clause-begun c = λ bodies next e.
    let old : State = c.args.self.now in
    let size : ℕ = old.segment_size in
    let turn : Turn = turn_with c.args.turn next in
    let course : CourseView = course_of old.course in
    let place : Place = place_with old bodies in
    let begins : course_of c.change.new.self ≡ whole_course =
    c.change.ensures.course
    ∙ ap (λ (d : Option Difference). changed_course d (old.sent == 0) c.unwrap_or-most.result
    c.entity_count-count.result course) (c.difference-difference.ensures.difference
    ∙ ap (λ (follows : Bool). difference_in follows c.capacity.result course old.turn.bodies
    c.args.turn.bodies) e) in
    ap (λ (v : CourseView). record place {
      turn = turn;
      waiting = waiting_of size turn v;
      early = length (queued size (entities_of turn) v.queue);
    }) begins
    ∙ ap (λ w. record place { turn = turn; waiting = w; early = 0 }) (course-whole turn size)

pub returns-clause-followed : goal.returns-clause-followed
unfolding follow
returns-clause-followed c = λ bodies next are next_are follows room followable.
    let p : State = c.args.self.now in
    let size : ℕ = p.segment_size in
    let n : ℕ = length p.turn.bodies + 1 in
    let most : ℕ = unwrap_or p.follows 0 in
    let idle : Bool = p.sent == 0 in
    let old : CourseView = course_of p.course in
    let left : CourseView = left_course idle n old in
    let turn : Turn = turn_with c.args.turn next in
    let place : Place = place_with p bodies in
    let fitted : IsFitted p = c.requires.fitted in
    let some : 0 < size = omega (arith, fitted.size.0) in
    let is : IsLeft (view_of p) bodies (view_of p).under_way left =
    left-place (view_of p) bodies idle (record { group = p.group.items; sent = p.sent }) some are
    fitted.plannable fitted.on_course in
    let on : IsFollowedOn (view_of p) c.args.turn bodies next left =
    followed-on (view_of p) c.args.turn bodies next left some are next_are fitted.plannable
    c.entity_count.ensures.plannable is followable in
    let less : length old.queue < c.capacity.result = omega (arith, room, c.capacity.ensures) in
    let difference : difference_in (is_some p.follows) c.capacity.result old p.turn.bodies
    c.args.turn.bodies ≡ Some on.difference =
    difference-found (is_some p.follows) c.capacity.result old p.turn.bodies c.args.turn.bodies
    follows less
    ∙ on.found in
    let course : course_of c.change.new.self ≡ followed on.difference most n left =
    c.change.ensures.course
    ∙ ap (λ (d : Option Difference). changed_course d idle c.unwrap_or-most.result
    c.entity_count-count.result old) (c.difference-difference.ensures.difference ∙ difference)
    ∙ ap (λ (k : ℕ). changed_course (Some on.difference) idle k c.entity_count-count.result old)
    c.unwrap_or-most.ensures
    ∙ ap (λ (k : ℕ). changed_course (Some on.difference) idle most k old)
    c.entity_count-count.ensures.count in
    ap (λ (v : CourseView). record place {
      turn = turn;
      waiting = waiting_of size turn v;
      early = length (queued size (entities_of turn) v.queue);
    }) course
    ∙ ap (λ (w : List Segment). record place {
      turn = turn;
      waiting = w;
      early =
          length (queued size (entities_of turn) (followed on.difference most n left).queue);
    }) on.waiting
    ∙ ap (λ (k : ℕ). record place {
      turn = turn;
      waiting = (follow turn place).waiting;
      early = k;
    }) on.early
