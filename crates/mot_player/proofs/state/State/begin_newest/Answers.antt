use Rattle.std.proofs.Common.{◌≡◌, ℕ, ◌++◌, List, length, arith, ap, ◌∙◌, drop, Some, subst, sym}
use Rattle.mot_groups.specs.Group.{Segment}
use Rattle.mot_player.specs.Course.{CourseView, entities_of, queued, segments_from, waiting_of}
use Rattle.mot_player.specs.PlayerView.{turn_with}
use Rattle.mot_player.specs.Inner.Entities.{IsOnCourse}
use Rattle.mot_player.specs.Inner.Newest.{first_from, ids_of}
use Rattle.mot_player.specs.Inner.Ready.{IsFitted, place_with}
use Rattle.mot_player.specs.Place.{Place, directory_segments}
use Rattle.mot_player.specs.Start.{is_new, newest}
use Rattle.mot_player.specs.Turn.{Turn, segments_of_bodies}
use Rattle.mot_player.specs.declared.course.Waiting.{Waiting}
use Rattle.mot_player.specs.declared.state.State.{State}
use Rattle.mot_player.proofs.FirstBodies.{inside-first, queued-newest}
use Rattle.mot_player.proofs.NextSegment.{from-first}
use Rattle.mot_player.proofs.Passing.{on-whole}
use Rattle.mot_player.proofs.Segments.{segments-bodies}
use Rattle.mot_player.proofs.state.State.begin_newest.Goals as goal

pub returns-clause-fitted : goal.returns-clause-fitted
returns-clause-fitted c =
    let old : State = c.args.self.now in
    let fitted : IsFitted old = c.requires.fitted in
    let whole = on-whole old.turn old.segment_size fitted.plannable in
    let queue : List Waiting =
    first_from (is_new c.args.most c.args.cursor (ids_of old.turn.bodies)) c.args.most 1
    old.turn.bodies in
    record {
      index = fitted.index;
      on_course = subst (IsOnCourse old.turn old.segment_size) (sym (c.begin_with.ensures.course
          ∙ ap (λ (q : List Waiting). record { directory = Some 0; queue = q; entity = 1; segment = 0 })
          c.in_ok-queue.ensures.newest)) (record {
            directory = whole.directory;
            queue = inside-first old.turn old.segment_size
                (is_new c.args.most c.args.cursor (ids_of old.turn.bodies)) c.args.most 1
                old.turn.bodies fitted.plannable (omega arith) (omega arith);
            body = whole.body;
            within = whole.within;
          });
      plannable = fitted.plannable;
      size = fitted.size;
      group = fitted.group;
      directory = fitted.directory;
      body = fitted.body;
      buffer = fitted.buffer;
    }

pub returns-clause-begun : goal.returns-clause-begun
returns-clause-begun c = λ bodies are.
    let old : State = c.args.self.now in
    let size : ℕ = old.segment_size in
    let turn : Turn = turn_with old.turn bodies in
    let place : Place = place_with old bodies in
    let queue : List Waiting =
    first_from (is_new c.args.most c.args.cursor (ids_of old.turn.bodies)) c.args.most 1
    old.turn.bodies in
    let rest : segments_from size (entities_of turn) 1 0 ≡ segments_of_bodies size turn.bodies =
    from-first size (drop 1 (entities_of turn)) ∙ segments-bodies size turn.bodies in
    ap (λ (v : CourseView). record place {
      waiting = waiting_of size turn v;
      early = length (queued size (entities_of turn) v.queue);
    }) (c.begin_with.ensures.course
    ∙ ap (λ (q : List Waiting). record { directory = Some 0; queue = q; entity = 1; segment = 0 })
    c.in_ok-queue.ensures.newest)
    ∙ ap (λ (ss : List Segment). record place {
      waiting = directory_segments turn size ++ ss ++ segments_from size (entities_of turn) 1 0;
      early = length ss;
    }) (queued-newest old.turn bodies size c.args.most c.args.cursor are)
    ∙ ap (λ (ss : List Segment). record place {
      waiting = directory_segments turn size
          ++ segments_of_bodies size (newest c.args.most c.args.cursor turn.bodies) ++ ss;
      early = length (segments_of_bodies size (newest c.args.most c.args.cursor turn.bodies));
    }) rest
