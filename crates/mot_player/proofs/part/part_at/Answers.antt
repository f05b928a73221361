use Rattle.std.proofs.Common.{◌≡◌, ◌+◌, length, arith, sym, ap, ◌∙◌, subst}
use Rattle.mot_player.specs.Course.{course_of}
use Rattle.mot_player.specs.Inner.Course.{due_of}
use Rattle.mot_player.specs.PlayerView.{TurnPlan}
use Rattle.mot_player.specs.Inner.Entities.{IsInside}
use Rattle.mot_player.specs.declared.course.Waiting.{Waiting}
use Rattle.mot_player.proofs.Passing.{IsPartAt, course-early, course-next, due-inside, on-course}
use Rattle.mot_player.proofs.part.part_at.Goals as goal

-- what is due, as the clauses name it
due_is : (c : goal.After-segment_at) → c.due-due.result
    ≡ due_of (length c.args.turn.now.bodies + 1) (course_of c.args.course.now)
due_is c = c.due-due.ensures.value
    ∙ ap (λ n. due_of n (course_of c.args.course.now)) c.entity_count.ensures.count

part_of : (c : goal.After-segment_at) → IsPartAt c.args.turn.now c.args.size
    (due_of (length c.args.turn.now.bodies + 1) (course_of c.args.course.now))
    c.segment_at.result
part_of c =
    let h = c.segment_at.ensures in
    let plan : TurnPlan = c.args.turn.now in
    let inside : IsInside plan c.args.size c.due-due.result =
    subst (IsInside plan c.args.size) (sym (due_is c))
    (due-inside plan c.args.size (course_of c.args.course.now) h.plannable c.requires) in
    subst (λ (w : Waiting). IsPartAt plan c.args.size w c.segment_at.result) (due_is c) (record {
      entity = h.entity;
      number = h.number.0;
      next_entity = h.next_entity;
      next_segment = h.next_segment;
      part = record {
        from = h.from;
        begins = inside.1;
        range = h.range;
        short = h.len.1;
        full = h.full;
        last = h.is_last;
      };
    })

pub returns-clause-on_course : goal.returns-clause-on_course
returns-clause-on_course c =
    on-course c.args.turn.now c.args.size (course_of c.args.course.now) c.segment_at.result
    c.segment_at.ensures.plannable c.requires (part_of c)

pub returns-clause-next : goal.returns-clause-next
returns-clause-next c = λ bodies are.
    course-next c.args.turn.now bodies c.args.size (course_of c.args.course.now)
    c.segment_at.result (omega (arith, c.segment_at.ensures.size.0)) are c.requires
    (due-inside c.args.turn.now c.args.size (course_of c.args.course.now)
    c.segment_at.ensures.plannable c.requires) (part_of c)

pub returns-clause-early : goal.returns-clause-early
returns-clause-early c = λ bodies are.
    course-early c.args.turn.now bodies c.args.size (course_of c.args.course.now)
    c.segment_at.result (omega (arith, c.segment_at.ensures.size.0)) are c.requires (part_of c)
