-- The segment that comes next of a turn.
use Rattle.std.specs.Prelude.{◌≡◌, ℕ, ◌+◌, ◌-◌, ◌==◌, if◌then◌else◌, List, ◌∷◌, length, take, drop}
use Rattle.mot_groups.specs.Group.{Segment}
use Rattle.mot_numbers.specs.Reading.{is_empty}
use Rattle.mot_player.specs.Course.{CourseView, entities_of, queued, waiting_of}
use Rattle.mot_player.specs.Inner.Course.{passed}
use Rattle.mot_player.specs.PlayerView.{AreBodiesFor, TurnPlan, turn_with}
use Rattle.mot_player.specs.declared.part.Part.{Part}
use Rattle.mot_player.specs.Inner.Entities.{entity_bytes, entity_tid}
use Rattle.mot_player.specs.Turn.{segments_of_turn}

-- a part as a segment
abbrev pub segment_of : TurnPlan → List (List ℕ) → Part → Segment
segment_of plan bodies p = record {
  kind = if p.entity == 0 then 6 else 4;
  tid = entity_tid plan p.entity;
  number = p.number;
  last = p.is_last;
  bytes = take p.len (drop p.from (entity_bytes plan bodies p.entity));
}

-- the segments that wait of a turn, or those of the whole turn where none do
abbrev pub due_from : TurnPlan → List (List ℕ) → ℕ → CourseView → List Segment
due_from plan bodies size course =
    let turn = turn_with plan bodies in
    let waiting = waiting_of size turn course in
    if is_empty waiting then segments_of_turn turn size else waiting

-- whatever the bodies, the part is the first segment that is due, and behind it come those of the
-- course behind it
abbrev pub IsNext : TurnPlan → ℕ → CourseView → Part → Type 0
IsNext plan size course p =
    (bodies : List (List ℕ)) → AreBodiesFor plan bodies →
    due_from plan bodies size course
    ≡ segment_of plan bodies p
    ∷ waiting_of size (turn_with plan bodies) (passed (length plan.bodies + 1) p course)

-- whatever the bodies, the part is one of those that come early if it is a body's and some do
abbrev pub TakesEarly : TurnPlan → ℕ → CourseView → Part → Type 0
TakesEarly plan size course p =
    (bodies : List (List ℕ)) → AreBodiesFor plan bodies →
    length (queued size (entities_of (turn_with plan bodies))
    (passed (length plan.bodies + 1) p course).queue)
    ≡ (if (segment_of plan bodies p).kind == 6
    then length (queued size (entities_of (turn_with plan bodies)) course.queue)
    else length (queued size (entities_of (turn_with plan bodies)) course.queue) - 1)
