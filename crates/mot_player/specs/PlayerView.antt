-- Where a player stands but for the bodies, which stand elsewhere.
use Rattle.std.specs.Prelude.{◌≡◌, ℕ, List, [], ◌∷◌, length, map, Option, if◌then◌else◌, ◌++◌, Some}
use Rattle.std.specs.Prelude.{None}
use Rattle.mot_player.specs.Course.{CourseView, entities_of, queued, waiting_of}
use Rattle.mot_player.specs.Place.{Last, UnderWay, Place}
use Rattle.mot_player.specs.Turn.{Turn}
use Rattle.mot_numbers.specs.Reading.{is_empty}
use Rattle.mot_player.specs.declared.groups.LastGroup.{LastGroup}

-- of a body that a turn plays: its transport id and its length
pub record BodyPlan : Type 0 where
  pub tid : ℕ
  pub length : ℕ

-- a turn whose bodies stand elsewhere
pub record TurnPlan : Type 0 where
  pub tid : ℕ
  pub directory : List ℕ
  pub bodies : List BodyPlan

-- there is a body for each, of the length that it gives
abbrev pub AreBodiesFor : TurnPlan → List (List ℕ) → Type 0
AreBodiesFor plan bodies = map length bodies ≡ map (λ (b : BodyPlan). b.length) plan.bodies

abbrev pub with_bodies : List BodyPlan → List (List ℕ) → List (ℕ × List ℕ)
with_bodies (b ∷ plans) (body ∷ bodies) = (b.tid, body) ∷ with_bodies plans bodies
with_bodies [] bodies = []
with_bodies (b ∷ plans) [] = []

-- the turn, with its bodies in their order
abbrev pub turn_with : TurnPlan → List (List ℕ) → Turn
turn_with plan bodies =
    record { tid = plan.tid; directory = plan.directory; bodies = with_bodies plan.bodies bodies }

-- Where a player stands, but for the bodies.
pub record PlayerView : Type 0 where
  pub address : ℕ
  pub room : ℕ
  pub segment_size : ℕ
  pub under_way : Option UnderWay
  pub turn : TurnPlan
  pub course : CourseView
  pub follows : Option ℕ
  pub index : ℕ
  pub last_directory : Option Last
  pub last_body : Option Last

-- the place, with the bodies
abbrev pub place_of : PlayerView → List (List ℕ) → Place
place_of s bodies = record {
  address = s.address;
  room = s.room;
  segment_size = s.segment_size;
  under_way = s.under_way;
  waiting = waiting_of s.segment_size (turn_with s.turn bodies) s.course;
  early = length (queued s.segment_size (entities_of (turn_with s.turn bodies)) s.course.queue);
  follows = s.follows;
  turn = turn_with s.turn bodies;
  index = s.index;
  last_directory = s.last_directory;
  last_body = s.last_body;
}

-- What the program keeps of the group of a type that was begun last.

-- none where there is no segment
abbrev pub kept_last : LastGroup → Option Last
kept_last kept =
    if is_empty kept.segment.items then None
    else Some (record { index = kept.index; content = kept.front ++ kept.segment.items })
