-- Where a player begins that sends the newest bodies first.
use Rattle.std.specs.Prelude.{ℕ, ◌+◌, ◌-◌, ◌%◌, Bool, true, false, ◌&&◌, nat_lt, if◌then◌else◌}
use Rattle.std.specs.Prelude.{List, [], ◌∷◌, ◌++◌, Option, Some, None, length, map}
use Rattle.mot_player.specs.Place.{Place, directory_segments, opened_place}
use Rattle.mot_player.specs.Turn.{Turn, segments_of_bodies}
use Rattle.mot_player.specs.declared.planned_body.PlannedBody.{PlannedBody}
use Rattle.mot_player.specs.declared.turn.Turn.TheInside.{Inside}
use Rattle.mot_player.specs.PlayerView.{TurnPlan}

-- how old an id is: how far it lies behind the one that was taken last, on the circle of 65,535
abbrev pub age : (cursor id : ℕ) → ℕ
age cursor id = (cursor + 65535 - id) % 65535

-- how many of these ids are younger than this age
abbrev pub younger : (cursor old : ℕ) → List ℕ → ℕ
younger cursor old [] = 0
younger cursor old (id ∷ ids) =
    (if nat_lt (age cursor id) old then 1 else 0) + younger cursor old ids

-- fewer than so many of these ids are younger than this one
abbrev pub is_new : (most cursor : ℕ) → List ℕ → ℕ → Bool
is_new most cursor ids id = nat_lt (younger cursor (age cursor id) ids) most

-- of bodies the first so many whose ids pass a test
abbrev pub first_of : (ℕ → Bool) → (most : ℕ) → List (ℕ × List ℕ) → List (ℕ × List ℕ)
first_of test most [] = []
first_of test most (b ∷ bodies) =
    if test b.0 && nat_lt 0 most then b ∷ first_of test (most - 1) bodies
    else first_of test most bodies

-- of a turn's bodies the newest, at most so many, in their order
abbrev pub newest : (most cursor : ℕ) → List (ℕ × List ℕ) → List (ℕ × List ℕ)
newest most cursor bodies =
    first_of (is_new most cursor (map (λ (b : ℕ × List ℕ). b.0) bodies)) most bodies

-- The turn begins with these bodies: behind the group under way comes its directory, then they, and
-- then all of its bodies.
abbrev pub begin_with : List (ℕ × List ℕ) → Place → Place
begin_with firsts place = record place {
  waiting = directory_segments place.turn place.segment_size
      ++ segments_of_bodies place.segment_size firsts
      ++ segments_of_bodies place.segment_size place.turn.bodies;
  early = length (segments_of_bodies place.segment_size firsts);
}

-- Where a player of a turn begins that was just opened. One that follows changes may begin with its
-- newest bodies: with one fewer than may come early, so that a change has room before them all are
-- begun.
abbrev pub start_place : (address room size : ℕ) → Turn → (cursor : ℕ) → (follows : Option ℕ)
    → (newest_first : Bool) → Place
start_place address room size turn cursor None newest_first = opened_place address room size turn
start_place address room size turn cursor (Some most) false =
    record (opened_place address room size turn) { follows = Some most }
start_place address room size turn cursor (Some most) true =
    begin_with (newest (most - 1) cursor turn.bodies)
    (record (opened_place address room size turn) { follows = Some most })

-- What a turn of the program stands for.

abbrev pub plan_of : Inside → TurnPlan
plan_of turn = record {
  tid = turn.tid;
  directory = turn.directory.items;
  bodies = map (λ (b : PlannedBody). record { tid = b.tid; length = b.length }) turn.bodies.items;
}
