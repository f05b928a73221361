-- What the state of a player stands for, and what holds of it between requests.
use Rattle.std.specs.Prelude.{◌≡◌, ℕ, ◌+◌, ◌<◌, ◌≤◌, List, ◌∷◌}
use Rattle.std.specs.Prelude.{length, vec_len, vec_capacity}
use Rattle.mot_groups.specs.Group.{Segment, bytes_of_group}
use Rattle.mot_numbers.specs.declared.numbers.TheConstants.{MAX_SEGMENT}
use Rattle.mot_player.specs.declared.state.State.{State}
use Rattle.mot_player.specs.Place.{Place, group_for, to_send, with_begun}
use Rattle.mot_player.specs.Course.{course_of}
use Rattle.mot_player.specs.PlayerView.{place_of}
use Rattle.mot_player.specs.Inner.Entities.{IsOnCourse, IsPlannable}
use Rattle.mot_player.specs.State.{view_of}

abbrev pub place_with : State → List (List ℕ) → Place
place_with p bodies = place_of (view_of p) bodies

-- The next segment is one of the turn's, or nothing waits; and each buffer has room for the largest
-- group.
pub record IsFitted (p : State) : Type 0 where
  pub index : p.index < 4
  pub on_course : IsOnCourse p.turn p.segment_size (course_of p.course)
  pub plannable : IsPlannable p.turn
  pub size : (64 ≤ p.segment_size) × (p.segment_size ≤ MAX_SEGMENT)
  pub group : p.segment_size + 11 ≤ vec_capacity p.group
  pub directory : p.segment_size ≤ vec_capacity p.last_directory.segment
  pub body : p.segment_size ≤ vec_capacity p.last_body.segment
  pub buffer : vec_len p.buffer ≡ p.segment_size

-- and of a group under way bytes are left
pub record IsReady (p : State) : Type 0 where
  pub fitted : IsFitted p
  pub left : 0 < p.sent → p.sent < vec_len p.group

-- whatever the bodies are, a group as long as the next segment's has come, and the others wait
pub record HasTaken (old new : State) (bodies : List (List ℕ)) : Type 0 where
  pub segment : Segment
  pub others : List Segment
  pub next : to_send (place_with old bodies) ≡ segment ∷ others
  pub len : vec_len new.group ≡ length segment.bytes + 11
  pub waiting : (place_with new bodies).waiting ≡ others

-- the group of the next segment was begun, and none of its packets sent
pub record HasBegun (old new : State) (bodies : List (List ℕ)) : Type 0 where
  pub segment : Segment
  pub others : List Segment
  pub next : to_send (place_with old bodies) ≡ segment ∷ others
  pub group : new.group.items ≡ bytes_of_group (group_for (place_with old bodies) segment)
  pub place : place_with new bodies
      ≡ with_begun (place_with old bodies) (group_for (place_with old bodies) segment) others
