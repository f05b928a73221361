-- However many changes are followed, a turn ends, and each body that stays is sent in it.
use Rattle.std.specs.Prelude.{◌≡◌, ℕ, ◌+◌, ◌*◌, ◌<◌, ◌≤◌, Bool, true, List, [], ◌∷◌, Some, length}
use Rattle.std.specs.Prelude.{map, ⊤}
use Rattle.std.specs.List.{AllByRecursion}
use Rattle.mot_groups.specs.Entity.{own_segments}
use Rattle.mot_groups.specs.Group.{Segment}
use Rattle.mot_listening.specs.Waits.{early_packets, left_packets, longest_body, longest_group}
use Rattle.mot_objects.specs.Ids.{is_distinct}
use Rattle.mot_player.specs.Turn.{IsOneChange, Turn}
use Rattle.mot_player.specs.Place.{Place, Sent, Step, Request, NewTurn, Directory, Follow}
use Rattle.mot_player.specs.Place.{change_between, directory_segments, fresh_segments, opened_place}
use Rattle.mot_player.specs.Place.{left_of, packets_of_segments, sent_by}
use Rattle.mot_player.specs.Repeats.{ends_at_last}
use Rattle.mot_player.specs.Start.{start_place}
use Rattle.mot_player.specs.Staying.{HasDirectory, Stays, begun_by, none_ends}

-- a turn with a directory, whose bodies all have bytes, and no two of them one id
pub record HasBodies (turn : Turn) : Type 0 where
  pub directory : 0 < length turn.directory
  pub some : AllByRecursion (λ (b : ℕ × List ℕ). 0 < length b.1) turn.bodies
  pub distinct : is_distinct (map (λ (b : ℕ × List ℕ). b.0) turn.bodies) ≡ true

-- each turn among these steps is such a one, with one change more, and is followed
abbrev pub AreFollowed : Turn → List Step → Type 0
AreFollowed old [] = ⊤
AreFollowed old (Request ∷ steps) = AreFollowed old steps
AreFollowed old (NewTurn turn ∷ steps) = ⊥
AreFollowed old (Directory ∷ steps) = AreFollowed old steps
AreFollowed old (Follow turn ∷ steps) =
    HasBodies turn × IsOneChange old.bodies turn.bodies × AreFollowed turn steps

-- the packets that these steps add to those of a turn: of a directory that is asked for; and with a
-- change of the new directory and, twice, of the new body
abbrev pub added_packets : (room size : ℕ) → Turn → List Step → ℕ
added_packets room size old [] = 0
added_packets room size old (Directory ∷ steps) =
    packets_of_segments room (directory_segments old size) + added_packets room size old steps
added_packets room size old (Follow turn ∷ steps) =
    packets_of_segments room (directory_segments turn size)
    + 2 * packets_of_segments room
    (fresh_segments size (change_between old.bodies turn.bodies))
    + added_packets room size turn steps
added_packets room size old (step ∷ steps) = added_packets room size old steps

-- the turn behind these steps
abbrev pub turn_behind : Turn → List Step → Turn
turn_behind turn [] = turn
turn_behind turn (NewTurn next ∷ steps) = turn_behind next steps
turn_behind turn (Follow next ∷ steps) = turn_behind next steps
turn_behind turn (step ∷ steps) = turn_behind turn steps

-- Of a player that follows all changes a turn ends before so many packets: the longest group's,
-- those of what is to be sent, and those that are added meanwhile.
abbrev pub TurnsEndSoon : Type 0
TurnsEndSoon =
    (address room size most cursor : ℕ) (newest_first : Bool) (first : Turn)
    (before during : List Step) (earlier sents : List Sent) (place new : Place) → 0 < room → 0 < size → HasBodies first →
    AreFollowed first before →
    sent_by (start_place address room size first cursor (Some most) newest_first) before
    ≡ Some (earlier, place) →
    AreFollowed (turn_behind first before) during → sent_by place during ≡ Some (sents, new) →
    none_ends sents ≡ true →
    length sents < longest_group place + left_packets place
    + added_packets room size (turn_behind first before) during

-- However many changes are followed, what comes early takes no more packets than one body more than
-- may come so, each as long as the longest of the turn.
abbrev pub EarlyIsShort : Type 0
EarlyIsShort =
    (address room size most : ℕ) (first : Turn) (steps : List Step) (sents : List Sent)
    (place : Place) → 0 < room → 0 < size → HasBodies first → AreFollowed first steps →
    sent_by (record (opened_place address room size first) { follows = Some most }) steps
    ≡ Some (sents, place) → early_packets place ≤ (most + 1) * longest_body place

-- Up to the packet that ends a turn, each body that stays is sent with all of its segments that are
-- left, in their order and each once, whatever directories and changes come between: from the
-- beginning of the turn on, the whole body.
abbrev pub BodiesComeWhole : Type 0
BodiesComeWhole =
    (place new : Place) (steps : List Step) (sents : List Sent) (begun : List Segment) (id : ℕ) →
    0 < place.segment_size → HasDirectory place.turn → sent_by place steps ≡ Some (sents, new) →
    begun_by place steps ≡ Some begun → ends_at_last sents ≡ true → Stays id place.turn steps →
    own_segments 4 id begun ≡ own_segments 4 id (left_of place)
