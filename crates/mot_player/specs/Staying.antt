-- Bodies that stay go on, whatever directories and changes come between the requests.
use Rattle.std.specs.Prelude.{◌≡◌, ◌==◌, if◌then◌else◌, ℕ, ◌<◌, ◌≤◌, Bool, ◌||◌, not, true, false}
use Rattle.std.specs.Prelude.{List, [], ◌∷◌, ◌++◌, drop, length, replicate, take}
use Rattle.std.specs.Prelude.{Option, Some, None, ⊤}
use Rattle.std.specs.List.{list_all}
use Rattle.mot_groups.specs.Entity.{own_segments, segments_of}
use Rattle.mot_groups.specs.Group.{Segment}
use Rattle.mot_numbers.specs.Reading.{◌>>=◌}
use Rattle.mot_player.specs.Place.{Place, Sent, Step, Request, NewTurn, Directory, Follow, UnderWay}
use Rattle.mot_player.specs.Place.{Change, Same, Put, Replaced, Withdrawn, bodies_not_begun}
use Rattle.mot_player.specs.Place.{change_between, change_turn, early_of, follow, fresh_segments}
use Rattle.mot_player.specs.Place.{goes_early, hear_directory, left_of, most_early, of_bodies}
use Rattle.mot_player.specs.Place.{opened_place, request, rest_after, rest_of, sent_by, that_stay}
use Rattle.mot_player.specs.Place.{to_send}
use Rattle.mot_player.specs.Turn.{Turn}

-- the segment whose group a request begins; none where it goes on with the group under way
abbrev pub begun_with : Place → Option UnderWay → List Segment
begun_with place None = take 1 (to_send place)
begun_with place (Some u) = []

-- the segments whose groups the requests among steps begin, in order
unfoldable pub begun_by : Place → List Step → Option (List Segment)
begun_by place [] = Some []
begun_by place (Request ∷ steps) = do
  sent ← request place
  others ← begun_by sent.place steps
  Some (begun_with place place.under_way ++ others)
begun_by place (NewTurn turn ∷ steps) = begun_by (change_turn turn place) steps
begun_by place (Directory ∷ steps) = begun_by (hear_directory place) steps
begun_by place (Follow turn ∷ steps) = begun_by (follow turn place) steps

-- no turn ended with these
abbrev pub none_ends : List Sent → Bool
none_ends sents = list_all (λ (s : Sent). not s.ends_turn) sents

-- a turn with a directory that can be sent
abbrev pub HasDirectory : Turn → Type 0
HasDirectory turn = 0 < length turn.directory

-- the body of this id came or went with a change
abbrev pub touches : Change → ℕ → Bool
touches Same id = false
touches (Put new) id = id == new.0
touches (Replaced old new) id = id == old || id == new.0
touches (Withdrawn old) id = id == old

-- From this turn on a body of this id stays: no turn begins anew, and it neither comes nor goes with
-- a turn that is followed.
abbrev pub Stays : ℕ → Turn → List Step → Type 0
Stays id old [] = ⊤
Stays id old (Request ∷ steps) = Stays id old steps
Stays id old (NewTurn turn ∷ steps) = ⊥
Stays id old (Directory ∷ steps) = Stays id old steps
Stays id old (Follow turn ∷ steps) =
    HasDirectory turn × (touches (change_between old.bodies turn.bodies) id ≡ false)
    × Stays id turn steps

-- As long as no turn ends, the segments of a body that stays are begun in their order, each once,
-- and those not begun are left: none is passed over, none comes twice, and a body that was cut goes
-- on with its next.
abbrev pub BodiesGoOn : Type 0
BodiesGoOn =
    (place new : Place) (steps : List Step) (sents : List Sent) (begun : List Segment) (id : ℕ) →
    0 < place.segment_size → HasDirectory place.turn →
    sent_by place steps ≡ Some (sents, new) → begun_by place steps ≡ Some begun →
    none_ends sents ≡ true → Stays id place.turn steps →
    own_segments 4 id begun ++ own_segments 4 id (left_of new)
    ≡ own_segments 4 id (left_of place)

-- A directory that is asked for comes whole and next behind the group under way, unless the turn
-- has no more to send, and then the next begins with it.
abbrev pub DirectoryComes : Type 0
DirectoryComes =
    (place : Place) → 0 < place.segment_size → HasDirectory place.turn →
    (others : List Segment)
    × (to_send (hear_directory place)
    ≡ segments_of 6 place.turn.tid place.segment_size place.turn.directory ++ others)

-- A changed turn that is followed: behind the group under way come its whole directory, the bodies
-- that came early before and stay, and the body that came with it, whole, if it goes early; and
-- behind them the rest of the turn, as the change leaves it. No segment comes of a body that is
-- gone: one of which no segment stays.
pub record IsFollowed (place : Place) (turn : Turn) (change : Change) : Type 0 where
  pub next : to_send (follow turn place)
      ≡ segments_of 6 turn.tid place.segment_size turn.directory
      ++ early_of (follow turn place) ++ rest_of (follow turn place)
  pub early : early_of (follow turn place)
      ≡ that_stay change (early_of place)
      ++ (if goes_early change place then fresh_segments place.segment_size change else [])
  pub rest : rest_of (follow turn place)
      ≡ rest_after change (goes_early change place) (fresh_segments place.segment_size change)
      (rest_of place)
  pub gone : (id : ℕ) → ((s : Segment) → s.tid ≡ id → that_stay change (s ∷ []) ≡ []) →
      own_segments 4 id (left_of (follow turn place)) ≡ []

abbrev pub ChangesComeNext : Type 0
ChangesComeNext =
    (place : Place) (turn : Turn) → 0 < place.segment_size → HasDirectory turn →
    IsFollowed place turn (change_between place.turn.bodies turn.bodies)

-- The body that comes with a change goes early if of those that do so fewer are not begun than may
-- be.
abbrev pub ChangesGoEarly : Type 0
ChangesGoEarly =
    (place : Place) (turn : Turn) → 0 < place.segment_size → HasDirectory turn →
    bodies_not_begun (early_of place) < most_early place →
    early_of (follow turn place)
    ≡ that_stay (change_between place.turn.bodies turn.bodies) (early_of place)
    ++ fresh_segments place.segment_size (change_between place.turn.bodies turn.bodies)

-- Of what comes early no more bodies are not begun than may be; and of what waits so many segments
-- come early as are counted.
pub record AreFewEarly (place : Place) : Type 0 where
  pub counted : place.early ≤ length (of_bodies place.waiting)
  pub few : bodies_not_begun (early_of place) ≤ most_early place

-- However many changes are followed, of what comes early at most so many bodies are not begun.
abbrev pub FewGoEarly : Type 0
FewGoEarly =
    (address room size most : ℕ) (turn : Turn) (steps : List Step) (sents : List Sent)
    (new : Place) →
    sent_by (record (opened_place address room size turn) { follows = Some most }) steps
    ≡ Some (sents, new) →
    bodies_not_begun (early_of new) ≤ most

-- A body that is replaced keeps its place: where the old one's segments stood in the rest, the new
-- one's come; and where the old one was begun, what was left of it goes.
abbrev pub ReplacedKeepsItsPlace : Type 0
ReplacedKeepsItsPlace =
    (place : Place) (turn : Turn) (old : ℕ) (bytes : List ℕ) (new : ℕ × List ℕ) (begun : ℕ)
    (before after : List Segment) → 0 < place.segment_size → HasDirectory turn → 0 < length bytes →
    change_between place.turn.bodies turn.bodies ≡ Replaced old new →
    rest_of place
    ≡ before ++ drop begun (segments_of 4 old place.segment_size bytes) ++ after →
    own_segments 4 old before ≡ [] → own_segments 4 old after ≡ [] →
    rest_of (follow turn place)
    ≡ before ++ (if begun == 0 then segments_of 4 new.0 place.segment_size new.1 else []) ++ after

-- As long as no turn ends, requests begin the segments that are left, in their order.
abbrev pub RequestsTakeInOrder : Type 0
RequestsTakeInOrder =
    (place new : Place) (n : ℕ) (sents : List Sent) (begun : List Segment) →
    sent_by place (replicate n Request) ≡ Some (sents, new) →
    begun_by place (replicate n Request) ≡ Some begun → none_ends sents ≡ true →
    begun ++ left_of new ≡ left_of place
