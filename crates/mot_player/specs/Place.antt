-- The order of sending (own rules): where a player stands, and what a request and a change of the
-- turn make of that.
use Rattle.std.specs.Prelude.{ℕ, ◌+◌, ◌-◌, ◌%◌, Bool, ◌&&◌, ◌==◌, not, if◌then◌else◌, nat_lt}
use Rattle.std.specs.Prelude.{List, [], ◌∷◌, ◌++◌, Option, Some, None, bytes_eq, drop, filter}
use Rattle.std.specs.Prelude.{flat_map, is_some, length, take, unwrap_or}
use Rattle.std.specs.Int.{div_ceil}
use Rattle.std.specs.List.{sum_by}
use Rattle.mot_groups.specs.Entity.{segments_of}
use Rattle.mot_groups.specs.Group.{Segment, GroupFields, segment_content, bytes_of_group}
use Rattle.mot_numbers.specs.Reading.{◌>>=◌, is_empty}
use Rattle.mot_packets.specs.Cut.{piece_at}
use Rattle.mot_packets.specs.Packet.{PacketFields}
use Rattle.mot_player.specs.Turn.{Turn, segments_of_turn}

-- a group's continuity index and content
pub record Last : Type 0 where
  pub index : ℕ
  pub content : List ℕ

-- a group of which some packets were sent and others were not: its bytes, and how many of them were
-- sent
pub record UnderWay : Type 0 where
  pub group : List ℕ
  pub sent : ℕ

-- Where a player stands: the group under way, the segments that wait behind it, the turn, the next
-- packet's continuity index, and of each type the group that was begun last. Of the bodies' segments
-- that wait, those that come early stand before the rest of the turn. Address, data length and
-- segment size never change.
pub record Place : Type 0 where
  pub address : ℕ
  pub room : ℕ
  pub segment_size : ℕ
  pub under_way : Option UnderWay
  pub waiting : List Segment
  -- how many of the bodies' segments that wait come early
  pub early : ℕ
  -- Whether a changed turn is followed, or begins anew; and if it is, how many of the bodies that
  -- came and are not begun come early at most.
  pub follows : Option ℕ
  pub turn : Turn
  pub index : ℕ
  pub last_directory : Option Last
  pub last_body : Option Last

-- nothing waits, and nothing was begun
abbrev pub opened_place : ℕ → ℕ → ℕ → Turn → Place
opened_place address room size turn = record {
  address = address;
  room = room;
  segment_size = size;
  under_way = None;
  waiting = [];
  early = 0;
  follows = None;
  turn = turn;
  index = 0;
  last_directory = None;
  last_body = None;
}

-- a group's index: 0 for the first of its type, the last one's where the content is the same, else
-- one more modulo 16
abbrev pub next_index : Option Last → List ℕ → ℕ
next_index None content = 0
next_index (Some last) content =
    if bytes_eq last.content content then last.index else (last.index + 1) % 16

-- the group of a segment, which gets its index when it is begun
abbrev pub group_for : Place → Segment → GroupFields
group_for place s = record {
  index = next_index (if s.kind == 6 then place.last_directory else place.last_body)
      (segment_content s);
  segment = s;
}

-- the place with a group begun, and these segments waiting behind it
abbrev pub with_begun : Place → GroupFields → List Segment → Place
with_begun place group others =
    let last = Some (record { index = group.index; content = segment_content group.segment }) in
    record place {
      waiting = others;
      early = if group.segment.kind == 6 then place.early else place.early - 1;
      last_directory = if group.segment.kind == 6 then last else place.last_directory;
      last_body = if group.segment.kind == 6 then place.last_body else last;
    }

-- what a request sends, whether it ends the turn, and where the player stands then
pub record Sent : Type 0 where
  pub packet : PacketFields
  pub ends_turn : Bool
  pub place : Place

-- The next packet of a group, of which so many bytes were sent. With its last packet the group
-- goes; the turn ends where nothing waits then.
abbrev pub packet_sent : Place → List ℕ → ℕ → Sent
packet_sent place group sent =
    let packet = piece_at place.room place.address place.index group sent in
    record {
      packet = packet;
      ends_turn = packet.last && is_empty place.waiting;
      place = record place {
        under_way = if packet.last then None
            else Some (record { group = group; sent = sent + place.room });
        index = (place.index + 1) % 4;
      };
    }

-- the first packet of the group of the first of the segments
abbrev pub first_sent : Place → List Segment → Option Sent
first_sent place [] = None
first_sent place (s ∷ others) =
    let group = group_for place s in
    Some (packet_sent (with_begun place group others) (bytes_of_group group) 0)

-- the segments to send: where none wait, those of the turn
abbrev pub to_send : Place → List Segment
to_send place =
    if is_empty place.waiting then segments_of_turn place.turn place.segment_size
    else place.waiting

abbrev pub next_sent : Place → Option UnderWay → Option Sent
next_sent place None = first_sent place (to_send place)
next_sent place (Some u) = Some (packet_sent place u.group u.sent)

-- a request of a packet; nothing only for a turn of no segments
unfoldable pub request : Place → Option Sent
request place = next_sent place place.under_way

-- a new turn: the group under way stays, the others go, and the new turn follows
unfoldable pub change_turn : Turn → Place → Place
change_turn turn place =
    record place { turn = turn; waiting = segments_of_turn turn place.segment_size; early = 0 }

-- the directory of a turn, whole
abbrev pub directory_segments : Turn → ℕ → List Segment
directory_segments turn size = segments_of 6 turn.tid size turn.directory

-- how many packets the groups of segments take: a group has 11 bytes more than its segment
abbrev pub packets_of_segments : ℕ → List Segment → ℕ
packets_of_segments room segments =
    sum_by (λ (s : Segment). div_ceil (length s.bytes + 11) room) segments

-- how many packets the directory takes
abbrev pub directory_packets : Place → ℕ
directory_packets place =
    packets_of_segments place.room (directory_segments place.turn place.segment_size)

-- of segments, those of bodies
abbrev pub of_bodies : List Segment → List Segment
of_bodies segments = filter (λ (s : Segment). s.kind == 4) segments

-- The segments that are left of the turn behind the group under way. Where none is under way and
-- none wait, those of the turn that begins.
abbrev pub left_with : Place → Option UnderWay → List Segment
left_with place None = to_send place
left_with place (Some u) = place.waiting

abbrev pub left_of : Place → List Segment
left_of place = left_with place place.under_way

-- The whole directory comes behind the group under way, and then the bodies that wait go on. Where
-- nothing waits the directory comes next anyhow, and nothing changes.
unfoldable pub hear_directory : Place → Place
hear_directory place = record place {
  waiting =
      if is_empty place.waiting then []
      else directory_segments place.turn place.segment_size ++ of_bodies place.waiting;
}

-- What changed of a turn's bodies: nothing, a body was put behind the others, one came in the place
-- of another, or one is gone. A body that came is told with its id and bytes, one that went by its
-- id.
pub data Change : Type 0 where
  Same : Change
  Put : ℕ × List ℕ → Change
  Replaced : ℕ → ℕ × List ℕ → Change
  Withdrawn : ℕ → Change

-- by the first place where the ids of old and new bodies differ
abbrev pub change_between : List (ℕ × List ℕ) → List (ℕ × List ℕ) → Change
change_between [] [] = Same
change_between [] (new ∷ news) = Put new
change_between (old ∷ olds) [] = Withdrawn old.0
change_between (old ∷ olds) (new ∷ news) =
    if old.0 == new.0 then change_between olds news
    else if length olds == length news then Replaced old.0 new else Withdrawn old.0

-- the segments of the body that came
abbrev pub fresh_segments : ℕ → Change → List Segment
fresh_segments size (Put new) = segments_of 4 new.0 size new.1
fresh_segments size (Replaced old new) = segments_of 4 new.0 size new.1
fresh_segments size change = []

-- of segments of bodies, all but those of this id
abbrev pub without : ℕ → List Segment → List Segment
without id segments = filter (λ (s : Segment). not (s.tid == id)) segments

-- of segments of bodies, all but those of the body that went
abbrev pub that_stay : Change → List Segment → List Segment
that_stay (Replaced old new) segments = without old segments
that_stay (Withdrawn old) segments = without old segments
that_stay change segments = segments

-- the body that came in the place of the first segment of the one that went
abbrev pub in_its_place : ℕ → List Segment → Segment → List Segment
in_its_place old fresh s =
    if s.tid == old then if s.number == 0 then fresh else [] else s ∷ []

-- The rest of a turn after a change, with which the body that came goes early or does not. What
-- neither came nor went goes on in its order. A body that was put comes at its end too, if any of
-- the rest is left or it does not go early. One that was replaced comes where the old one's
-- segments stood; where that was begun, what was left of it goes.
abbrev pub rest_after : Change → Bool → List Segment → List Segment → List Segment
rest_after Same early fresh rest = rest
rest_after (Put new) early fresh rest = if is_empty rest && early then [] else rest ++ fresh
rest_after (Replaced old new) early fresh rest = flat_map (in_its_place old fresh) rest
rest_after (Withdrawn old) early fresh rest = without old rest

-- the bodies' segments that come early, and the rest of the turn
abbrev pub early_of : Place → List Segment
early_of place = take place.early (of_bodies (left_of place))

abbrev pub rest_of : Place → List Segment
rest_of place = drop place.early (of_bodies (left_of place))

-- of segments of bodies, how many are first ones: the bodies that are not begun
abbrev pub bodies_not_begun : List Segment → ℕ
bodies_not_begun segments = length (filter (λ (s : Segment). s.number == 0) segments)

-- how many bodies that are not begun come early at most; none where no change is followed
abbrev pub most_early : Place → ℕ
most_early place = unwrap_or place.follows 0

-- Whether the body that came goes early: of those that do so and stay, fewer are not begun.
abbrev pub goes_early : Change → Place → Bool
goes_early change place =
    nat_lt (bodies_not_begun (that_stay change (early_of place))) (most_early place)

-- What comes early after a change: what did so before it and stays, and then the body that came, if
-- it goes early.
abbrev pub early_after : Change → Place → List Segment
early_after change place =
    that_stay change (early_of place)
    ++ (if goes_early change place then fresh_segments place.segment_size change else [])

abbrev pub followed_by : Change → Turn → Place → Place
followed_by change turn place = record place {
  turn = turn;
  waiting = directory_segments turn place.segment_size ++ early_after change place
      ++ rest_after change (goes_early change place) (fresh_segments place.segment_size change)
      (rest_of place);
  early = length (early_after change place);
}

-- A changed turn is followed: behind the group under way come its directory, then the changed
-- bodies that go early, and then the rest of the turn goes on.
unfoldable pub follow : Turn → Place → Place
follow turn place = followed_by (change_between place.turn.bodies turn.bodies) turn place

-- from now on changed turns are followed, with at most so many bodies early that are not begun
unfoldable pub following : ℕ → Place → Place
following most place = record place { follows = Some most }

-- what a changed turn makes of a place
unfoldable pub changed : Turn → Place → Place
changed turn place = if is_some place.follows then follow turn place else change_turn turn place

-- what happens to a player
pub data Step : Type 0 where
  Request : Step
  NewTurn : Turn → Step
  Directory : Step
  Follow : Turn → Step

-- what the requests among steps send, and where the player stands then
unfoldable pub sent_by : Place → List Step → Option (List Sent × Place)
sent_by place [] = Some ([], place)
sent_by place (Request ∷ steps) = do
  sent ← request place
  others ← sent_by sent.place steps
  Some (sent ∷ others.0, others.1)
sent_by place (NewTurn turn ∷ steps) = sent_by (change_turn turn place) steps
sent_by place (Directory ∷ steps) = sent_by (hear_directory place) steps
sent_by place (Follow turn ∷ steps) = sent_by (follow turn place) steps
