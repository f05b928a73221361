-- Laws of whole turns and of whole streams.
use Rattle.std.specs.Prelude.{◌≡◌, ◌⊎◌, ℕ, ◌+◌, ◌-◌, length, Bool, ◌≤◌, ◌<◌, List, [], ◌∷◌, ◌++◌}
use Rattle.std.specs.Prelude.{map, replicate, Option, Some, None, IfSome}
use Rattle.std.specs.Option.{option_map_or}
use Rattle.mot_groups.specs.Group.{Segment}
use Rattle.mot_numbers.specs.Reading.{read_each}
use Rattle.mot_numbers.specs.declared.numbers.TheConstants.{MAX_SEGMENT}
use Rattle.mot_packets.specs.Packet.{read_packet}
use Rattle.mot_packets.specs.Written.{bytes_of_packet}
use Rattle.mot_player.specs.Continuity.{IsContinuous}
use Rattle.mot_player.specs.Place.{Last, UnderWay, Place, Sent, Step, left_of, opened_place}
use Rattle.mot_player.specs.Place.{request, sent_by, Request}
use Rattle.mot_player.specs.PlayerView.{BodyPlan, PlayerView, TurnPlan, place_of}
use Rattle.mot_player.specs.Turn.{Turn, IsPlayable, segments_of_turn}

-- a request was answered by a packet, which ends the turn or not, and the player stands elsewhere
pub record IsStep (old : Place) (packet : List ℕ) (ends_turn : Bool) (new : Place) : Type 0 where
  pub sent : Sent
  pub asked : request old ≡ Some sent
  pub bytes : packet ≡ bytes_of_packet sent.packet
  pub reads : read_packet packet ≡ Some sent.packet
  pub ends : ends_turn ≡ sent.ends_turn
  pub place : new ≡ sent.place

-- a place from which every group can be sent: the kept indexes fit a group's header, and so does
-- each segment number
pub record IsPlace (place : Place) : Type 0 where
  pub room : 0 < place.room
  pub size : (0 < place.segment_size) × (place.segment_size ≤ MAX_SEGMENT)
  pub directory : IfSome place.last_directory (λ (last : Last). last.index < 16)
  pub body : IfSome place.last_body (λ (last : Last). last.index < 16)
  pub playable : IsPlayable place.turn place.segment_size
  pub under_way : IfSome place.under_way (λ (u : UnderWay). u.sent < length u.group)

-- no packet of the turn was sent yet: nothing waits, or the whole turn does
pub record IsAtTurnsBeginning (place : Place) : Type 0 where
  pub under_way : place.under_way ≡ None
  pub waiting : (place.waiting ≡ [])
      ⊎ (place.waiting ≡ segments_of_turn place.turn place.segment_size)

-- how many bytes of groups come until the end of the turn
abbrev pub group_bytes_of : List Segment → ℕ
group_bytes_of [] = 0
group_bytes_of (s ∷ segments) = length s.bytes + 11 + group_bytes_of segments

abbrev pub bytes_due : Place → ℕ
bytes_due place =
    option_map_or (λ (u : UnderWay). length u.group - u.sent) place.under_way 0
    + group_bytes_of (left_of place)

-- bodies of a turn's lengths, of zeros
abbrev pub blank_bodies : TurnPlan → List (List ℕ)
blank_bodies plan = map (λ (b : BodyPlan). replicate b.length 0) plan.bodies

-- the same from a standing: only the lengths of bodies count
abbrev pub bytes_left : PlayerView → ℕ
bytes_left standing = bytes_due (place_of standing (blank_bodies standing.turn))

-- the packets that were sent
abbrev pub AreSent : List Sent → List (List ℕ) → Type 0
AreSent sents packets = read_each read_packet packets ≡ Some (map (λ (s : Sent). s.packet) sents)

-- Whatever comes between the requests, the packets of an opened player, whether it follows or not,
-- have their continuity indexes.
abbrev pub StepsAreContinuous : Type 0
StepsAreContinuous =
    (address room size : ℕ) (turn : Turn) (follows : Option ℕ) (steps : List Step)
    (sents : List Sent) (new : Place) (packets : List (List ℕ)) → 0 < room →
    sent_by (record (opened_place address room size turn) { follows = follows }) steps
    ≡ Some (sents, new) →
    AreSent sents packets → IsContinuous packets

-- Further steps go on where the steps before left off.
abbrev pub StepsGoOn : Type 0
StepsGoOn =
    (steps more : List Step) (place mid new : Place) (sents others : List Sent) →
    sent_by place steps ≡ Some (sents, mid) → sent_by mid more ≡ Some (others, new) →
    sent_by place (steps ++ more) ≡ Some (sents ++ others, new)

-- What requests send.

-- the bytes of the packets that were sent
abbrev pub packets_sent : List Sent → List (List ℕ)
packets_sent sents = map (λ (s : Sent). bytes_of_packet s.packet) sents

-- so many requests sent these packets, each of which reads as what was sent
pub record HasSent (old : Place) (count : ℕ) (sents : List Sent) (new : Place) : Type 0 where
  pub steps : sent_by old (replicate count Request) ≡ Some (sents, new)
  pub read : AreSent sents (packets_sent sents)
