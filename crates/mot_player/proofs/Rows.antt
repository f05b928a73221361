-- Worked turns, computed: the packets that are sent, their headers, and what they read as.
use Rattle.std.proofs.Common.{◌≡◌, ℕ, List, [], ◌∷◌, ◌++◌, Bool, true, false, refl, map, length}
use Rattle.std.proofs.Common.{take, replicate}
use Rattle.std.specs.Prelude.{Option, Some, None, if◌then◌else◌}
use Rattle.mot_base.specs.Checksum.{crc_of, bits_of, bits_of_bytes, number_of_bits, added_to_front}
use Rattle.mot_base.specs.Checksum.{remainder}
use Rattle.mot_directory.specs.Directory.{read_directory}
use Rattle.mot_directory.specs.Header.{read_header}
use Rattle.mot_directory.specs.Parameter.{read_parameters}
use Rattle.mot_groups.specs.Entity.{entity_of}
use Rattle.mot_groups.specs.Group.{Segment, bytes_of_group, read_group}
use Rattle.mot_numbers.specs.Reading.{read_each}
use Rattle.mot_objects.specs.Carousel.{Carousel, new_carousel}
use Rattle.mot_packets.specs.Gather.{gather, groups_after, gather_front}
use Rattle.mot_packets.specs.Packet.{PacketFields, read_packet}
use Rattle.mot_player.specs.Continuity.{IsContinuous, group_index, indexes_after}
use Rattle.mot_player.specs.Place.{Place, Sent, Step, Request, NewTurn, opened_place, request}
use Rattle.mot_player.specs.Place.{change_turn, sent_by}
use Rattle.mot_player.specs.Reading.{ReadsAs, read_segments, read_turn}
use Rattle.mot_player.specs.Repeats.{ReadsOnceAs, read_turn_once, received}
use Rattle.mot_player.specs.Turn.{Turn, IsTurnOf, segments_of_turn}

abbrev pub Played : Type 0
Played = Option (List Sent × Place)

abbrev packets_in : Played → Option (List PacketFields)
packets_in None = None
packets_in (Some played) = Some (map (λ (s : Sent). s.packet) played.0)

abbrev pub ends_in : Played → List Bool
ends_in None = []
ends_in (Some played) = map (λ (s : Sent). s.ends_turn) played.0

abbrev pub requests : ℕ → List Step
requests n = replicate n Request

-- of a packet: data length, index, first, last, useful length, whether the turn ends, and where a
-- group begins its first two bytes
abbrev Seen : Type 0
Seen = ℕ × ℕ × Bool × Bool × ℕ × Bool × List ℕ

abbrev seen_of : Sent → Seen
seen_of s = (
  s.packet.room,
  s.packet.index,
  s.packet.first,
  s.packet.last,
  length s.packet.useful,
  s.ends_turn,
  if s.packet.first then take 2 s.packet.useful else [],
)

abbrev seen : Played → List Seen
seen None = []
seen (Some played) = map seen_of played.0

-- a new carousel, and then one object
abbrev empty_turn : Turn
empty_turn = record {
  tid = 1;
  directory = 0x00 ∷ 0x00 ∷ 0x00 ∷ 0x0d ∷ 0x00 ∷ 0x00 ∷ 0x00 ∷ 0x00 ∷ 0x00 ∷ 0x04 ∷ 0x00 ∷ 0x00
      ∷ 0x00 ∷ [];
  bodies = [];
}

abbrev one_turn : Turn
one_turn = record {
  tid = 3;
  directory = 0x00 ∷ 0x00 ∷ 0x00 ∷ 0x27 ∷ 0x00 ∷ 0x01 ∷ 0x00 ∷ 0x00 ∷ 0x00 ∷ 0x04 ∷ 0x00 ∷ 0x00
      ∷ 0x00 ∷ 0x00 ∷ 0x02 ∷ 0x00 ∷ 0x00 ∷ 0x00 ∷ 0x50 ∷ 0x0c ∷ 0x04 ∷ 0x03 ∷ 0xcc ∷ 0x02 ∷ 0xf0
      ∷ 0x61 ∷ 0xd0 ∷ 0x09 ∷ 0x69 ∷ 0x6d ∷ 0x61 ∷ 0x67 ∷ 0x65 ∷ 0x2f ∷ 0x70 ∷ 0x6e ∷ 0x67 ∷ 0x46
      ∷ 0x00 ∷ [];
  bodies = (2, 0x01 ∷ 0x02 ∷ 0x03 ∷ 0x04 ∷ 0x05 ∷ []) ∷ [];
}

abbrev one_carousel : Carousel
one_carousel = record {
  period = 0;
  directory = 3;
  cursor = 3;
  objects =
      record {
        name = 0x61 ∷ [];
        content = record { content_type = 2; subtype = 3 };
        mime =
            Some (0x69 ∷ 0x6d ∷ 0x61 ∷ 0x67 ∷ 0x65 ∷ 0x2f ∷ 0x70 ∷ 0x6e ∷ 0x67 ∷ []);
        version = 0;
        tid = 2;
        body = 0x01 ∷ 0x02 ∷ 0x03 ∷ 0x04 ∷ 0x05 ∷ [];
      } ∷ [];
}

abbrev empty_packets : List (List ℕ)
empty_packets = (0x08 ∷ 0x01 ∷ 0x13 ∷ 0x76 ∷ 0x00 ∷ 0x80 ∷ 0x00 ∷ 0x12 ∷ 0x00 ∷ 0x01 ∷ 0x00 ∷ 0x0d
    ∷ 0x00 ∷ 0x00 ∷ 0x00 ∷ 0x0d ∷ 0x00 ∷ 0x00 ∷ 0x00 ∷ 0x00 ∷ 0x00 ∷ 0x04 ∷ 0x9c ∷ 0x3d ∷ [])
    ∷ (0x14 ∷ 0x01 ∷ 0x05 ∷ 0x00 ∷ 0x00 ∷ 0x00 ∷ 0xf1 ∷ 0x0d ∷ 0x00 ∷ 0x00 ∷ 0x00 ∷ 0x00 ∷ 0x00
    ∷ 0x00 ∷ 0x00 ∷ 0x00 ∷ 0x00 ∷ 0x00 ∷ 0x00 ∷ 0x00 ∷ 0x00 ∷ 0x00 ∷ 0x17 ∷ 0xad ∷ []) ∷ []

abbrev one_packets : List (List ℕ)
one_packets = (0x28 ∷ 0x01 ∷ 0x13 ∷ 0x76 ∷ 0x10 ∷ 0x80 ∷ 0x00 ∷ 0x12 ∷ 0x00 ∷ 0x03 ∷ 0x00 ∷ 0x27
    ∷ 0x00 ∷ 0x00 ∷ 0x00 ∷ 0x27 ∷ 0x00 ∷ 0x01 ∷ 0x00 ∷ 0x00 ∷ 0x00 ∷ 0x04 ∷ 0x11 ∷ 0x07 ∷ [])
    ∷ (0x30 ∷ 0x01 ∷ 0x13 ∷ 0x00 ∷ 0x00 ∷ 0x00 ∷ 0x00 ∷ 0x02 ∷ 0x00 ∷ 0x00 ∷ 0x00 ∷ 0x50 ∷ 0x0c
    ∷ 0x04 ∷ 0x03 ∷ 0xcc ∷ 0x02 ∷ 0xf0 ∷ 0x61 ∷ 0xd0 ∷ 0x09 ∷ 0x69 ∷ 0x25 ∷ 0x88 ∷ [])
    ∷ (0x04 ∷ 0x01 ∷ 0x0c ∷ 0x6d ∷ 0x61 ∷ 0x67 ∷ 0x65 ∷ 0x2f ∷ 0x70 ∷ 0x6e ∷ 0x67 ∷ 0x46 ∷ 0x00
    ∷ 0x69 ∷ 0x81 ∷ 0x00 ∷ 0x00 ∷ 0x00 ∷ 0x00 ∷ 0x00 ∷ 0x00 ∷ 0x00 ∷ 0x3b ∷ 0x83 ∷ [])
    ∷ (0x1c ∷ 0x01 ∷ 0x10 ∷ 0x74 ∷ 0x00 ∷ 0x80 ∷ 0x00 ∷ 0x12 ∷ 0x00 ∷ 0x02 ∷ 0x00 ∷ 0x05 ∷ 0x01
    ∷ 0x02 ∷ 0x03 ∷ 0x04 ∷ 0x05 ∷ 0x75 ∷ 0xa5 ∷ 0x00 ∷ 0x00 ∷ 0x00 ∷ 0x38 ∷ 0x27 ∷ []) ∷ []

are-turns : IsTurnOf empty_turn new_carousel 1024 × IsTurnOf one_turn one_carousel 1024
unfolding read_directory read_header read_parameters
are-turns = (
  record { tid = refl; directory = refl; bodies = refl },
  record { tid = refl; directory = refl; bodies = refl },
)

abbrev changed : Played
changed = sent_by (opened_place 1 19 1024 empty_turn) (requests 2 ++ NewTurn one_turn ∷ requests 4)

changed-row : (packets_in changed ≡ read_each read_packet (empty_packets ++ one_packets))
    × (ends_in changed ≡ false ∷ true ∷ false ∷ false ∷ false ∷ true ∷ [])
unfolding sent_by request change_turn bytes_of_group read_packet crc_of bits_of bits_of_bytes
    number_of_bits added_to_front remainder
changed-row = (refl, refl)

turns-read : ReadsAs empty_packets new_carousel 1024 × ReadsAs one_packets one_carousel 1024
unfolding read_turn read_segments gather groups_after gather_front read_packet read_group entity_of
    read_directory read_header read_parameters crc_of bits_of bits_of_bytes number_of_bits
    added_to_front remainder
turns-read = (refl, refl)

-- a turn of one body: its transport id, the body's id and version, of its directory the two bytes of
-- the segment size, and two of the body's length
abbrev small_turn : (tid id version : ℕ) → ℕ × ℕ → ℕ × ℕ → List ℕ → Turn
small_turn tid id version size length body = record {
  tid = tid;
  directory = 0x00 ∷ 0x00 ∷ 0x00 ∷ 0x1c ∷ 0x00 ∷ 0x01 ∷ 0x00 ∷ 0x00 ∷ 0x00 ∷ size.0 ∷ size.1 ∷ 0x00
      ∷ 0x00 ∷ 0x00 ∷ id ∷ 0x00 ∷ 0x00 ∷ length.0 ∷ length.1 ∷ 0x06 ∷ 0x84 ∷ 0x03 ∷ 0xcc ∷ 0x02
      ∷ 0xf0 ∷ 0x61 ∷ 0x46 ∷ version ∷ [];
  bodies = (id, body) ∷ [];
}

-- two segments of a body, in two turns
abbrev segmented_turn : Turn
segmented_turn = small_turn 3 2 0 (0x00, 0x40) (0x04, 0x10) (replicate 65 0x09)

segmented-segments : map {B = ℕ × ℕ × Bool × ℕ}
    (λ (s : Segment). (s.kind, s.number, s.last, length s.bytes))
    (segments_of_turn segmented_turn 64)
    ≡ (6, 0, true, 28) ∷ (4, 0, false, 64) ∷ (4, 1, true, 1) ∷ []
segmented-segments = refl

segmented-seen : seen (sent_by (opened_place 1 91 64 segmented_turn) (requests 8)) ≡
    (43, 0, true, true, 39, false, 118 ∷ 0 ∷ []) ∷
    (91, 1, true, true, 75, false, 116 ∷ 0 ∷ []) ∷
    (19, 2, true, true, 12, true, 116 ∷ 16 ∷ []) ∷
    (43, 3, true, true, 39, false, 118 ∷ 0 ∷ []) ∷
    (91, 0, true, true, 75, false, 116 ∷ 32 ∷ []) ∷
    (19, 1, true, true, 12, true, 116 ∷ 48 ∷ []) ∷
    (43, 2, true, true, 39, false, 118 ∷ 0 ∷ []) ∷
    (91, 3, true, true, 75, false, 116 ∷ 64 ∷ []) ∷ []
unfolding sent_by request change_turn bytes_of_group crc_of bits_of bits_of_bytes number_of_bits
    added_to_front remainder
segmented-seen = refl

-- a change inside a group: the group is finished, and then the new turn begins
abbrev before_turn : Turn
before_turn = small_turn 3 2 0 (0x04, 0x00) (0x04, 0x60) (replicate 70 0x07)

abbrev after_turn : Turn
after_turn = small_turn 5 4 1 (0x04, 0x00) (0x04, 0x60) (replicate 70 0x07)

change-seen : seen (sent_by (opened_place 1 19 1024 before_turn)
    (requests 5 ++ NewTurn after_turn ∷ requests 12)) ≡
    (19, 0, true, false, 19, false, 118 ∷ 0 ∷ []) ∷
    (19, 1, false, false, 19, false, []) ∷
    (19, 2, false, true, 1, false, []) ∷
    (19, 3, true, false, 19, false, 116 ∷ 0 ∷ []) ∷
    (19, 0, false, false, 19, false, []) ∷
    (19, 1, false, false, 19, false, []) ∷
    (19, 2, false, false, 19, false, []) ∷
    (19, 3, false, true, 5, false, []) ∷
    (19, 0, true, false, 19, false, 118 ∷ 16 ∷ []) ∷
    (19, 1, false, false, 19, false, []) ∷
    (19, 2, false, true, 1, false, []) ∷
    (19, 3, true, false, 19, false, 116 ∷ 16 ∷ []) ∷
    (19, 0, false, false, 19, false, []) ∷
    (19, 1, false, false, 19, false, []) ∷
    (19, 2, false, false, 19, false, []) ∷
    (19, 3, false, true, 5, true, []) ∷
    (19, 0, true, false, 19, false, 118 ∷ 16 ∷ []) ∷ []
unfolding sent_by request change_turn bytes_of_group crc_of bits_of bits_of_bytes number_of_bits
    added_to_front remainder
change-seen = refl

-- two turns of long packets, with short last ones: the groups' contents stay, and so do their
-- indexes
abbrev short_turn : Turn
short_turn = small_turn 3 2 0 (0x04, 0x00) (0x00, 0x50) (0x01 ∷ 0x02 ∷ 0x03 ∷ 0x04 ∷ 0x05 ∷ [])

-- the groups of its directory and of its body, with the byte of the index and the checksum
abbrev directory_group : ℕ → ℕ × ℕ → List ℕ
directory_group index check = 0x76 ∷ index ∷ 0x80 ∷ 0x00 ∷ 0x12 ∷ 0x00 ∷ 0x03 ∷ 0x00 ∷ 0x1c
    ∷ short_turn.directory ++ check.0 ∷ check.1 ∷ []

abbrev body_group : ℕ → ℕ × ℕ → List ℕ
body_group index check = 0x74 ∷ index ∷ 0x80 ∷ 0x00 ∷ 0x12 ∷ 0x00 ∷ 0x02 ∷ 0x00 ∷ 0x05
    ∷ 0x01 ∷ 0x02 ∷ 0x03 ∷ 0x04 ∷ 0x05 ∷ check.0 ∷ check.1 ∷ []

abbrev short_groups : List (List ℕ)
short_groups = directory_group 0x00 (0xe2, 0x0f) ∷ body_group 0x00 (0x75, 0xa5) ∷ []

-- the packets of both, with the byte of the packet's index and the checksum
abbrev packet_pair : ℕ → ℕ × ℕ → ℕ → ℕ × ℕ → List (List ℕ)
packet_pair first first_check second second_check =
    (first ∷ 0x01 ∷ 0x27 ∷ directory_group 0x00 (0xe2, 0x0f)
    ++ 0x00 ∷ 0x00 ∷ 0x00 ∷ 0x00 ∷ first_check.0 ∷ first_check.1 ∷ [])
    ∷ (second ∷ 0x01 ∷ 0x10 ∷ body_group 0x00 (0x75, 0xa5)
    ++ 0x00 ∷ 0x00 ∷ 0x00 ∷ second_check.0 ∷ second_check.1 ∷ []) ∷ []

abbrev short_packets : List (List ℕ)
short_packets = packet_pair 0x4c (0xc6, 0xe8) 0x1c (0x38, 0x27)
    ++ packet_pair 0x6c (0x9b, 0x5c) 0x3c (0x52, 0x8a)

abbrev short : Played
short = sent_by (opened_place 1 91 1024 short_turn) (requests 4)

short-row : (packets_in short ≡ read_each read_packet short_packets) × (seen short ≡
    (43, 0, true, true, 39, false, 118 ∷ 0 ∷ []) ∷
    (19, 1, true, true, 16, true, 116 ∷ 0 ∷ []) ∷
    (43, 2, true, true, 39, false, 118 ∷ 0 ∷ []) ∷
    (19, 3, true, true, 16, true, 116 ∷ 0 ∷ []) ∷ [])
unfolding sent_by request change_turn bytes_of_group read_packet crc_of bits_of bits_of_bytes
    number_of_bits added_to_front remainder
short-row = (refl, refl)

short-continuous : IsContinuous short_packets
unfolding gather groups_after gather_front read_packet crc_of bits_of bits_of_bytes number_of_bits
    added_to_front remainder
short-continuous = record {
  groups = short_groups ++ short_groups;
  begun = [];
  gathered = refl;
  packet_indexes = refl;
  group_indexes = refl;
}

-- where each group's index is raised, the indexes are not those due
abbrev raised_groups : List (List ℕ)
raised_groups = short_groups
    ++ directory_group 0x10 (0x56, 0x5d) ∷ body_group 0x10 (0x63, 0x11) ∷ []

raised : (map group_index raised_groups ≡ 0 ∷ 0 ∷ 1 ∷ 1 ∷ [])
    × (indexes_after [] raised_groups ≡ 0 ∷ 0 ∷ 0 ∷ 0 ∷ [])
raised = (refl, refl)

-- the directory sent twice: of each segment that comes again the first counts, and read as they are
-- the packets are no turn
abbrev twice_packets : List (List ℕ)
twice_packets = take 3 one_packets ++ one_packets

twice-reads : ReadsOnceAs twice_packets one_carousel 1024 × (read_turn twice_packets ≡ None)
unfolding read_turn read_turn_once read_segments gather groups_after gather_front read_packet
    read_group entity_of read_directory read_header read_parameters crc_of bits_of bits_of_bytes
    number_of_bits added_to_front remainder
twice-reads = (refl, refl)

-- segments of one number: a byte that differs, or the mark of the last, makes another segment
abbrev seg : ℕ → Bool → List ℕ → Segment
seg number last bytes =
    record { kind = 6; tid = 9; number = number; last = last; bytes = bytes }

received-row : received []
    (seg 0 false (1 ∷ 2 ∷ []) ∷ seg 0 false (1 ∷ 2 ∷ []) ∷ seg 0 false (1 ∷ 3 ∷ [])
    ∷ seg 1 true (1 ∷ 2 ∷ []) ∷ seg 0 true (1 ∷ 2 ∷ []) ∷ seg 0 false (1 ∷ 2 ∷ []) ∷ [])
    ≡ seg 0 false (1 ∷ 2 ∷ []) ∷ seg 0 false (1 ∷ 3 ∷ []) ∷ seg 1 true (1 ∷ 2 ∷ [])
    ∷ seg 0 true (1 ∷ 2 ∷ []) ∷ []
received-row = refl
