-- The lengths of the packets of a turn.
use Rattle.std.specs.Prelude.{ℕ, ◌+◌, ◌*◌, ◌/◌, List, length, map, flat_map, max, replicate}
use Rattle.mot_groups.specs.Group.{Segment}
use Rattle.mot_packets.specs.Cut.{pieces_of}
use Rattle.mot_packets.specs.Packet.{PacketFields}
use Rattle.mot_player.specs.Turn.{Turn, segments_of_turn}
use Rattle.std.specs.List.{sum}
use Rattle.mot_base.specs.Checksum.{crc_of}
use Rattle.mot_listening.specs.declared.turn.TurnSize.{TurnSize}

-- the bytes of a logical frame of 24 ms, at so many kbit/s
abbrev pub frame_size : ℕ → ℕ
frame_size rate = 3 * rate

-- how many packets of this length it holds, and one at least
abbrev pub frame_packets : (rate length : ℕ) → ℕ
frame_packets rate length = max 1 (frame_size rate / length)

-- the lengths of the packets that a group of so many bytes is cut into: each has 5 bytes more than
-- its data field
abbrev pub lengths_of_group : (room : ℕ) → ℕ → List ℕ
lengths_of_group room n =
    map (λ (p : PacketFields). p.room + 5) (pieces_of room 0 0 (replicate n 0))

-- those of the groups of segments: each has 11 bytes more than its segment
abbrev pub lengths_of_segments : (room : ℕ) → List Segment → List ℕ
lengths_of_segments room segments =
    flat_map (λ (s : Segment). lengths_of_group room (length s.bytes + 11)) segments

-- those of a turn
abbrev pub lengths_of_turn : (room size : ℕ) → Turn → List ℕ
lengths_of_turn room size turn = lengths_of_segments room (segments_of_turn turn size)

-- How many packets a turn has, and how many bytes these; and the checksum of its directory.

-- of packets of these lengths
abbrev pub size_of : (checksum : ℕ) → List ℕ → TurnSize
size_of checksum lengths =
    record { packets = length lengths; bytes = sum lengths; checksum = checksum }

-- of the packets of a turn; the checksum is that of the bytes of its directory
abbrev pub size_of_turn : (room segment : ℕ) → Turn → TurnSize
size_of_turn room segment turn = size_of (crc_of turn.directory) (lengths_of_turn room segment turn)
