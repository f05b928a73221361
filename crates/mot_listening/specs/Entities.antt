-- The lengths of packets, by those of directory and bodies alone.
use Rattle.std.specs.Prelude.{ℕ, zero, suc, ◌+◌, ◌-◌, min, nat_le, if◌then◌else◌, List, [], ◌∷◌}
use Rattle.std.specs.Prelude.{◌++◌, flat_map}
use Rattle.std.specs.Int.{div_ceil}
use Rattle.mot_numbers.specs.PacketLength.{shortest_room}

-- the packet of what is left of a group
abbrev pub packet_length : (room rest : ℕ) → ℕ
packet_length room rest = (if nat_le rest room then shortest_room rest else room) + 5

-- n packets of what is left of a group
abbrev pub packet_lengths : ℕ → (room rest : ℕ) → List ℕ
packet_lengths zero room rest = []
packet_lengths (suc n) room rest = packet_length room rest ∷ packet_lengths n room (rest - room)

-- the packets of a group
abbrev pub group_lengths : (room group : ℕ) → List ℕ
group_lengths room group = packet_lengths (div_ceil group room) room group

-- the packets of n segments of what is left of an entity
abbrev pub segment_lengths : ℕ → (room size rest : ℕ) → List ℕ
segment_lengths zero room size rest = []
segment_lengths (suc n) room size rest =
    group_lengths room (min size rest + 11) ++ segment_lengths n room size (rest - size)

-- the packets of an entity
abbrev pub entity_lengths : (room size entity : ℕ) → List ℕ
entity_lengths room size entity = segment_lengths (div_ceil entity size) room size entity

-- the packets of entities
abbrev pub turn_lengths : (room size : ℕ) → List ℕ → List ℕ
turn_lengths room size entities = flat_map (entity_lengths room size) entities
