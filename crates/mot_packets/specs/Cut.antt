-- The packets that a group is cut into.
use Rattle.std.specs.Prelude.{ℕ, zero, suc, ◌+◌, ◌%◌, ◌==◌, nat_le, if◌then◌else◌, List, [], ◌∷◌}
use Rattle.std.specs.Prelude.{length, drop, take}
use Rattle.std.specs.Int.{div_ceil}
use Rattle.mot_numbers.specs.PacketLength.{shortest_room}
use Rattle.mot_packets.specs.Packet.{PacketFields}

-- The packet that carries a group's bytes from a place on, as many as fit: the group's last in the
-- shortest data field that holds the rest, each other in one of `room` bytes (own profile).
abbrev pub piece_at : ℕ → ℕ → ℕ → List ℕ → ℕ → PacketFields
piece_at room address index group at =
    let rest = drop at group in
    let is_last = nat_le (length rest) room in
    record {
      room = if is_last then shortest_room (length rest) else room;
      address = address;
      index = index;
      first = at == 0;
      last = is_last;
      useful = take room rest;
    }

-- n packets from a place on, each `room` bytes after the one before, with continuity indexes that
-- count modulo 4
abbrev pub pieces_from : ℕ → ℕ → ℕ → ℕ → List ℕ → ℕ → List PacketFields
pieces_from zero room address index group at = []
pieces_from (suc n) room address index group at =
    piece_at room address (index % 4) group at
    ∷ pieces_from n room address (index + 1) group (at + room)

-- the packets of a group, from the continuity index of its first on
abbrev pub pieces_of : ℕ → ℕ → ℕ → List ℕ → List PacketFields
pieces_of room address index group =
    pieces_from (div_ceil (length group) room) room address index group 0
