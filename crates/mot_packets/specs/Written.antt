-- The bytes of a packet, and of all packets of a group.
use Rattle.std.specs.Prelude.{ℕ, ◌+◌, ◌-◌, ◌*◌, ◌/◌, ◌<◌, ◌≤◌, Bool, List, ◌∷◌, ◌++◌, length, map}
use Rattle.std.specs.Prelude.{replicate, ◌≡◌, Option, Some, None, ⊤}
use Rattle.std.specs.Int.{w16, to_be_bytes, from_bool}
use Rattle.mot_base.specs.Checksum.{crc_of}
use Rattle.mot_numbers.specs.PacketLength.{IsLength}
use Rattle.mot_packets.specs.Cut.{pieces_of}
use Rattle.mot_packets.specs.Packet.{PacketFields}

-- a packet that can be written: it has one of the four lengths, and its fields fit their widths
pub record IsPacket (p : PacketFields) : Type 0 where
  pub room : IsLength (p.room + 5)
  pub index : p.index < 4
  pub address : (0 < p.address) × (p.address < 1024)
  pub useful : length p.useful ≤ p.room

-- the header's first two bytes: length code, continuity index, first, last, address
abbrev pub header_word : ℕ → ℕ → Bool → Bool → ℕ → ℕ
header_word code index first last address =
    16384 * code + 4096 * index + 2048 * from_bool first + 1024 * from_bool last + address

-- the length code of a data field of so many bytes
abbrev pub code_of_room : ℕ → ℕ
code_of_room room = (room + 5) / 24 - 1

-- what the checksum word covers: the header, and the data field with its padding
abbrev pub covered_bytes : PacketFields → List ℕ
covered_bytes p =
    to_be_bytes w16 (header_word (code_of_room p.room) p.index p.first p.last p.address)
    ++ length p.useful ∷ (p.useful ++ replicate (p.room - length p.useful) 0)

-- the one list of bytes that reads as a packet
unfoldable pub bytes_of_packet : PacketFields → List ℕ
bytes_of_packet p = covered_bytes p ++ to_be_bytes w16 (crc_of (covered_bytes p))

-- the packets of a group, from the continuity index of its first on
abbrev pub packets_of_group : ℕ → ℕ → ℕ → List ℕ → List (List ℕ)
packets_of_group room address index group =
    map bytes_of_packet (pieces_of room address index group)

-- What an outlet is known to have taken.

-- what is known goes on by these
abbrev pub Grows : {A : Type 0} → Option (List A) → Option (List A) → List A → Type 0
Grows None new more = ⊤
Grows (Some known) None more = ⊥
Grows (Some known) (Some new) more = new ≡ known ++ more
