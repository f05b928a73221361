-- A packet, as a receiver reads it (EN 300 401, clause 5.3.2).
use Rattle.std.specs.Prelude.{ℕ, ◌+◌, ◌*◌, Bool, ◌&&◌, ◌==◌, nat_lt, nat_le, if◌then◌else◌, List}
use Rattle.std.specs.Prelude.{[], ◌∷◌, length, drop, take, Option, Some, None}
use Rattle.std.specs.List.{list_all}
use Rattle.mot_base.specs.Checksum.{without_crc, ends_in_crc}
use Rattle.mot_numbers.specs.Reading.{number_in, fields}

-- a packet: the length of its data field, its header, and the part of the data field in use
pub record PacketFields : Type 0 where
  pub room : ℕ
  pub address : ℕ
  pub index : ℕ
  pub first : Bool
  pub last : Bool
  pub useful : List ℕ

-- from the header: length code, continuity index, first, last, address, command flag, useful data
-- length
abbrev pub packet_with : List ℕ → List ℕ → Option PacketFields
packet_with bytes (code ∷ index ∷ first ∷ last ∷ address ∷ command ∷ useful ∷ []) =
    let field = drop 3 (without_crc bytes) in
    if length bytes == 24 * (code + 1) && nat_lt 0 address && command == 0
    && nat_le useful (length field) && list_all (λ b. b == 0) (drop useful field)
    && ends_in_crc bytes
    then Some (record {
      room = length field;
      address = address;
      index = index;
      first = first == 1;
      last = last == 1;
      useful = take useful field;
    })
    else None
packet_with bytes _ = None

-- the packet in these bytes; that the padding is 0 is our own profile
unfoldable pub read_packet : List ℕ → Option PacketFields
read_packet bytes =
    packet_with bytes (fields (2 ∷ 2 ∷ 1 ∷ 1 ∷ 10 ∷ 1 ∷ 7 ∷ []) (number_in (take 3 bytes)))
