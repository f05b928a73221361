-- The lengths of packets (EN 300 401, clause 5.3.2), and the kinds of data groups.
use Rattle.std.specs.Prelude.{ℕ, ◌≡◌, ◌⊎◌, nat_le, if◌then◌else◌}
use Rattle.mot_numbers.specs.declared.packet_length.PacketLength.{PacketLength}
use Rattle.mot_numbers.specs.declared.packet_length.PacketLength.TheVariants.{P24, P48, P72, P96}
use Rattle.mot_numbers.specs.declared.group_kind.GroupKind.{GroupKind}
use Rattle.mot_numbers.specs.declared.group_kind.GroupKind.TheVariants.{Body, Directory}

-- header, data field and checksum
abbrev pub bytes_of : PacketLength → ℕ
bytes_of P24 = 24
bytes_of P48 = 48
bytes_of P72 = 72
bytes_of P96 = 96

-- the data field: all but the header's three bytes and the checksum's two
abbrev pub room_of : PacketLength → ℕ
room_of P24 = 19
room_of P48 = 43
room_of P72 = 67
room_of P96 = 91

-- the two bits that name the length in the header
abbrev pub code_of : PacketLength → ℕ
code_of P24 = 0
code_of P48 = 1
code_of P72 = 2
code_of P96 = 3

-- some packet has so many bytes
abbrev pub IsLength : ℕ → Type 0
IsLength n = (n ≡ 24) ⊎ (n ≡ 48) ⊎ (n ≡ 72) ⊎ (n ≡ 96)

-- the least of the four data lengths that holds n bytes
abbrev pub shortest_room : ℕ → ℕ
shortest_room n =
    if nat_le n 19 then 19
    else (if nat_le n 43 then 43 else (if nat_le n 67 then 67 else 91))

-- The data group types (EN 300 401, clause 5.3.3; EN 301 234).

abbrev pub kind_number : GroupKind → ℕ
kind_number Body = 4
kind_number Directory = 6
