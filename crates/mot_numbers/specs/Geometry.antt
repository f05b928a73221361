-- The ranges of a geometry.
use Rattle.std.specs.Prelude.{ℕ, ◌≡◌, ◌≤◌, ◌+◌, ◌*◌, ◌-◌}
use Rattle.mot_numbers.specs.PacketLength.{IsLength}
use Rattle.mot_numbers.specs.declared.geometry.Geometry.{Geometry}
use Rattle.mot_numbers.specs.declared.geometry.TheConstants.{MAX_OBJECTS, MAX_DATA_AREA}
use Rattle.mot_numbers.specs.declared.numbers.TheConstants.{MAX_ADDRESS, MIN_SEGMENT, MAX_SEGMENT}
use Rattle.std.specs.Prelude.{Bool, ◌&&◌, ◌||◌, ◌==◌, nat_le}

abbrev pub IsValid : Geometry → Type 0
IsValid g =
    (1 ≤ g.objects) × (g.objects ≤ MAX_OBJECTS) × (1 ≤ g.area) × (g.area ≤ MAX_DATA_AREA)
    × (MIN_SEGMENT ≤ g.segment) × (g.segment ≤ MAX_SEGMENT)
    × (1 ≤ g.address) × (g.address ≤ MAX_ADDRESS) × IsLength g.packet

-- a number from the one to the other
abbrev pub is_within : ℕ → ℕ → ℕ → Bool
is_within low high n = nat_le low n && nat_le n high

abbrev pub is_packet_length : ℕ → Bool
is_packet_length n = n == 24 || n == 48 || n == 72 || n == 96

-- the same as a test
abbrev pub is_valid : Geometry → Bool
is_valid g =
    is_within 1 MAX_OBJECTS g.objects && is_within 1 MAX_DATA_AREA g.area
    && is_within MIN_SEGMENT MAX_SEGMENT g.segment && is_within 1 MAX_ADDRESS g.address
    && is_packet_length g.packet

-- Where the parts of a disk lie (own format). A half has 2N + 4 slots of 256 bytes, or N + 2 of
-- 512.
abbrev pub half_size : Geometry → ℕ
half_size g = 512 * g.objects + 1024

-- 64 bytes come before the halves
abbrev pub half_start : Geometry → ℕ → ℕ
half_start g half = 64 + half * half_size g

-- the data area comes behind both halves
abbrev pub area_start : Geometry → ℕ
area_start g = half_start g 2

-- the bytes that a disk needs; a longer one is accepted, and the rest is not used
abbrev pub length_of : Geometry → ℕ
length_of g = area_start g + g.area

-- the data field of a packet of the geometry's length: all but three bytes of header and two of
-- checksum
abbrev pub packet_room : Geometry → ℕ
packet_room g = g.packet - 5

-- 16 objects, 65,536 bytes for bodies, segments of 1,024 bytes, address 1, packets of 96 bytes
abbrev pub IsDefault : Geometry → Type 0
IsDefault g =
    g ≡ record {
      objects = 16;
      segment = 1024;
      address = 1;
      packet = 96;
      area = 65536;
    }
