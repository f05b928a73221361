-- The numbers of the command line, and the geometry that they make.
use Rattle.std.specs.Prelude.{ℕ, ◌≡◌, ◌==◌, nat_le, if◌then◌else◌, List, Option, Some, None, codes}
use Rattle.std.specs.Prelude.{unwrap_or}
use Rattle.clap.specs.Words.{Row, first_of}
use Rattle.mot_numbers.specs.Reading.{◌>>=◌}
use Rattle.mot_numbers.specs.declared.geometry.Geometry.{Geometry}
use Rattle.mot_objects.specs.Ids.{id_after}
use Rattle.mot_cli.specs.Given.{IsGiven}
use Rattle.mot_cli.specs.declared.options.Options.{Options}

-- these are the numbers that the words give
pub record AreGiven (rows : List Row) (o : Options) : Type 0 where
  pub objects : IsGiven (first_of (codes "objects") rows) o.objects
  pub data_area : IsGiven (first_of (codes "data") rows) o.data_area
  pub segment : IsGiven (first_of (codes "segment") rows) o.segment
  pub address : IsGiven (first_of (codes "address") rows) o.address
  pub packet : IsGiven (first_of (codes "packet") rows) o.packet

-- the numbers of no option
abbrev pub default_geometry : Geometry
default_geometry = record {
  objects = 16;
  segment = 1024;
  address = 1;
  packet = 96;
  area = 65536;
}

-- a number of 16 bits, where the number fits; the default, where none is given
abbrev pub field_in : Option ℕ → ℕ → Option ℕ
field_in None default = Some default
field_in (Some n) default = if nat_le n 65535 then Some n else None

-- the numbers of the options, and of this geometry where none is given; whether they are in their
-- ranges is the geometry's concern
unfoldable pub geometry_over : Geometry → Options → Option Geometry
geometry_over base o = do
  objects ← field_in o.objects base.objects
  segment ← field_in o.segment base.segment
  address ← field_in o.address base.address
  packet ← field_in o.packet base.packet
  Some (record {
    objects = objects;
    segment = segment;
    address = address;
    packet = packet;
    area = unwrap_or o.data_area base.area;
  })

abbrev pub geometry_asked : Options → Option Geometry
geometry_asked = geometry_over default_geometry

-- the words give this geometry
abbrev pub GiveGeometry : List Row → Geometry → Type 0
GiveGeometry rows geometry =
    (options : Options) × AreGiven rows options × (geometry_asked options ≡ Some geometry)

-- the words give this transport id to the directory of a new disk: the one behind the id that they
-- name, or the first
abbrev pub GiveDirectory : List Row → ℕ → Type 0
GiveDirectory rows directory =
    (number : Option ℕ) × (after : ℕ) × IsGiven (first_of (codes "after") rows) number
    × (field_in number 0 ≡ Some after) × (directory ≡ id_after after)

-- the id after which those of a copy go on, if a number is given: 0 is the last one, behind which
-- comes the first
abbrev pub last_id : Option ℕ → Option (Option ℕ)
last_id None = Some None
last_id (Some n) =
    if n == 0 then Some (Some 65535) else if nat_le n 65535 then Some (Some n) else None

-- the words give that id
pub record GiveLastId (rows : List Row) (after : Option ℕ) : Type 0 where
  pub number : Option ℕ
  pub given : IsGiven (first_of (codes "after") rows) number
  pub last : last_id number ≡ Some after
