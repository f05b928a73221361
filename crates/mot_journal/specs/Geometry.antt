-- The head of a disk, and where its parts lie (own format).
use Rattle.std.specs.Prelude.{ℕ, Bool, ◌&&◌, ◌==◌, nat_le, if◌then◌else◌, List, [], ◌∷◌, length}
use Rattle.std.specs.Prelude.{take, drop, slice_index, Option, Some, None, bytes_eq, codes}
use Rattle.mot_numbers.specs.Reading.{number_in, ◌>>=◌}
use Rattle.mot_numbers.specs.Geometry.{length_of, is_valid}
use Rattle.mot_numbers.specs.declared.geometry.Geometry.{Geometry}

-- the bytes cut into columns of these widths, each read as a number; what follows the last is left
abbrev pub columns : List ℕ → List ℕ → List ℕ
columns [] bytes = []
columns (width ∷ widths) bytes = number_in (take width bytes) ∷ columns widths (drop width bytes)

abbrev pub magic : List ℕ
magic = codes "MOTCAR01"

-- the magic; the selector; 7 bytes that are not looked at; objects, segment size, address, packet
-- length, data area
abbrev pub geometry_in : List ℕ → Option Geometry
geometry_in (name ∷ selector ∷ unused ∷ objects ∷ segment ∷ address ∷ packet ∷ area ∷ []) =
    Some (record {
      objects = objects;
      segment = segment;
      address = address;
      packet = packet;
      area = area;
    })
geometry_in _ = None

abbrev pub has_magic : List ℕ → Bool
has_magic image = bytes_eq (take 8 image) magic

-- the number in so many bytes from a place on, the highest first
abbrev pub number_at : ℕ → ℕ → List ℕ → ℕ
number_at at width bytes = number_in (take width (drop at bytes))

-- the numbers of a head, whether they are in their ranges or not
abbrev pub head_numbers : List ℕ → Option Geometry
head_numbers image = geometry_in (columns (8 ∷ 1 ∷ 7 ∷ 2 ∷ 2 ∷ 2 ∷ 2 ∷ 4 ∷ []) image)

-- The geometry of an image; none where the magic is not there, a number is out of its range, or the
-- image is shorter than its geometry asks.
unfoldable pub geometry_of : List ℕ → Option Geometry
geometry_of image = do
  g ← head_numbers image
  if has_magic image && is_valid g && nat_le (length_of g) (length image) then Some g else None

-- exactly 1 selects half 1, every other byte half 0
abbrev pub selected_half : List ℕ → ℕ
selected_half image = if slice_index image 8 == 1 then 1 else 0
