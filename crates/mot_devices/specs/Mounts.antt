-- Where a device is mounted, by `/proc/self/mountinfo`.
use Rattle.std.specs.Prelude.{ℕ, ◌||◌, if◌then◌else◌, Bool, List, [], ◌∷◌, Option, None, Some}
use Rattle.std.specs.Prelude.{bytes_eq, ◌==◌, ◌++◌}
use Rattle.std.specs.List.{list_any}
use Rattle.std.specs.Option.{option_or}

-- The parts of bytes, each ended by the same byte.

-- the parts, where this much of the first was met already
abbrev pub parts_behind : (byte : ℕ) → (met : List ℕ) → List ℕ → List (List ℕ)
parts_behind byte met [] = []
parts_behind byte met (b ∷ bytes) =
    if b == byte then met ∷ parts_behind byte [] bytes else parts_behind byte (met ++ b ∷ []) bytes

-- the parts, each ended by this byte; what stands behind the last of them is none
abbrev pub parts_of : (byte : ℕ) → List ℕ → List (List ℕ)
parts_of byte bytes = parts_behind byte [] bytes

-- a number is this device's, or stands on a line of the others, which are its partitions'
abbrev pub is_one_of : (own others number : List ℕ) → Bool
is_one_of own others number =
    bytes_eq own number || list_any (λ (line : List ℕ). bytes_eq line number) (parts_of 10 others)

-- where a line says that one of these devices is mounted: of its fields, which single spaces end, the
-- third is the number of the device, and the fifth is the place
abbrev pub place_of_fields : (own others : List ℕ) → List (List ℕ) → Option (List ℕ)
place_of_fields own others (id ∷ parent ∷ number ∷ root ∷ place ∷ rest) =
    if is_one_of own others number then Some place else None
place_of_fields own others fields = None

abbrev pub place_of_line : (own others line : List ℕ) → Option (List ℕ)
place_of_line own others line = place_of_fields own others (parts_of 32 line)

-- the first of the lines that says so
abbrev pub place_in_lines : (own others : List ℕ) → List (List ℕ) → Option (List ℕ)
place_in_lines own others [] = None
place_in_lines own others (line ∷ lines) =
    option_or (place_of_line own others line) (place_in_lines own others lines)

-- where one of these devices is mounted, by the whole text
abbrev pub mount_in : (own others mounts : List ℕ) → Option (List ℕ)
mount_in own others mounts = place_in_lines own others (parts_of 10 mounts)
