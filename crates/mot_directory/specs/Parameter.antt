-- The parameters of a header extension (EN 301 234), as a receiver reads them and as they are
-- written.
use Rattle.std.specs.Prelude.{◌≡◌, ℕ, zero, suc, ◌+◌, ◌-◌, ◌*◌, ◌/◌, ◌%◌, ◌^◌, ◌<◌, ◌==◌, nat_lt}
use Rattle.std.specs.Prelude.{nat_le, if◌then◌else◌, List, [], ◌∷◌, ◌++◌, length, drop, take}
use Rattle.std.specs.Prelude.{Option, Some, None}
use Rattle.std.specs.Int.{w16, to_be_bytes}
use Rattle.mot_numbers.specs.Reading.{◌>>=◌}

-- a parameter by its form: an id (ParamId) with no data, with one byte or four, or with data behind
-- a length of 7 bits or of 15
pub data Parameter : Type 0 where
  NoData : ℕ → Parameter
  OneByte : ℕ → ℕ → Parameter
  FourBytes : ℕ → List ℕ → Parameter
  Short : ℕ → List ℕ → Parameter
  Long : ℕ → List ℕ → Parameter

-- a parameter with the first n bytes as its data, and the bytes after them
abbrev pub parameter_with : (List ℕ → Parameter) → ℕ → List ℕ → Option (Parameter × List ℕ)
parameter_with make n bytes =
    if nat_le n (length bytes) then Some (make (take n bytes), drop n bytes) else None

abbrev pub with_one_byte : ℕ → List ℕ → Option (Parameter × List ℕ)
with_one_byte id [] = None
with_one_byte id (b ∷ bytes) = Some (OneByte id b, bytes)

-- 7 bits of the length were read, and 8 more follow
abbrev pub with_long_length : ℕ → ℕ → List ℕ → Option (Parameter × List ℕ)
with_long_length id high [] = None
with_long_length id high (low ∷ bytes) = parameter_with (Long id) (256 * high + low) bytes

-- behind an extension bit of 0 the length has 7 bits, behind 1 it has 15
abbrev pub with_length : ℕ → List ℕ → Option (Parameter × List ℕ)
with_length id [] = None
with_length id (first ∷ bytes) =
    if nat_lt first 128 then parameter_with (Short id) first bytes
    else with_long_length id (first - 128) bytes

-- the first parameter, whose form is in two bits (PLI), and the bytes after it
abbrev pub read_parameter : List ℕ → Option (Parameter × List ℕ)
read_parameter [] = None
read_parameter (first ∷ bytes) =
    let id = first % 64 in
    let form = first / 64 in
    if form == 0 then Some (NoData id, bytes)
    else (if form == 1 then with_one_byte id bytes
    else (if form == 2 then parameter_with (FourBytes id) 4 bytes
    else with_length id bytes))

-- the parameters that use up the bytes, n at most
abbrev pub parameters_within : ℕ → List ℕ → Option (List Parameter)
parameters_within n [] = Some []
parameters_within zero (b ∷ bytes) = None
parameters_within (suc n) (b ∷ bytes) = do
  first ← read_parameter (b ∷ bytes)
  others ← parameters_within n first.1
  Some (first.0 ∷ others)

unfoldable pub read_parameters : List ℕ → Option (List Parameter)
read_parameters bytes = parameters_within (length bytes) bytes

-- a parameter's bytes: the form, the id, the length if the form has one, and the data
abbrev pub bytes_of_parameter : Parameter → List ℕ
bytes_of_parameter (NoData id) = id ∷ []
bytes_of_parameter (OneByte id b) = (64 + id) ∷ b ∷ []
bytes_of_parameter (FourBytes id four) = (128 + id) ∷ four
bytes_of_parameter (Short id text) = (192 + id) ∷ length text ∷ text
bytes_of_parameter (Long id text) = (192 + id) ∷ (to_be_bytes w16 (2 ^ 15 + length text) ++ text)

-- its id and its length fit their fields
abbrev pub IsParameter : Parameter → Type 0
IsParameter (NoData id) = id < 2 ^ 6
IsParameter (OneByte id b) = id < 2 ^ 6
IsParameter (FourBytes id four) = (id < 2 ^ 6) × (length four ≡ 4)
IsParameter (Short id text) = (id < 2 ^ 6) × (length text < 2 ^ 7)
IsParameter (Long id text) = (id < 2 ^ 6) × (length text < 2 ^ 15)
