-- Headers (EN 301 234), as a receiver reads them and as they are written.
use Rattle.std.specs.Prelude.{ℕ, ◌+◌, ◌*◌, ◌^◌, ◌<◌, ◌&&◌, ◌==◌, nat_le, if◌then◌else◌, List, []}
use Rattle.std.specs.Prelude.{◌∷◌, ◌++◌, length, drop, take, flat_map, All, Option, Some, None}
use Rattle.std.specs.Prelude.{slice_index}
use Rattle.std.specs.Int.{bytes_high_first}
use Rattle.mot_directory.specs.Parameter.{Parameter, read_parameters, bytes_of_parameter}
use Rattle.mot_directory.specs.Parameter.{IsParameter}
use Rattle.mot_numbers.specs.Reading.{◌>>=◌, number_in, fields}
use Rattle.mot_objects.specs.Name.{ContentNumbers}

-- BodySize, ContentType with ContentSubType, and the parameters of the extension
pub record HeaderFields : Type 0 where
  pub body_size : ℕ
  pub content : ContentNumbers
  pub parameters : List Parameter

-- the header core's fields: BodySize, HeaderSize, ContentType, ContentSubType
abbrev pub core_of : List ℕ → List ℕ
core_of bytes = fields (28 ∷ 13 ∷ 6 ∷ 9 ∷ []) (number_in (take 7 bytes))

-- HeaderSize alone, which tells where the header ends
abbrev pub header_size_in : List ℕ → ℕ
header_size_in bytes = slice_index (core_of bytes) 1

abbrev pub header_with : List ℕ → List ℕ → Option HeaderFields
header_with bytes (body ∷ size ∷ content ∷ subtype ∷ []) = do
  parameters ← read_parameters (drop 7 bytes)
  if size == length bytes && nat_le 7 size
      then Some (record {
        body_size = body;
        content = record { content_type = content; subtype = subtype };
        parameters = parameters;
      })
      else None
header_with bytes _ = None

-- the header that is these bytes, of which HeaderSize is the number
unfoldable pub read_header : List ℕ → Option HeaderFields
read_header bytes = header_with bytes (core_of bytes)

-- the core's 7 bytes
abbrev pub bytes_of_core : ℕ → ℕ → ContentNumbers → List ℕ
bytes_of_core body size content =
    bytes_high_first 7
    (((body * 2 ^ 13 + size) * 2 ^ 6 + content.content_type) * 2 ^ 9 + content.subtype)

abbrev pub bytes_of_extension : List Parameter → List ℕ
bytes_of_extension parameters = flat_map bytes_of_parameter parameters

-- a header's bytes: the core, and the extension that HeaderSize counts with it
unfoldable pub bytes_of_header : HeaderFields → List ℕ
bytes_of_header h =
    let extension = bytes_of_extension h.parameters in
    bytes_of_core h.body_size (7 + length extension) h.content ++ extension

-- each number and each length fits its field
pub record IsHeader (h : HeaderFields) : Type 0 where
  pub body_size : h.body_size < 2 ^ 28
  pub header_size : 7 + length (bytes_of_extension h.parameters) < 2 ^ 13
  pub content_type : h.content.content_type < 2 ^ 6
  pub subtype : h.content.subtype < 2 ^ 9
  pub parameters : All IsParameter h.parameters
