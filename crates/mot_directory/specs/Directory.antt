-- The directory (EN 301 234), as a receiver reads it and as it is written.
use Rattle.std.specs.Prelude.{ℕ, zero, suc, ◌+◌, ◌^◌, ◌<◌, ◌&&◌, ◌==◌, nat_le, if◌then◌else◌, List}
use Rattle.std.specs.Prelude.{[], ◌∷◌, ◌++◌, length, drop, take, flat_map, All, Option, Some, None}
use Rattle.std.specs.Prelude.{sum_by}
use Rattle.std.specs.Int.{w16, w32, to_be_bytes, bytes_high_first}
use Rattle.mot_directory.specs.Header.{HeaderFields, header_size_in, read_header, bytes_of_header}
use Rattle.mot_directory.specs.Header.{IsHeader}
use Rattle.mot_numbers.specs.Reading.{◌>>=◌, number_in, fields}
use Rattle.mot_objects.specs.declared.object.Object.{Object}
use Rattle.mot_objects.specs.declared.carousel.Carousel.{Carousel}

-- an object in the directory: its transport id and its header
pub record Entry : Type 0 where
  pub tid : ℕ
  pub header : HeaderFields

pub record DirectoryFields : Type 0 where
  pub period : ℕ
  pub segment_size : ℕ
  pub entries : List Entry

-- n entries that use up the bytes: a transport id, and a header of HeaderSize bytes
abbrev pub entries_in : ℕ → List ℕ → Option (List Entry)
entries_in zero [] = Some []
entries_in zero (b ∷ bytes) = None
entries_in (suc n) bytes =
    let rest = drop 2 bytes in
    let size = header_size_in rest in
    read_header (take size rest) >>= λ header.
    entries_in n (drop size rest) >>= λ entries.
    Some (record { tid = number_in (take 2 bytes); header = header } ∷ entries)

-- the directory header's fields: CompressionFlag, Rfu, DirectorySize; NumberOfObjects;
-- DataCarouselPeriod; Rfu, Rfa, SegmentSize; DirectoryExtensionLength
abbrev pub directory_header_of : List ℕ → List ℕ
directory_header_of bytes =
    fields (1 ∷ 1 ∷ 30 ∷ 16 ∷ 24 ∷ 1 ∷ 2 ∷ 13 ∷ 16 ∷ []) (number_in (take 13 bytes))

abbrev pub directory_with : List ℕ → List ℕ → Option DirectoryFields
directory_with bytes (compression ∷ rfu ∷ size ∷ count ∷ period ∷ rfu2 ∷ rfa ∷ segment
    ∷ extension ∷ []) = do
      entries ← entries_in count (drop 13 bytes)
      if compression == 0 && rfu == 0 && rfu2 == 0 && rfa == 0 && extension == 0
          && size == length bytes && nat_le 13 size
          then Some (record { period = period; segment_size = segment; entries = entries })
          else None
directory_with bytes _ = None

-- the directory that is these bytes: not compressed, and with no directory extension (own profile)
unfoldable pub read_directory : List ℕ → Option DirectoryFields
read_directory bytes = directory_with bytes (directory_header_of bytes)

abbrev pub bytes_of_entry : Entry → List ℕ
bytes_of_entry e = to_be_bytes w16 e.tid ++ bytes_of_header e.header

abbrev pub bytes_of_entries : List Entry → List ℕ
bytes_of_entries entries = flat_map bytes_of_entry entries

-- the directory header's 13 bytes, whose flags and extension length are 0
abbrev pub bytes_of_directory_header : ℕ → ℕ → ℕ → ℕ → List ℕ
bytes_of_directory_header size count period segment =
    to_be_bytes w32 size ++ to_be_bytes w16 count ++ bytes_high_first 3 period
    ++ to_be_bytes w16 segment ++ to_be_bytes w16 0

-- a directory's bytes: its header, and the entries that DirectorySize counts with it
unfoldable pub bytes_of_directory : DirectoryFields → List ℕ
bytes_of_directory d =
    let entries = bytes_of_entries d.entries in
    bytes_of_directory_header (13 + length entries) (length d.entries) d.period d.segment_size
    ++ entries

pub record IsEntry (e : Entry) : Type 0 where
  pub tid : e.tid < 2 ^ 16
  pub header : IsHeader e.header

-- each number and each length fits its field
pub record IsDirectory (d : DirectoryFields) : Type 0 where
  pub directory_size : 13 + length (bytes_of_entries d.entries) < 2 ^ 30
  pub count : length d.entries < 2 ^ 16
  pub period : d.period < 2 ^ 24
  pub segment_size : d.segment_size < 2 ^ 13
  pub entries : All IsEntry d.entries

-- How many bytes headers and the directory have.

-- a parameter with a text of so many bytes
abbrev pub text_size : ℕ → ℕ
text_size n = if nat_le n 127 then 2 + n else 3 + n

abbrev pub mime_size : Option (List ℕ) → ℕ
mime_size None = 0
mime_size (Some text) = text_size (length text)

-- a header: the core, ContentName with its character set, MimeType if there is one, and
-- VersionNumber
abbrev pub header_size : Object → ℕ
header_size o = 7 + text_size (1 + length o.name) + mime_size o.mime + 2

-- an entry: a transport id and a header
abbrev pub entry_size : Object → ℕ
entry_size o = 2 + header_size o

-- a directory: its header and the entries
abbrev pub directory_size : Carousel → ℕ
directory_size c = 13 + sum_by entry_size c.objects.items
