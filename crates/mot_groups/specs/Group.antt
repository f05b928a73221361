-- MSC data groups (EN 300 401, clause 5.3.3) with MOT segments (EN 301 234), as a receiver reads
-- them.
use Rattle.std.specs.Prelude.{ℕ, ◌+◌, ◌*◌, ◌^◌, ◌<◌, ◌≤◌, Bool, not, ◌&&◌, ◌==◌, nat_lt, nat_le}
use Rattle.std.specs.Prelude.{if◌then◌else◌, List, [], ◌∷◌, ◌++◌, length, drop, take, Option, Some}
use Rattle.std.specs.Prelude.{None}
use Rattle.std.specs.Int.{w16, to_be_bytes}
use Rattle.mot_base.specs.Checksum.{crc_of, without_crc, ends_in_crc}
use Rattle.mot_numbers.specs.Reading.{number_in, fields, is_empty}

-- a segment of an entity: the type of its group, the entity's transport id, the segment's number,
-- whether it is the last, its bytes
pub record Segment : Type 0 where
  pub kind : ℕ
  pub tid : ℕ
  pub number : ℕ
  pub last : Bool
  pub bytes : List ℕ

-- a group: its continuity index, and the segment in it
pub record GroupFields : Type 0 where
  pub index : ℕ
  pub segment : Segment

-- a data group's data field has at most so many bytes, of which the segmentation header takes 2
abbrev pub longest_data_field : ℕ
longest_data_field = 8191

-- from the header: extension, CRC, segment and user access flags, type, continuity index,
-- repetition index; last, segment number; Rfa, transport id flag, length indicator, transport id;
-- repetition count, segment size
abbrev pub group_with : List ℕ → List ℕ → Option GroupFields
group_with bytes (extension ∷ crc ∷ segment ∷ access ∷ kind ∷ index ∷ repetition
    ∷ last ∷ number ∷ rfa ∷ flag ∷ indicator ∷ tid ∷ count ∷ size ∷ []) =
    let part = drop 9 (without_crc bytes) in
    if extension == 0 && crc == 1 && segment == 1 && access == 1 && repetition == 0
    && rfa == 0 && flag == 1 && indicator == 2 && nat_lt 0 tid
    && count == 0 && size == length part && not (is_empty part)
    && nat_le (size + 2) longest_data_field && ends_in_crc bytes
    then Some (record {
      index = index;
      segment = record { kind = kind; tid = tid; number = number; last = last == 1; bytes = part };
    })
    else None
group_with bytes _ = None

-- the widths of these fields
abbrev pub header_widths : List ℕ
header_widths = 1 ∷ 1 ∷ 1 ∷ 1 ∷ 4 ∷ 4 ∷ 4 ∷ 1 ∷ 15 ∷ 3 ∷ 1 ∷ 4 ∷ 16 ∷ 3 ∷ 13 ∷ []

-- the group in these bytes; the flags and the repetition index are our own profile
unfoldable pub read_group : List ℕ → Option GroupFields
read_group bytes = group_with bytes (fields header_widths (number_in (take 9 bytes)))

-- a group that can be written: its fields fit their widths, its segment is not empty and fits the
-- data field
pub record IsGroup (g : GroupFields) : Type 0 where
  pub kind : g.segment.kind < 16
  pub index : g.index < 16
  pub tid : (0 < g.segment.tid) × (g.segment.tid < 2 ^ 16)
  pub number : g.segment.number < 2 ^ 15
  pub some : 0 < length g.segment.bytes
  pub fits : length g.segment.bytes + 2 ≤ longest_data_field

-- a group's content: what stands between the two header bytes and the checksum word
abbrev pub content_of : List ℕ → List ℕ
content_of group = drop 2 (without_crc group)

-- what stands in front of a segment in its group's content: last flag and number, user access
-- field with the transport id, segment size
abbrev pub content_head : ℕ → Bool → ℕ → ℕ → List ℕ
content_head number last tid size = to_be_bytes w16 (if last then 32768 + number else number)
    ++ 18 ∷ to_be_bytes w16 tid ++ to_be_bytes w16 size

-- the content with a segment
abbrev pub segment_content : Segment → List ℕ
segment_content s = content_head s.number s.last s.tid (length s.bytes) ++ s.bytes

-- the one list of bytes that reads as a group
unfoldable pub bytes_of_group : GroupFields → List ℕ
bytes_of_group g =
    let covered = (112 + g.segment.kind) ∷ (16 * g.index) ∷ segment_content g.segment in
    covered ++ to_be_bytes w16 (crc_of covered)

-- a group of one segment, by its parts
abbrev pub group_of : ℕ → ℕ → ℕ → ℕ → Bool → List ℕ → GroupFields
group_of index kind tid number last bytes =
    record {
      index = index;
      segment = record { kind = kind; tid = tid; number = number; last = last; bytes = bytes };
    }
