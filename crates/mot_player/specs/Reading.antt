-- What the packets of a turn read as (EN 301 234).
use Rattle.std.specs.Prelude.{◌≡◌, ℕ, Bool, ◌&&◌, ◌||◌, ◌==◌, nat_le, if◌then◌else◌, List, [], ◌∷◌}
use Rattle.std.specs.Prelude.{length, map, Option, Some, None}
use Rattle.std.specs.List.{list_all}
use Rattle.mot_directory.specs.Directory.{Entry, read_directory}
use Rattle.mot_directory.specs.Entries.{description_in}
use Rattle.mot_groups.specs.Entity.{entity_of}
use Rattle.mot_groups.specs.Group.{Segment, GroupFields, read_group}
use Rattle.mot_numbers.specs.Reading.{◌>>=◌, read_each}
use Rattle.mot_objects.specs.Carousel.{Object, Carousel}
use Rattle.mot_objects.specs.Ids.{contains, is_distinct}
use Rattle.mot_packets.specs.Gather.{gather}

-- what a whole turn says of its carousel
pub record TurnFields : Type 0 where
  pub directory : ℕ
  pub period : ℕ
  pub segment_size : ℕ
  pub objects : List Object

-- the object of an entry, whose body has BodySize bytes
abbrev pub object_in : List Segment → Entry → Option Object
object_in segments entry = do
  body ← entity_of segments 4 entry.tid
  text ← description_in entry.header.parameters
  if length body == entry.header.body_size
      then Some (record {
        name = text.0;
        content = entry.header.content;
        mime = text.1;
        version = text.2;
        tid = entry.tid;
        body = body;
      })
      else None

-- A segment of a turn is the directory's, or the body's of one of its entries; and it has the
-- directory's segment size or, as its entity's last, at most that.
abbrev pub belongs : ℕ → List ℕ → ℕ → Segment → Bool
belongs directory ids size s =
    (s.kind == 6 && s.tid == directory || s.kind == 4 && contains ids s.tid)
    && (if s.last then nat_le (length s.bytes) size else length s.bytes == size)

-- the transport id of the first segment of a directory
abbrev pub directory_in : List Segment → Option ℕ
directory_in [] = None
directory_in (s ∷ segments) = if s.kind == 6 then Some s.tid else directory_in segments

-- a directory, each object that it lists, and no other segment
unfoldable pub read_segments : List Segment → Option TurnFields
read_segments segments =
    directory_in segments >>= λ id.
    entity_of segments 6 id >>= λ bytes.
    read_directory bytes >>= λ directory.
    read_each (object_in segments) directory.entries >>= λ objects.
    let ids = map (λ (e : Entry). e.tid) directory.entries in
    if is_distinct (id ∷ ids) && list_all (belongs id ids directory.segment_size) segments
    then Some (record {
      directory = id;
      period = directory.period;
      segment_size = directory.segment_size;
      objects = objects;
    })
    else None

-- what the packets of a turn read as: their groups, without rest, carry a directory and its
-- objects' bodies
unfoldable pub read_turn : List (List ℕ) → Option TurnFields
read_turn packets =
    gather packets >>= λ groups. read_each read_group groups >>= λ fields.
    read_segments (map (λ (g : GroupFields). g.segment) fields)

-- the packets read as exactly this carousel, in segments of this size
abbrev pub ReadsAs : List (List ℕ) → Carousel → ℕ → Type 0
ReadsAs packets c size =
    read_turn packets
    ≡ Some (record {
      directory = c.directory;
      period = c.period;
      segment_size = size;
      objects = c.objects;
    })
