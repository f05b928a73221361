-- What a receiver has that begins to listen at any packet (EN 300 401, EN 301 234).
use Rattle.std.specs.Prelude.{◌≡◌, ℕ, zero, suc, ◌+◌, ◌==◌, max, true, false, if◌then◌else◌, List, []}
use Rattle.std.specs.Prelude.{◌∷◌, ◌++◌, filter, map, Option, Some, None}
use Rattle.std.specs.List.{list_any, AllByRecursion}
use Rattle.mot_groups.specs.Entity.{entity_of, own_segments, segments_of}
use Rattle.mot_groups.specs.Group.{Segment, GroupFields, read_group}
use Rattle.mot_numbers.specs.Reading.{◌>>=◌, read_each}
use Rattle.mot_objects.specs.Carousel.{Carousel, Object}
use Rattle.mot_objects.specs.Ids.{contains}
use Rattle.mot_packets.specs.Gather.{groups_after, have_one_address}
use Rattle.mot_packets.specs.Packet.{PacketFields, read_packet}
use Rattle.mot_player.specs.Reading.{TurnFields, read_segments}
use Rattle.mot_player.specs.Repeats.{is_same_segment, received}
use Rattle.mot_player.specs.Turn.{segments_of_turn, turn_of_carousel}

-- packets from the first on that is a group's first
abbrev pub from_first : List PacketFields → List PacketFields
from_first [] = []
from_first (p ∷ packets) = if p.first then p ∷ packets else from_first packets

-- The segments of the groups that were heard whole: what comes before the first group that begins
-- here is dropped, and so is what has come of one whose last packet is still to come.
unfoldable pub segments_heard : List (List ℕ) → Option (List Segment)
segments_heard packets =
    read_each read_packet packets >>= λ parts.
    (if have_one_address parts then groups_after [] (from_first parts) else None) >>= λ front.
    read_each read_group front.0 >>= λ fields. Some (map (λ (g : GroupFields). g.segment) fields)

-- the highest number of segments
abbrev pub highest : List Segment → ℕ
highest [] = 0
highest (s ∷ segments) = max s.number (highest segments)

-- of segments, those with so many numbers from one on, in the order of their numbers
abbrev pub in_order : (count number : ℕ) → List Segment → List Segment
in_order zero number segments = []
in_order (suc count) number segments =
    filter (λ (s : Segment). s.number == number) segments ++ in_order count (number + 1) segments

-- what a receiver has of segments: each once, in the order of their numbers
abbrev pub collected : List Segment → List Segment
collected segments = in_order (suc (highest segments)) 0 (received [] segments)

-- What a receiver reads that heard these packets, whole groups or not: a directory, each object
-- that it lists, and no other segment. Two segments that differ in more than their type, id and
-- number are no entity's.
unfoldable pub read_heard : List (List ℕ) → Option TurnFields
read_heard packets = segments_heard packets >>= λ segments. read_segments (collected segments)

-- so it has exactly this carousel, in segments of this size
abbrev pub HearsCarousel : List (List ℕ) → Carousel → ℕ → Type 0
HearsCarousel packets c size =
    read_heard packets
    ≡ Some (record {
      directory = c.directory;
      period = c.period;
      segment_size = size;
      objects = c.objects;
    })

-- whatever it has whole is a segment of this carousel's directory or of one of its bodies
pub record HearsOnly (packets : List (List ℕ)) (c : Carousel) (size : ℕ) : Type 0 where
  pub segments : List Segment
  pub heard : segments_heard packets ≡ Some segments
  pub of_it : AllByRecursion (λ (s : Segment).
      list_any (is_same_segment s) (segments_of_turn (turn_of_carousel c size) size) ≡ true)
      segments

-- so it has this entity, whole
abbrev pub HearsEntity : List (List ℕ) → (kind tid : ℕ) → List ℕ → Type 0
HearsEntity packets kind tid bytes =
    (segments_heard packets >>= λ segments. entity_of (collected segments) kind tid) ≡ Some bytes

-- so it has each body of this carousel whose segments are all among these, in their order
abbrev pub HearsBodiesIn : List (List ℕ) → Carousel → (size : ℕ) → List Segment → Type 0
HearsBodiesIn packets c size segments =
    AllByRecursion (λ (o : Object).
    own_segments 4 o.tid segments ≡ segments_of 4 o.tid size o.body →
    HearsEntity packets 4 o.tid o.body) c.objects

-- so it has each body of this carousel that is new in it: whose id no object of the one before had
abbrev pub HearsNewBodies : List (List ℕ) → (old now : Carousel) → Type 0
HearsNewBodies packets old now =
    AllByRecursion (λ (o : Object).
    contains (map (λ (o : Object). o.tid) old.objects) o.tid ≡ false →
    HearsEntity packets 4 o.tid o.body) now.objects
