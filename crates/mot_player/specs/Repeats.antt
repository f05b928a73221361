-- What a turn reads as in which segments are sent again (EN 301 234).
use Rattle.std.specs.Prelude.{◌≡◌, ℕ, Bool, true, false, not, ◌&&◌, ◌==◌, if◌then◌else◌, bytes_eq}
use Rattle.std.specs.Prelude.{List, [], ◌∷◌, ◌++◌, map, Option, Some}
use Rattle.std.specs.List.{list_any}
use Rattle.mot_groups.specs.Group.{Segment, GroupFields, read_group}
use Rattle.mot_numbers.specs.Reading.{◌>>=◌, is_empty, read_each}
use Rattle.mot_objects.specs.Carousel.{Carousel, IsSound}
use Rattle.mot_packets.specs.Gather.{gather}
use Rattle.mot_player.specs.Laws.{AreSent, IsAtTurnsBeginning, IsPlace}
use Rattle.mot_player.specs.Place.{Place, Sent, Step, Request, Directory, sent_by}
use Rattle.mot_player.specs.Reading.{ReadsAs, TurnFields, read_segments}
use Rattle.mot_player.specs.Turn.{IsTurnOf}

-- the same segment again, in each field
abbrev pub is_same_segment : Segment → Segment → Bool
is_same_segment s t =
    s.kind == t.kind && s.tid == t.tid && s.number == t.number
    && (if s.last then t.last else not t.last) && bytes_eq s.bytes t.bytes

-- what a receiver has behind one more segment: one that it has already changes nothing
abbrev pub had_with : List Segment → Segment → List Segment
had_with had s = if list_any (is_same_segment s) had then had else had ++ s ∷ []

-- what a receiver has behind further segments
abbrev pub received : List Segment → List Segment → List Segment
received had [] = had
received had (s ∷ segments) = received (had_with had s) segments

-- what packets read as if of each segment that is sent again the first counts
unfoldable pub read_turn_once : List (List ℕ) → Option TurnFields
read_turn_once packets =
    gather packets >>= λ groups. read_each read_group groups >>= λ fields.
    read_segments (received [] (map (λ (g : GroupFields). g.segment) fields))

-- so the packets read as exactly this carousel, in segments of this size
abbrev pub ReadsOnceAs : List (List ℕ) → Carousel → ℕ → Type 0
ReadsOnceAs packets c size =
    read_turn_once packets
    ≡ Some (record {
      directory = c.directory;
      period = c.period;
      segment_size = size;
      objects = c.objects;
    })

-- of what was sent, the last ends a turn, and nothing before it does
abbrev pub ends_at_last : List Sent → Bool
ends_at_last [] = false
ends_at_last (s ∷ sents) = if s.ends_turn then is_empty sents else ends_at_last sents

-- no turn comes among steps, and the directory only if it is asked for
abbrev pub keeps_turn : Bool → List Step → Bool
keeps_turn asked [] = true
keeps_turn asked (Request ∷ steps) = keeps_turn asked steps
keeps_turn asked (Directory ∷ steps) = asked && keeps_turn asked steps
keeps_turn asked (step ∷ steps) = false

-- Packets read as exactly this carousel, of each segment that is sent again the first; if the
-- directory was not asked for, no segment was sent again.
pub record ReadAsTurn (asked : Bool) (packets : List (List ℕ)) (c : Carousel) (size : ℕ) :
    Type 0 where
  pub once : ReadsOnceAs packets c size
  pub plain : asked ≡ false → ReadsAs packets c size

-- From the beginning of a turn of a carousel up to the packet that ends it, however often the
-- directory is asked for within it, the packets read as exactly the carousel.
abbrev pub TurnsReadWithDirectories : Type 0
TurnsReadWithDirectories =
    (old new : Place) (c : Carousel) (asked : Bool) (steps : List Step) (sents : List Sent)
    (packets : List (List ℕ)) →
    IsPlace old → IsTurnOf old.turn c old.segment_size → IsSound c → IsAtTurnsBeginning old →
    keeps_turn asked steps ≡ true → sent_by old steps ≡ Some (sents, new) →
    ends_at_last sents ≡ true → AreSent sents packets → ReadAsTurn asked packets c old.segment_size
