-- Entities: a directory or a body, as segments carry it (EN 301 234).
use Rattle.std.specs.Prelude.{◌≡◌, ℕ, zero, suc, ◌+◌, ◌<◌, ◌≤◌, not, ◌&&◌, ◌==◌, nat_le}
use Rattle.std.specs.Prelude.{if◌then◌else◌, List, [], ◌∷◌, ◌++◌, length, drop, take, filter, All}
use Rattle.std.specs.Prelude.{flat_map, Option, Some, None}
use Rattle.std.specs.Int.{div_ceil}
use Rattle.mot_groups.specs.Group.{Segment}
use Rattle.mot_numbers.specs.Reading.{◌>>=◌, is_empty}

abbrev pub first_pieces : ℕ → ℕ → List ℕ → List (List ℕ)
first_pieces zero size bytes = []
first_pieces (suc n) size bytes = take size bytes ∷ first_pieces n size (drop size bytes)

-- the bytes cut into pieces of a size, of which the last may be shorter
abbrev pub pieces : ℕ → List ℕ → List (List ℕ)
pieces size bytes = first_pieces (div_ceil (length bytes) size) size bytes

abbrev pub all_but_last : {A : Type 0} → List A → List A
all_but_last [] = []
all_but_last (x ∷ []) = []
all_but_last (x ∷ y ∷ ys) = x ∷ all_but_last (y ∷ ys)

-- bytes are cut at a size: the pieces in order are the bytes, none is empty, all but the last have
-- the size, and the last has no more
pub record IsCut (size : ℕ) (bytes : List ℕ) (cut : List (List ℕ)) : Type 0 where
  pub whole : flat_map (λ piece. piece) cut ≡ bytes
  pub none_empty : All (λ piece. 0 < length piece) cut
  pub others_full : All (λ piece. length piece ≡ size) (all_but_last cut)
  pub none_longer : All (λ piece. length piece ≤ size) cut

-- the segments of pieces, from a number on
abbrev pub numbered_segments : ℕ → ℕ → ℕ → List (List ℕ) → List Segment
numbered_segments kind tid number [] = []
numbered_segments kind tid number (p ∷ ps) =
    record { kind = kind; tid = tid; number = number; last = is_empty ps; bytes = p }
    ∷ numbered_segments kind tid (number + 1) ps

-- the segments of an entity that is cut at a size
abbrev pub segments_of : ℕ → ℕ → ℕ → List ℕ → List Segment
segments_of kind tid size bytes = numbered_segments kind tid 0 (pieces size bytes)

-- the segments of this type and transport id
abbrev pub own_segments : ℕ → ℕ → List Segment → List Segment
own_segments kind tid segments = filter (λ (s : Segment). s.kind == kind && s.tid == tid) segments

-- the segments from a number on, each but the last of one size, and the last no longer, joined
abbrev pub joined_bytes : ℕ → ℕ → List Segment → Option (List ℕ)
joined_bytes number size [] = None
joined_bytes number size (s ∷ []) =
    if s.number == number && s.last && nat_le (length s.bytes) size then Some s.bytes else None
joined_bytes number size (s ∷ t ∷ segments) =
    joined_bytes (number + 1) size (t ∷ segments) >>= λ rest.
    if s.number == number && not s.last && length s.bytes == size then Some (s.bytes ++ rest)
    else None

abbrev pub first_size : List Segment → ℕ
first_size [] = 0
first_size (s ∷ segments) = length s.bytes

-- the bytes of the entity of this type and transport id
unfoldable pub entity_of : List Segment → ℕ → ℕ → Option (List ℕ)
entity_of segments kind tid =
    let own = own_segments kind tid segments in
    joined_bytes 0 (first_size own) own
