-- The segments of a turn fit their groups, and these read as the segments.
use Rattle.std.proofs.Common.{◌≡◌, ℕ, ◌+◌, ◌*◌, ◌^◌, ◌<◌, ◌≤◌, List, [], ◌∷◌, ◌++◌, Bool, true}
use Rattle.std.proofs.Common.{false, Some, ◌⊎◌, refl, sym, length, map, replicate, All, ap, arith}
use Rattle.std.proofs.lemmas.Bool.{false≢true}
use Rattle.std.proofs.lemmas.Grind.{div_ceil_times}
use Rattle.std.proofs.lemmas.List.Elements.{All-head, All-tail}
use Rattle.std.specs.Prelude.{if◌then◌else◌, IfSome}
use Rattle.std.specs.Int.{div_ceil}
use Rattle.std.specs.List.{AllByRecursion}
use Rattle.mot_groups.specs.Entity.{numbered_segments, pieces, segments_of}
use Rattle.mot_groups.specs.Group.{Segment, GroupFields, IsGroup, read_group, bytes_of_group}
use Rattle.mot_groups.proofs.Laws.{IsCut-pieces, entity_of-own, read_group-bytes_of_group}
use Rattle.mot_groups.proofs.Laws.{length-first_pieces}
use Rattle.mot_numbers.specs.Reading.{is_empty, read_each}
use Rattle.mot_objects.specs.Carousel.{Object, Carousel, IsSound}
use Rattle.mot_player.specs.Place.{Last, Place, Sent, group_for, with_begun}
use Rattle.mot_player.specs.Turn.{Turn, IsTurnOf, IsPlayable, IsSendable, bodies_with_ids}
use Rattle.mot_player.specs.Turn.{segments_of_turn, segments_of_bodies}
use Rattle.mot_player.proofs.TurnReads.{EntityLaws}

-- the indexes that are kept fit a group's header
pub record KeepsIndexes (place : Place) : Type 0 where
  pub directory : IfSome place.last_directory (λ (last : Last). last.index < 16)
  pub body : IfSome place.last_body (λ (last : Last). last.index < 16)

-- a segment that a group can carry
pub record IsFit (s : Segment) : Type 0 where
  pub kind : s.kind < 16
  pub tid : (0 < s.tid) × (s.tid < 2 ^ 16)
  pub number : s.number < 2 ^ 15
  pub some : 0 < length s.bytes
  pub fits : length s.bytes + 2 ≤ 8191

are_fit-numbered_segments : (kind tid number size : ℕ) (ps : List (List ℕ)) → kind < 16
    → (0 < tid) × (tid < 2 ^ 16) →
    number + length ps ≤ 2 ^ 15 → All (λ p. 0 < length p) ps → All (λ p. length p ≤ size) ps
    → size ≤ 8189 →
    AllByRecursion IsFit (numbered_segments kind tid number ps)
are_fit-numbered_segments kind tid number size [] k t n some short s = tt
are_fit-numbered_segments kind tid number size (p ∷ ps) k t n some short s =
    let own : 0 < length p = All-head (λ p. 0 < length p) p ps some in
    let most : length p ≤ size = All-head (λ p. length p ≤ size) p ps short in (
      record { kind = k; tid = t; number = omega arith; some = own; fits = omega arith },
      are_fit-numbered_segments kind tid (number + 1) size ps k t (omega arith)
          (All-tail (λ p. 0 < length p) p ps some)
          (All-tail (λ p. length p ≤ size) p ps short) s,
    )

few : (count size bytes : ℕ) → bytes ≤ 32768 * size → count * size < bytes + size → count ≤ 32768
few count size bytes most less = grind arith

few_pieces : (size : ℕ) (bytes : List ℕ) → 0 < length bytes → length bytes ≤ 32768 * size →
    length (pieces size bytes) ≤ 32768
few_pieces size bytes some most =
    let count : ℕ = div_ceil (length bytes) size in
    let size_some : 0 < size = omega arith in
    let all = div_ceil_times (length bytes) size size_some in
    let enough : count ≤ 32768 = few count size (length bytes) most all.1 in
    rw (length-first_pieces count size bytes) enough

pub append-fit : (xs ys : List Segment) → AllByRecursion IsFit xs → AllByRecursion IsFit ys
    → AllByRecursion IsFit (xs ++ ys)
append-fit [] ys p q = q
append-fit (x ∷ xs) ys p q = (p.0, append-fit xs ys p.1 q)

abbrev pub IsId : ℕ → Type 0
IsId id = (1 ≤ id) × (id ≤ 65535)

module _ (size : ℕ) (laws : EntityLaws size) (s : size ≤ 8189) where
  pub are_fit-entity : (kind tid : ℕ) (bytes : List ℕ) → kind < 16 → (1 ≤ tid) × (tid ≤ 65535)
      → IsSendable size bytes →
      AllByRecursion IsFit (segments_of kind tid size bytes)
  are_fit-entity kind tid bytes k t b =
      grind (arith, few_pieces, are_fit-numbered_segments)

  are_fit-objects : (objects : List Object)
      → AllByRecursion IsId (map (λ (o : Object). o.tid) objects) →
      All (λ (b : ℕ × List ℕ). IsSendable size b.1) (bodies_with_ids objects) →
      AllByRecursion IsFit (segments_of_bodies size (bodies_with_ids objects))
  are_fit-objects [] ids h = tt
  are_fit-objects (o ∷ objects) ids h =
      let fits : (ℕ × List ℕ) → Type 0 = λ b. IsSendable size b.1 in
      append-fit (segments_of 4 o.tid size o.body)
      (segments_of_bodies size (bodies_with_ids objects))
      (are_fit-entity 4 o.tid o.body (omega arith) ids.0
      (All-head fits (o.tid, o.body) (bodies_with_ids objects) h))
      (are_fit-objects objects ids.1 (All-tail fits (o.tid, o.body) (bodies_with_ids objects) h))

  pub are_fit-turn : (turn : Turn) (c : Carousel) → IsTurnOf turn c size → IsSound c
      → IsPlayable turn size →
      AllByRecursion IsFit (segments_of_turn turn size)
  are_fit-turn turn c t sound p =
      grind (arith, are_fit-objects, append-fit, are_fit-entity)

pub group-index_fits : (place : Place) (s : Segment) → KeepsIndexes place
    → (group_for place s).index < 16
group-index_fits place s keeps = grind arith

pub begun-keeps : (place : Place) (s : Segment) (others : List Segment) → KeepsIndexes place →
    KeepsIndexes (with_begun place (group_for place s) others)
begun-keeps place s others keeps = grind arith

-- of what was sent, which ends a turn
abbrev pub ends_of : List Sent → List Bool
ends_of sents = map (λ (s : Sent). s.ends_turn) sents

-- only the last of n + 1 packets ends the turn
abbrev pub last_ends : ℕ → List Bool
last_ends n = replicate n false ++ true ∷ []

abbrev head_of : List Bool → Bool
head_of [] = true
head_of (b ∷ bs) = b

-- a list that begins with false is not one that begins with true
pub head-false : (bs cs : List Bool) → false ∷ bs ≡ true ∷ cs → ⊥
head-false bs cs e = false≢true (ap head_of e)

-- a list that begins with true is not one that begins with false
pub head-true : (bs cs : List Bool) → true ∷ bs ≡ false ∷ cs → ⊥
head-true bs cs e = false≢true (sym (ap head_of e))

pub is_group : (index : ℕ) (s : Segment) → index < 16 → IsFit s
    → IsGroup (record { index = index; segment = s })
is_group index s i f = grind arith

-- at the beginning of a turn its segments are to be sent
pub whole_or_none : (segments whole : List Segment) → (segments ≡ []) ⊎ (segments ≡ whole) →
    (if is_empty segments then whole else segments) ≡ whole
whole_or_none segments whole h = grind arith

module _ (size : ℕ) (laws : EntityLaws size) (s : size ≤ 8189) where
  pub groups-read : (groups : List GroupFields) → AllByRecursion IsGroup groups →
      read_each read_group (map bytes_of_group groups) ≡ Some groups
  groups-read [] h = refl
  groups-read (g ∷ groups) h = rw (read_group-bytes_of_group g h.0, groups-read groups h.1) refl

pub entity-laws : (size : ℕ) → 0 < size → EntityLaws size
entity-laws size some = record {
  cut = λ bytes. IsCut-pieces size bytes some;
  entity = λ kind tid bytes segments h own. entity_of-own kind tid size bytes segments some h own;
}
