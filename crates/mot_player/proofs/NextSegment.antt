-- The segment that comes next of a turn, and those behind it.
use Rattle.std.proofs.Common.{◌≡◌, ℕ, suc, zero, ◌+◌, ◌-◌, ◌*◌, ◌<◌, ◌≤◌, List, [], ◌∷◌, ◌++◌, Bool}
use Rattle.std.proofs.Common.{true, false, inl, inr, refl, sym, ap, ◌∙◌, subst, length, map, take}
use Rattle.std.proofs.Common.{drop, min, arith, get_or, length-drop, eq-eqb}
use Rattle.std.proofs.Math.Nat.{mul-le-mul_right}
use Rattle.std.proofs.lemmas.Bool.{cases_lt, eqb-true, eqb-false, ne_eqb}
use Rattle.std.proofs.lemmas.Grind.{div_ceil_times}
use Rattle.std.proofs.lemmas.List.{drop-drop, take_all, drop_all}
use Rattle.std.specs.Prelude.{◌==◌, if◌then◌else◌, flat_map, slice_index}
use Rattle.std.specs.Int.{div_ceil}
use Rattle.std.specs.List.{AllByRecursion}
use Rattle.mot_groups.specs.Entity.{first_pieces, numbered_segments}
use Rattle.mot_groups.specs.Group.{Segment}
use Rattle.mot_numbers.specs.Reading.{is_empty}
use Rattle.mot_groups.proofs.Laws.{length-first_pieces}
use Rattle.mot_player.specs.Turn.{body_at}
use Rattle.mot_player.specs.Course.{Entity, entities_of, segments_from, segments_in}
use Rattle.mot_player.specs.PlayerView.{AreBodiesFor, BodyPlan, TurnPlan, turn_with, with_bodies}
use Rattle.mot_player.specs.Inner.Entities.{IsPlannable, IsWithinTurn, entity_bytes, entity_length}
use Rattle.mot_player.specs.Inner.Entities.{entity_tid}
use Rattle.mot_player.proofs.Segments.{body_entity, length-with_bodies, segments_from-end}

-- the entity at a place
abbrev pub entity_at : TurnPlan → List (List ℕ) → ℕ → Entity
entity_at plan bodies k =
    record {
      kind = if k == 0 then 6 else 4;
      tid = entity_tid plan k;
      bytes =
          entity_bytes plan bodies k;
    }

bodies-at : (plans : List BodyPlan) (bodies : List (List ℕ)) (j : ℕ) (d : Entity) →
    map length bodies ≡ map (λ (b : BodyPlan). b.length) plans → j < length plans →
    get_or (map body_entity (with_bodies plans bodies)) j d
    ≡ record {
      kind = 4;
      tid = slice_index (map (λ (b : BodyPlan). b.tid) plans) j;
      bytes =
          body_at bodies j;
    }
bodies-at [] bodies j d e l = absurd (omega arith)
bodies-at (b ∷ plans) [] j d e l = absurd (omega (arith, ap length e))
bodies-at (b ∷ plans) (x ∷ bodies) zero d e l = refl
bodies-at (b ∷ plans) (x ∷ bodies) (suc j) d e l =
    bodies-at plans bodies j d (ap (drop 1) e) (omega arith)

pub entities-at : (plan : TurnPlan) (bodies : List (List ℕ)) (k : ℕ) (d : Entity)
    → AreBodiesFor plan bodies →
    k < length plan.bodies + 1
    → get_or (entities_of (turn_with plan bodies)) k d ≡ entity_at plan bodies k
entities-at plan bodies zero d e l = refl
entities-at plan bodies (suc j) d e l =
    let less : suc j - 1 ≡ j = omega arith in
    rw (ne_eqb (suc j) 0 (λ z. omega arith), less)
    (bodies-at plan.bodies bodies j d e (omega arith))

length-entities : (plan : TurnPlan) (bodies : List (List ℕ)) → AreBodiesFor plan bodies →
    length (entities_of (turn_with plan bodies)) ≡ length plan.bodies + 1
length-entities plan bodies e =
    let n : length (map body_entity (with_bodies plan.bodies bodies)) ≡ length plan.bodies =
    length-with_bodies plan.bodies bodies e in omega (arith, n)

length-lengths : (bodies : List (List ℕ)) → length (map length bodies) ≡ length bodies
length-lengths [] = refl
length-lengths (x ∷ bodies) = ap suc (length-lengths bodies)

length-plan_lengths : (plans : List BodyPlan)
    → length (map (λ (b : BodyPlan). b.length) plans) ≡ length plans
length-plan_lengths [] = refl
length-plan_lengths (x ∷ plans) = ap suc (length-plan_lengths plans)

length-body : (bodies : List (List ℕ)) (j : ℕ) → j < length bodies →
    length (body_at bodies j) ≡ slice_index (map length bodies) j
length-body [] j l = absurd (omega arith)
length-body (x ∷ bodies) zero l = refl
length-body (x ∷ bodies) (suc j) l = length-body bodies j (omega arith)

-- an entity's bytes, with the bodies, are as many as planned
pub length-at : (plan : TurnPlan) (bodies : List (List ℕ)) (k : ℕ) → AreBodiesFor plan bodies
    → k < length plan.bodies + 1 →
    length (entity_bytes plan bodies k) ≡ entity_length plan k
length-at plan bodies zero e l = refl
length-at plan bodies (suc j) e l =
    let less : suc j - 1 ≡ j = omega arith in
    rw (ne_eqb (suc j) 0 (λ z. omega arith), less) (length-body bodies j (omega (
      arith,
      ap length e,
      length-lengths bodies,
      length-plan_lengths plan.bodies,
    )) ∙ ap (λ ls. slice_index ls j) e)

-- the segments from one of an entity on
from-at : (size : ℕ) (entities : List Entity) (k s : ℕ) (d : Entity) → k < length entities →
    segments_from size entities k s
    ≡ drop s (segments_in size (get_or entities k d))
    ++ flat_map (segments_in size) (drop (suc k) entities)
from-at size [] k s d l = absurd (omega arith)
from-at size (x ∷ entities) zero s d l = refl
from-at size (x ∷ entities) (suc k) s d l = from-at size entities k s d (omega arith)

pub from-first : (size : ℕ) (entities : List Entity)
    → segments_from size entities 0 0 ≡ flat_map (segments_in size) entities
from-first size [] = refl
from-first size (x ∷ entities) = refl

from-next : (size : ℕ) (entities : List Entity) (k : ℕ) → k < length entities →
    segments_from size entities (suc k) 0 ≡ flat_map (segments_in size) (drop (suc k) entities)
from-next size [] k l = absurd (omega arith)
from-next size (x ∷ entities) zero l = from-first size entities
from-next size (x ∷ entities) (suc k) l = from-next size entities k (omega arith)

length-numbered_segments : (kind tid number : ℕ) (ps : List (List ℕ))
    → length (numbered_segments kind tid number ps) ≡ length ps
length-numbered_segments kind tid number [] = refl
length-numbered_segments kind tid number (p ∷ ps) =
    ap suc (length-numbered_segments kind tid (number + 1) ps)

none_behind : (c size : ℕ) (bytes : List ℕ) (last : Bool) → (last ≡ true → 1 ≡ suc c)
    → (last ≡ false → 1 < suc c) →
    is_empty (first_pieces c size bytes) ≡ last
none_behind c size bytes last t f = grind arith

abbrev pub segment : ℕ → ℕ → ℕ → Bool → List ℕ → Segment
segment kind tid number last bytes =
    record { kind = kind; tid = tid; number = number; last = last; bytes = bytes }

piece-at : (kind tid number size c s : ℕ) (bytes : List ℕ) (last : Bool) → s < c
    → (last ≡ true → suc s ≡ c) →
    (last ≡ false → suc s < c) →
    drop s (numbered_segments kind tid number (first_pieces c size bytes))
    ≡ segment kind tid (number + s) last (take size (drop (s * size) bytes))
    ∷ drop (suc s) (numbered_segments kind tid number (first_pieces c size bytes))
piece-at kind tid number size zero s bytes last l t f = absurd (omega arith)
piece-at kind tid number size (suc c) zero bytes last l t f =
    let none : is_empty (first_pieces c size (drop size bytes)) ≡ last =
    none_behind c size (drop size bytes) last (λ h. omega (arith, t h)) (λ h. omega (arith, f h)) in
    let same : number ≡ number + 0 = omega arith in
    let first : 0 ≡ 0 * size = omega arith in
    let rest : List Segment =
    numbered_segments kind tid (number + 1) (first_pieces c size (drop size bytes)) in
    ap (λ b. segment kind tid number b (take size bytes) ∷ rest) none
    ∙ ap (λ n. segment kind tid n last (take size bytes) ∷ rest) same
    ∙ ap (λ at. segment kind tid (number + 0) last (take size (drop at bytes)) ∷ rest) first
piece-at kind tid number size (suc c) (suc s) bytes last l t f =
    let rest : List Segment =
    drop (suc s) (numbered_segments kind tid (number + 1)
    (first_pieces c size (drop size bytes))) in
    let same : number + 1 + s ≡ number + suc s = omega arith in
    let place : size + s * size ≡ suc s * size = omega arith in
    piece-at kind tid (number + 1) size c s (drop size bytes) last (omega arith)
    (λ h. omega (arith, t h)) (λ h. omega (arith, f h))
    ∙ ap (λ n. segment kind tid n last (take size (drop (s * size) (drop size bytes))) ∷ rest) same
    ∙ ap (λ bs. segment kind tid (number + suc s) last (take size bs) ∷ rest)
    (drop-drop (s * size) size bytes)
    ∙ ap (λ at. segment kind tid (number + suc s) last (take size (drop at bytes)) ∷ rest) place

-- how many pieces there are, against where one begins
module _ (size s count len : ℕ) (some : 0 < size) (enough : len ≤ count * size)
    (few : count * size < len + size) where
  below : s * size < len → s < count
  below l = grind arith

  is_end : s < count → len ≤ s * size + size → suc s ≡ count
  is_end l h = elim (cases_lt (suc s) count) [
    | inl k ↦ (let more : (s + 2) * size ≤ count * size =
        mul-le-mul_right size (let e : s + 2 ≤ count = omega arith in e) in
        absurd (omega (arith, more, few, h)))
    | inr k ↦ omega arith
  ]

  not_end : s * size + size < len → suc s < count
  not_end l = elim (cases_lt (suc s) count) [
    | inl h ↦ h
    | inr h ↦ (let more : count * size ≤ (s + 1) * size =
        mul-le-mul_right size (let e : count ≤ s + 1 = omega arith in e) in
        absurd (omega (arith, more, l, enough)))
  ]

-- a segment is an entity's last exactly where it reaches the entity's end
pub is_last-count : (size s len at n : ℕ) → 0 < size → s * size < len → at ≡ s * size
    → n ≡ min (len - at) size →
    (s + 1 == div_ceil len size) ≡ (at + n == len)
is_last-count size s len at n some begins a e = grind arith

-- the part of an entity that is a segment
pub record IsPart (size s length_is at len : ℕ) (is_last : Bool) : Type 0 where
  -- it begins behind so many segments of the size
  pub from : at ≡ s * size
  -- it begins within the entity
  pub begins : s * size < length_is
  -- it ends within the entity
  pub range : at + len ≤ length_is
  -- it is not longer than a segment
  pub short : len ≤ size
  -- it is a full segment where more of the entity follows
  pub full : at + len < length_is → len ≡ size
  -- it is the last one where it reaches the entity's end
  pub last : is_last ≡ (at + len == length_is)

true_is : true ≡ false → ⊥
true_is e = cc

-- what comes behind a segment, by whether it is its entity's last
behind : (is_last : Bool) (size : ℕ) (entities : List Entity) (k s : ℕ) (this rest : List Segment) →
    segments_from size entities (suc k) 0 ≡ rest → segments_from size entities k (suc s) ≡ this →
    (if is_last then rest else this)
    ≡ segments_from size entities (if is_last then k + 1 else k) (if is_last then 0 else s + 1)
behind is_last size entities k s this rest next more = grind arith

pub segment-in : (size : ℕ) (e : Entity) (s at len : ℕ) (is_last : Bool) → 0 < size →
    IsPart size s (length e.bytes) at len is_last → (rest : List Segment) →
    drop s (segments_in size e) ++ rest
    ≡ segment e.kind e.tid s is_last (take len (drop at e.bytes))
    ∷ (if is_last then rest else drop (suc s) (segments_in size e) ++ rest)
segment-in size e s at len true some p rest =
    let count : ℕ = div_ceil (length e.bytes) size in
    let all = div_ceil_times (length e.bytes) size some in
    let ends : at + len ≡ length e.bytes = eqb-true (at + len) (length e.bytes) (sym p.last) in
    let inside : s < count = below size s count (length e.bytes) some all.0 all.1 p.begins in
    let end : suc s ≡ count =
    is_end size s count (length e.bytes) some all.0 all.1 inside
    (omega (arith, p.from, p.short, ends)) in
    let left : length (drop at e.bytes) ≡ length e.bytes - at = length-drop at e.bytes in
    let here : take size (drop (s * size) e.bytes) ≡ take len (drop at e.bytes) =
    ap (λ n. take size (drop n e.bytes)) (sym p.from)
    ∙ take_all size (drop at e.bytes) (omega (arith, left, p.short, ends))
    ∙ sym (take_all len (drop at e.bytes) (omega (arith, left, ends))) in
    let none : drop (suc s) (segments_in size e) ≡ [] =
    drop_all (suc s) (segments_in size e) (omega (
      arith,
      length-numbered_segments e.kind e.tid 0 (first_pieces count size e.bytes),
      length-first_pieces count size e.bytes,
      end,
    )) in
    let number : 0 + s ≡ s = omega arith in
    ap (λ ss. ss ++ rest) (piece-at e.kind e.tid 0 size count s e.bytes true inside (λ h. end)
    (λ h. absurd (true_is h)))
    ∙ ap (λ ss. segment e.kind e.tid (0 + s) true (take size (drop (s * size) e.bytes))
    ∷ (ss ++ rest)) none
    ∙ ap (λ n. segment e.kind e.tid n true (take size (drop (s * size) e.bytes)) ∷ rest) number
    ∙ ap (λ bs. segment e.kind e.tid s true bs ∷ rest) here
segment-in size e s at len false some p rest =
    let count : ℕ = div_ceil (length e.bytes) size in
    let all = div_ceil_times (length e.bytes) size some in
    let goes_on : at + len ≡ length e.bytes
    → ⊥ = eqb-false (at + len) (length e.bytes) (sym p.last) in
    let more : at + len < length e.bytes = omega (arith, p.range, goes_on) in
    let whole : len ≡ size = p.full more in
    let inside : s < count = below size s count (length e.bytes) some all.0 all.1 p.begins in
    let later : suc s < count =
    not_end size s count (length e.bytes) some all.0 all.1
    (omega (arith, p.from, whole, more)) in
    let number : 0 + s ≡ s = omega arith in
    let behind : List Segment = drop (suc s) (segments_in size e) ++ rest in
    ap (λ ss. ss ++ rest) (piece-at e.kind e.tid 0 size count s e.bytes false inside
    (λ h. absurd (true_is (sym h))) (λ h. later))
    ∙ ap (λ n. segment e.kind e.tid n false (take size (drop (s * size) e.bytes)) ∷ behind) number
    ∙ ap (λ n. segment e.kind e.tid s false (take size (drop n e.bytes)) ∷ behind) (sym p.from)
    ∙ ap (λ n. segment e.kind e.tid s false (take n (drop at e.bytes)) ∷ behind) (sym whole)

-- the same in a turn
pub from-part : (plan : TurnPlan) (bodies : List (List ℕ)) (size k s at len : ℕ) (is_last : Bool)
    → 0 < size →
    AreBodiesFor plan bodies → k < length plan.bodies + 1
    → IsPart size s (entity_length plan k) at len is_last →
    segments_from size (entities_of (turn_with plan bodies)) k s
    ≡ segment (if k == 0 then 6 else 4) (entity_tid plan k) s is_last
    (take len (drop at (entity_bytes plan bodies k)))
    ∷ segments_from size (entities_of (turn_with plan bodies)) (if is_last then k + 1 else k)
    (if is_last then 0 else s + 1)
from-part plan bodies size k s at len is_last some e l p =
    let entities : List Entity = entities_of (turn_with plan bodies) in
    let x : Entity = entity_at plan bodies k in
    let inside : k < length entities = omega (arith, length-entities plan bodies e) in
    let rest : List Segment = flat_map (segments_in size) (drop (suc k) entities) in
    let own : IsPart size s (length x.bytes) at len is_last =
    subst (λ n. IsPart size s n at len is_last) (sym (length-at plan bodies k e l)) p in
    let this : (n : ℕ) → segments_from size entities k n ≡ drop n (segments_in size x) ++ rest =
    λ n.
    from-at size entities k n x inside
    ∙ ap (λ y. drop n (segments_in size y) ++ rest) (entities-at plan bodies k x e l) in
    this s ∙ segment-in size x s at len is_last some own rest
    ∙ ap (λ ss. segment x.kind x.tid s is_last (take len (drop at x.bytes)) ∷ ss)
    (behind is_last size entities k s (drop (suc s) (segments_in size x) ++ rest) rest
    (from-next size entities k inside) (this (suc s)))

-- nothing waits exactly past the last entity
pub waits-none : (plan : TurnPlan) (bodies : List (List ℕ)) (size k s : ℕ) → 0 < size
    → AreBodiesFor plan bodies →
    IsWithinTurn plan size k s →
    is_empty (segments_from size (entities_of (turn_with plan bodies)) k s)
    ≡ (k == length plan.bodies + 1)
waits-none plan bodies size k s some e (inl h) =
    let l : k < length plan.bodies + 1 = h.0 in
    let begins : s * size < entity_length plan k = h.1 in
    let at : ℕ = s * size in
    let len : ℕ = min (entity_length plan k - at) size in
    let is_last : Bool = at + len == entity_length plan k in
    let p : IsPart size s (entity_length plan k) at len is_last =
    record {
      from = refl;
      begins = begins;
      range = omega arith;
      short = omega arith;
      full = λ h.
          omega arith;
      last = refl;
    } in
    ap is_empty (from-part plan bodies size k s at len is_last some e l p)
    ∙ sym (ne_eqb k (length plan.bodies + 1) (λ z. omega arith))
waits-none plan bodies size k s some e (inr h) =
    let l : k ≡ length plan.bodies + 1 = h.0 in
    ap (λ n. is_empty (segments_from size (entities_of (turn_with plan bodies)) k n)) h.1
    ∙ ap is_empty (segments_from-end plan bodies size k e l)
    ∙ sym (eq-eqb k (length plan.bodies + 1) l)

-- the place behind a part is within the turn
some-length : (plans : List BodyPlan) (j : ℕ) → j < length plans →
    AllByRecursion (λ (b : BodyPlan). (1 ≤ b.length) × (b.length ≤ 262144)) plans →
    0 < slice_index (map (λ (b : BodyPlan). b.length) plans) j
some-length [] j l h = absurd (omega arith)
some-length (b ∷ plans) zero l h = let low : 1 ≤ b.length = h.0.0 in omega arith
some-length (b ∷ plans) (suc j) l h = some-length plans j (omega arith) h.1

pub entity-some : (plan : TurnPlan) (k : ℕ) → IsPlannable plan → k < length plan.bodies + 1
    → 0 < entity_length plan k
entity-some plan zero p l = p.some
entity-some plan (suc j) p l =
    let less : suc j - 1 ≡ j = omega arith in
    rw (ne_eqb (suc j) 0 (λ z. omega arith), less)
    (some-length plan.bodies j (omega arith) p.bodies)

-- behind a part of an entity comes another segment of the turn, or its end
pub within-next : (plan : TurnPlan) (size k s at len : ℕ) (is_last : Bool) → IsPlannable plan →
    k < length plan.bodies + 1 → IsPart size s (entity_length plan k) at len is_last →
    IsWithinTurn plan size (if is_last then k + 1 else k) (if is_last then 0 else s + 1)
within-next plan size k s at len true plannable l p =
    elim (cases_lt (k + 1) (length plan.bodies + 1)) [
      | inl h ↦ (let first : 0 * size ≡ 0 = omega arith in
          inl (h, rw first (entity-some plan (k + 1) plannable h)))
      | inr h ↦ inr (omega arith, refl)
    ]
within-next plan size k s at len false plannable l p =
    let goes_on : at + len ≡ entity_length plan k
    → ⊥ = eqb-false (at + len) (entity_length plan k) (sym p.last) in
    let more : at + len < entity_length plan k = omega (arith, p.range, goes_on) in
    let whole : len ≡ size = p.full more in
    let next : (s + 1) * size < entity_length plan k = omega (arith, p.from, whole, more) in
    inl (l, next)

-- a turn within its limits has a first part
pub within-first : (plan : TurnPlan) (size : ℕ) → IsPlannable plan → 0 * size < entity_length plan 0
within-first plan size p = let first : 0 * size ≡ 0 = omega arith in rw first p.some

-- at the end of the turn no segment of an entity was begun
pub first-at-end : (plan : TurnPlan) (size k s : ℕ) → IsWithinTurn plan size k s
    → k ≡ length plan.bodies + 1 → s ≡ 0
first-at-end plan size k s h4 e = grind arith

-- before the end of the turn the next segment lies within an entity
pub inside-turn : (plan : TurnPlan) (size k s : ℕ) → IsWithinTurn plan size k s
    → (k ≡ length plan.bodies + 1 → ⊥) →
    (k < length plan.bodies + 1) × (s * size < entity_length plan k)
inside-turn plan size k s h4 e = grind arith
