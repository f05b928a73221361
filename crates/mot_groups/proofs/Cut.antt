-- An entity that is cut into segments reads as itself.
use Rattle.std.proofs.Common.{◌≡◌, ℕ, suc, zero, ◌+◌, ◌-◌, ◌*◌, ◌<◌, ◌≤◌, List, [], ◌∷◌, ◌++◌, true}
use Rattle.std.proofs.Common.{false, refl, length, take, drop, arith, ap, ◌∙◌, length-take}
use Rattle.std.proofs.Common.{length-drop, eq-eqb, Some}
use Rattle.std.proofs.Math.Nat.{zero-div, zero-mod}
use Rattle.std.proofs.lemmas.Bool.{le-leb}
use Rattle.std.proofs.lemmas.List.{append-nil, take-append-drop, take_all}
use Rattle.std.proofs.lemmas.List.Elements.{All-cons, All-nil}
use Rattle.std.specs.Int.{div_ceil}
use Rattle.std.specs.Prelude.{◌==◌}
use Rattle.mot_groups.specs.Group.{Segment}
use Rattle.mot_groups.specs.Entity.{first_pieces, pieces, all_but_last, IsCut, joined_bytes}
use Rattle.mot_groups.specs.Entity.{numbered_segments, segments_of, own_segments, first_size}
use Rattle.mot_groups.specs.Entity.{entity_of}
use Rattle.mot_numbers.specs.Reading.{is_empty}
use Rattle.mot_numbers.proofs.Laws.{PiecesRoundedUp, pieces_rounded_up}

-- so many first pieces of bytes are so many
pub length-first_pieces : (n size : ℕ) (bytes : List ℕ) → length (first_pieces n size bytes) ≡ n
length-first_pieces zero size bytes = refl
length-first_pieces (suc n) size bytes = ap suc (length-first_pieces n size (drop size bytes))

-- n + 1 pieces, of which n are full
IsCut-first_pieces : (size n : ℕ) (bytes : List ℕ) → 0 < size → n * size < length bytes →
    length bytes ≤ n * size + size → IsCut size bytes (first_pieces (suc n) size bytes)
IsCut-first_pieces size zero bytes s low high =
    let all : take size bytes ≡ bytes = take_all size bytes (omega arith) in
    let len : length (take size bytes) ≡ length bytes = ap length all in
    record {
      whole = append-nil (take size bytes) ∙ all;
      none_empty = All-cons (λ piece. 0 < length piece) (take size bytes) [] (omega arith)
          (All-nil (λ piece. 0 < length piece));
      others_full = All-nil (λ piece. length piece ≡ size);
      none_longer = All-cons (λ piece. length piece ≤ size) (take size bytes) [] (omega arith)
          (All-nil (λ piece. length piece ≤ size));
    }
IsCut-first_pieces size (suc n) bytes s low high =
    let left : length (drop size bytes) ≡ length bytes - size = length-drop size bytes in
    let len : length (take size bytes) ≡ size = omega (arith, length-take size bytes) in
    let rest = IsCut-first_pieces size n (drop size bytes) s (omega arith) (omega arith) in
    let others : List (List ℕ) = first_pieces (suc n) size (drop size bytes) in
    record {
      whole = ap (λ r. take size bytes ++ r) rest.whole ∙ take-append-drop size bytes;
      none_empty = All-cons (λ piece. 0 < length piece) (take size bytes) others (omega arith)
          rest.none_empty;
      others_full = All-cons (λ piece. length piece ≡ size) (take size bytes) (all_but_last others)
          len
          rest.others_full;
      none_longer = All-cons (λ piece. length piece ≤ size) (take size bytes) others (omega arith)
          rest.none_longer;
    }

IsCut-none : (size : ℕ) → IsCut size [] []
IsCut-none size = record {
  whole = refl;
  none_empty = All-nil (λ piece. 0 < length piece);
  others_full = All-nil (λ piece. length piece ≡ size);
  none_longer = All-nil (λ piece. length piece ≤ size);
}

-- the pieces of a size cut bytes in segments of that size
pub IsCut-pieces : (size : ℕ) (bytes : List ℕ) → 0 < size → IsCut size bytes (pieces size bytes)
IsCut-pieces size [] s = rw (zero-div size, zero-mod size) (IsCut-none size)
IsCut-pieces size (b ∷ bytes) s =
    let n : PiecesRoundedUp (div_ceil (length (b ∷ bytes)) size) size (length (b ∷ bytes)) =
    pieces_rounded_up size (length (b ∷ bytes)) s (omega arith) in
    rw n.one_more (IsCut-first_pieces size n.full (b ∷ bytes) s n.too_few n.enough)

-- what is read of the segments behind the first one
joined_bytes-more : (number size : ℕ) (s t : Segment) (segments : List Segment) (rest : List ℕ) →
    joined_bytes (number + 1) size (t ∷ segments) ≡ Some rest →
    (s.number == number) ≡ true → s.last ≡ false → (length s.bytes == size) ≡ true →
    joined_bytes number size (s ∷ t ∷ segments) ≡ Some (s.bytes ++ rest)
joined_bytes-more number size s t segments rest ih n l b = rw (ih, n, l, b) refl

joined_bytes-last : (number size : ℕ) (s : Segment) → (s.number == number) ≡ true → s.last ≡ true →
    length s.bytes ≤ size → joined_bytes number size (s ∷ []) ≡ Some s.bytes
joined_bytes-last number size s n l b = rw (n, l, le-leb (length s.bytes) size b) refl

-- n + 1 pieces, of which n are full, join as the bytes again
joined_bytes-numbered_segments : (kind tid number size n : ℕ) (bytes : List ℕ) → 0 < size
    → n * size < length bytes →
    length bytes ≤ n * size + size →
    joined_bytes number size (numbered_segments kind tid number (first_pieces (suc n) size bytes))
    ≡ Some bytes
joined_bytes-numbered_segments kind tid number size zero bytes s low high =
    let e : take size bytes ≡ bytes = take_all size bytes (omega arith) in
    joined_bytes-last number size
    (record { kind = kind; tid = tid; number = number; last = true; bytes = take size bytes })
    (eq-eqb number number refl) refl (omega (arith, length-take size bytes)) ∙ ap Some e
joined_bytes-numbered_segments kind tid number size (suc n) bytes s low high =
    let long : length (drop size bytes) ≡ length bytes - size = length-drop size bytes in
    let full : length (take size bytes) ≡ size = omega (arith, length-take size bytes) in
    let others : List (List ℕ) = first_pieces n size (drop size (drop size bytes)) in
    joined_bytes-more number size
    (record { kind = kind; tid = tid; number = number; last = false; bytes = take size bytes })
    (record {
      kind = kind;
      tid = tid;
      number = number + 1;
      last = is_empty others;
      bytes = take size (drop size bytes);
    })
    (numbered_segments kind tid (number + 1 + 1) others)
    (drop size bytes) (joined_bytes-numbered_segments kind tid (number + 1) size n (drop size bytes)
    s (omega arith)
    (omega arith))
    (eq-eqb number number refl) refl (eq-eqb (length (take size bytes)) size full)
    ∙ ap Some (take-append-drop size bytes)

joined_bytes-own : (kind tid size n : ℕ) (bytes : List ℕ) → 0 < size → n * size < length bytes →
    length bytes ≤ n * size + size →
    joined_bytes 0 (length (take size bytes))
    (numbered_segments kind tid 0 (first_pieces (suc n) size bytes)) ≡ Some bytes
joined_bytes-own kind tid size zero bytes s low high =
    let e : take size bytes ≡ bytes = take_all size bytes (omega arith) in
    joined_bytes-last 0 (length (take size bytes))
    (record { kind = kind; tid = tid; number = 0; last = true; bytes = take size bytes }) refl refl
    (omega arith) ∙ ap Some e
joined_bytes-own kind tid size (suc n) bytes s low high =
    let full : length (take size bytes) ≡ size = omega (arith, length-take size bytes) in
    ap (λ k. joined_bytes 0 k
    (numbered_segments kind tid 0 (first_pieces (suc (suc n)) size bytes))) full
    ∙ joined_bytes-numbered_segments kind tid 0 size (suc n) bytes s low high

-- an entity that is cut reads as itself, whatever segments of others stand among its own
pub entity_of-own : (kind tid size : ℕ) (bytes : List ℕ) (segments : List Segment) → 0 < size →
    0 < length bytes → own_segments kind tid segments ≡ segments_of kind tid size bytes →
    entity_of segments kind tid ≡ Some bytes
unfolding entity_of
entity_of-own kind tid size bytes segments s b own =
    let n : PiecesRoundedUp (div_ceil (length bytes) size) size (length bytes) =
    pieces_rounded_up size (length bytes) s b in
    ap (λ o. joined_bytes 0 (first_size o) o) own
    ∙ ap (λ c. joined_bytes 0
    (first_size (numbered_segments kind tid 0 (first_pieces c size bytes)))
    (numbered_segments kind tid 0 (first_pieces c size bytes))) n.one_more
    ∙ joined_bytes-own kind tid size n.full bytes s n.too_few n.enough
