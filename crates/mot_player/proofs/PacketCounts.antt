-- How many packets an entity takes.
use Rattle.std.proofs.Common.{◌≡◌, ℕ, zero, suc, ◌+◌, ◌*◌, ◌-◌, ◌<◌, ◌≤◌, List, [], ◌∷◌, length}
use Rattle.std.proofs.Common.{drop, take, refl, sym, ap, ◌∙◌, arith}
use Rattle.std.proofs.lemmas.List.{length-drop, length-take}
use Rattle.std.proofs.lemmas.List.Sums.{sum_by-cons}
use Rattle.std.specs.Int.{div_ceil}
use Rattle.std.specs.List.{sum_by}
use Rattle.mot_groups.specs.Entity.{first_pieces, numbered_segments, segments_of}
use Rattle.mot_groups.specs.Group.{Segment}
use Rattle.mot_numbers.specs.Reading.{is_empty}
use Rattle.mot_numbers.proofs.Laws.{PiecesRoundedUp, pieces_rounded_up}
use Rattle.mot_player.specs.Place.{packets_of_segments}

-- the packets of one group, by its segment's length
abbrev packets_of : ℕ → ℕ → ℕ
packets_of room len = div_ceil (len + 11) room

-- the packets of pieces
abbrev packets_of_pieces : ℕ → List (List ℕ) → ℕ
packets_of_pieces room pieces = sum_by (λ (p : List ℕ). packets_of room (length p)) pieces

packets-numbered : (room kind tid number : ℕ) (pieces : List (List ℕ))
    → packets_of_segments room (numbered_segments kind tid number pieces)
    ≡ packets_of_pieces room pieces
packets-numbered room kind tid number [] = refl
packets-numbered room kind tid number (p ∷ pieces) =
    let others : List Segment = numbered_segments kind tid (number + 1) pieces in
    sum_by-cons (λ (s : Segment). packets_of room (length s.bytes))
    (record { kind = kind; tid = tid; number = number; last = is_empty pieces; bytes = p }) others
    ∙ ap (λ n. packets_of room (length p) + n)
    (packets-numbered room kind tid (number + 1) pieces)
    ∙ sym (sum_by-cons (λ (p : List ℕ). packets_of room (length p)) p pieces)

-- pieces of a size, and a last one of the rest
packets-pieces : (room size full rest : ℕ) (bytes : List ℕ) → length bytes ≡ full * size + rest
    → rest ≤ size
    → packets_of_pieces room (first_pieces (suc full) size bytes)
    ≡ full * packets_of room size + packets_of room rest
packets-pieces room size zero rest bytes e fits =
    let whole : length (take size bytes) ≡ rest = omega (arith, length-take size bytes, e) in
    sum_by-cons (λ (p : List ℕ). packets_of room (length p)) (take size bytes) []
    ∙ omega (arith, ap (packets_of room) whole)
packets-pieces room size (suc full) rest bytes e fits =
    let whole : length (take size bytes) ≡ size = omega (arith, length-take size bytes, e) in
    let others : List (List ℕ) = first_pieces (suc full) size (drop size bytes) in
    let more : packets_of_pieces room others
    ≡ full * packets_of room size + packets_of room rest =
    packets-pieces room size full rest (drop size bytes)
    (omega (arith, length-drop size bytes, e)) fits in
    sum_by-cons (λ (p : List ℕ). packets_of room (length p)) (take size bytes) others
    ∙ ap (λ n. n + packets_of_pieces room others) (ap (packets_of room) whole)
    ∙ joined (packets_of room size) (packets_of room rest) (packets_of_pieces room others) more
  where
    joined : (a b c : ℕ) → c ≡ full * a + b → a + c ≡ suc full * a + b
    joined a b c e = omega (arith, e)

-- an entity of this length, cut into so many full segments and one of the rest
abbrev packets_at : ℕ → ℕ → ℕ → ℕ → ℕ
packets_at room size full len =
    full * packets_of room size + packets_of room (len - full * size)

entity-cases : (room size kind tid count : ℕ) (bytes : List ℕ)
    → PiecesRoundedUp count size (length bytes)
    → packets_of_segments room (numbered_segments kind tid 0 (first_pieces count size bytes))
    ≡ packets_at room size (count - 1) (length bytes)
entity-cases room size kind tid count bytes n =
    let full : ℕ = n.full in
    let rest : ℕ = length bytes - full * size in
    let less : full ≡ count - 1 = omega (arith, n.one_more) in
    ap (λ c. packets_of_segments room
    (numbered_segments kind tid 0 (first_pieces c size bytes))) n.one_more
    ∙ packets-numbered room kind tid 0 (first_pieces (suc full) size bytes)
    ∙ packets-pieces room size full rest bytes (omega (arith, n.too_few)) (omega (arith, n.enough))
    ∙ ap (λ f. packets_at room size f (length bytes)) less

-- the packets of an entity, by its length
pub packets-entity : (room size kind tid len : ℕ) (bytes : List ℕ) → 0 < size → 0 < len
    → length bytes ≡ len
    → packets_of_segments room (segments_of kind tid size bytes)
    ≡ packets_at room size (div_ceil len size - 1) len
packets-entity room size kind tid len bytes some more is =
    grind (arith, entity-cases, pieces_rounded_up)
