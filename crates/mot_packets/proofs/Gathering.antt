-- The packets that a group is cut into gather to it, and behind it what they stand in front of.
use Rattle.std.proofs.Common.{◌≡◌, ℕ, suc, zero, ◌+◌, ◌-◌, ◌*◌, ◌%◌, ◌<◌, ◌≤◌, List, [], ◌∷◌, ◌++◌}
use Rattle.std.proofs.Common.{Bool, true, false, ◌||◌, not, Some, None, refl, sym, length, take}
use Rattle.std.proofs.Common.{drop, arith, ap, ◌∙◌, length-take, length-drop, eq-eqb}
use Rattle.std.proofs.lemmas.Bool.{and_parts, eqb-true, le-leb, leb-true, leb-false, lt-leb, ne_eqb}
use Rattle.std.proofs.lemmas.List.{append-nil, take-append-drop, take_all}
use Rattle.std.proofs.lemmas.Option.{none-some, same_Some}
use Rattle.std.specs.Int.{div_ceil}
use Rattle.std.specs.Prelude.{◌==◌, if◌then◌else◌}
use Rattle.mot_numbers.specs.Reading.{is_empty, read_each}
use Rattle.mot_numbers.proofs.Laws.{PiecesRoundedUp, pieces_rounded_up, is_empty-some}
use Rattle.mot_numbers.proofs.Laws.{length-read_each}
use Rattle.mot_numbers.proofs.Laws.{read_each-append, >>=-some}
use Rattle.mot_packets.specs.Cut.{piece_at, pieces_from, pieces_of}
use Rattle.mot_packets.specs.Gather.{may_follow, groups_after, have_address, have_one_address}
use Rattle.mot_packets.specs.Gather.{gather_front, gather}
use Rattle.mot_packets.specs.Packet.{PacketFields, read_packet}

-- ---- one packet

begins : (first empty : Bool) → empty ≡ first → (if first then empty else not empty) ≡ true
begins true empty e = e
begins false empty e = rw e refl

full-or-last : (last full : Bool) → (last ≡ false → full ≡ true) → (last || full) ≡ true
full-or-last true full f = refl
full-or-last false full f = f refl

follows : (begun : List ℕ) (p : PacketFields) → is_empty begun ≡ p.first → is_empty p.useful ≡ false
    →
    (p.last ≡ false → (length p.useful == p.room) ≡ true) → may_follow begun p ≡ true
follows begun p b u f =
    rw (begins p.first (is_empty begun) b, u, full-or-last p.last (length p.useful == p.room) f)
    refl

groups_after-last : (begun : List ℕ) (p : PacketFields) (packets : List PacketFields)
    (groups : List (List ℕ)) (rest : List ℕ) → may_follow begun p ≡ true → p.last ≡ true →
    groups_after [] packets ≡ Some (groups, rest) →
    groups_after begun (p ∷ packets) ≡ Some ((begun ++ p.useful) ∷ groups, rest)
unfolding groups_after
groups_after-last begun p packets groups rest f l e = rw (f, l, e) refl

groups_after-more : (begun : List ℕ) (p : PacketFields) (packets : List PacketFields)
    (groups : List (List ℕ)) (rest : List ℕ) → may_follow begun p ≡ true → p.last ≡ false →
    groups_after (begun ++ p.useful) packets ≡ Some (groups, rest) →
    groups_after begun (p ∷ packets) ≡ Some (groups, rest)
unfolding groups_after
groups_after-more begun p packets groups rest f l e = rw (f, l, e) refl

-- what has come of a group is nothing exactly where no byte has
take_is_empty : (at : ℕ) (group : List ℕ) → at < length group → is_empty (take at group) ≡ (at == 0)
take_is_empty zero group l = refl
take_is_empty (suc n) group l =
    is_empty-some (take (suc n) group) (omega (arith, length-take (suc n) group))
    ∙ sym (ne_eqb (suc n) 0 (λ e. omega arith))

take_nil : (n : ℕ) → take {A = ℕ} n [] ≡ []
take_nil zero = refl
take_nil (suc n) = refl

take-take_rest : (at room : ℕ) (group : List ℕ)
    → take at group ++ take room (drop at group) ≡ take (at + room) group
take-take_rest zero room group =
    ap (λ n. take n group) (let e : room ≡ zero + room = omega arith in e)
take-take_rest (suc n) room [] = take_nil room ∙ sym (take_nil (suc n + room))
take-take_rest (suc n) room (x ∷ group) =
    ap (λ part. x ∷ part) (take-take_rest n room group)
    ∙ ap (λ k. take k (x ∷ group)) (let e : suc (n + room) ≡ suc n + room = omega arith in e)

piece_follows : (room address index at : ℕ) (group : List ℕ) → 0 < room → at < length group →
    may_follow (take at group) (piece_at room address index group at) ≡ true
piece_follows room address index at group r l =
    let rest : length (drop at group) ≡ length group - at = length-drop at group in
    follows (take at group) (piece_at room address index group at) (take_is_empty at group l)
    (is_empty-some (take room (drop at group)) (omega (arith, length-take room (drop at group))))
    (λ more. rw more (eq-eqb (length (take room (drop at group))) room
    (omega (
      arith,
      leb-false (length (drop at group)) room more,
      length-take room (drop at group),
    ))))

-- a group's last packet makes it whole
pub groups_after-last_piece : (room address index at : ℕ) (group : List ℕ)
    (packets : List PacketFields)
    (groups : List (List ℕ)) (rest : List ℕ) → 0 < room → at < length group →
    (piece_at room address index group at).last ≡ true
    → groups_after [] packets ≡ Some (groups, rest) →
    groups_after (take at group) (piece_at room address index group at ∷ packets)
    ≡ Some (group ∷ groups, rest)
groups_after-last_piece room address index at group packets groups rest r l last e =
    let fits : length (drop at group) ≤ room = leb-true (length (drop at group)) room last in
    let whole : take at group ++ take room (drop at group) ≡ group =
    ap (λ part. take at group ++ part) (take_all room (drop at group) fits)
    ∙ take-append-drop at group in
    groups_after-last (take at group) (piece_at room address index group at) packets groups rest
    (piece_follows room address index at group r l) last e
    ∙ ap (λ g. Some (g ∷ groups, rest)) whole

-- any other goes before the rest of it
pub groups_after-piece : (room address index at : ℕ) (group : List ℕ) (packets : List PacketFields)
    (groups : List (List ℕ)) (rest : List ℕ) → 0 < room → at < length group →
    (piece_at room address index group at).last ≡ false →
    groups_after (take (at + room) group) packets ≡ Some (groups, rest) →
    groups_after (take at group) (piece_at room address index group at ∷ packets)
    ≡ Some (groups, rest)
groups_after-piece room address index at group packets groups rest r l last e =
    groups_after-more (take at group) (piece_at room address index group at) packets groups rest
    (piece_follows room address index at group r l) last
    (ap (λ begun. groups_after begun packets) (take-take_rest at room group) ∙ e)

-- and then more than it carries is left
pub more_left : (room address index at : ℕ) (group : List ℕ)
    → (piece_at room address index group at).last ≡ false →
    at + room < length group
more_left room address index at group last =
    omega (arith, leb-false (length (drop at group)) room last, length-drop at group)

-- ---- the packets from a place on

groups_after-pieces_from : (room address index n at : ℕ) (group : List ℕ)
    (packets : List PacketFields)
    (groups : List (List ℕ)) (rest : List ℕ) → 0 < room → at + n * room < length group →
    length group ≤ at + n * room + room → groups_after [] packets ≡ Some (groups, rest) →
    groups_after (take at group) (pieces_from (suc n) room address index group at ++ packets)
    ≡ Some (group ∷ groups, rest)
groups_after-pieces_from room address index zero at group packets groups rest r low high e =
    let left : length (drop at group) ≡ length group - at = length-drop at group in
    groups_after-last_piece room address (index % 4) at group packets groups rest r (omega arith)
    (le-leb (length (drop at group)) room (omega arith)) e
groups_after-pieces_from room address index (suc n) at group packets groups rest r low high e =
    let left : length (drop at group) ≡ length group - at = length-drop at group in
    groups_after-piece room address (index % 4) at group
    (pieces_from (suc n) room address (index + 1) group (at + room) ++ packets) (group ∷ groups)
    rest r (omega arith)
    (lt-leb (length (drop at group)) room (omega arith))
    (groups_after-pieces_from room address (index + 1) n (at + room) group packets groups rest r
    (omega arith)
    (omega arith) e)

-- the packets of a group, in front of others
pub groups_after-pieces_of : (room address index : ℕ) (group : List ℕ) (packets : List PacketFields)
    (groups : List (List ℕ)) (rest : List ℕ) → 0 < room → 0 < length group →
    groups_after [] packets ≡ Some (groups, rest) →
    groups_after [] (pieces_of room address index group ++ packets) ≡ Some (group ∷ groups, rest)
groups_after-pieces_of room address index group packets groups rest r some e =
    let n : PiecesRoundedUp (div_ceil (length group) room) room (length group) =
    pieces_rounded_up room (length group) r some in
    let low = n.too_few in
    let high = n.enough in
    ap (λ k. groups_after [] (pieces_from k room address index group 0 ++ packets)) n.one_more
    ∙ groups_after-pieces_from room address index n.full 0 group packets groups rest r (omega arith)
    (omega arith) e

-- ---- their address

have_address-cons : (address : ℕ) (p : PacketFields) (packets : List PacketFields)
    → p.address ≡ address →
    have_address address packets ≡ true → have_address address (p ∷ packets) ≡ true
have_address-cons address p packets e h = rw (eq-eqb p.address address e) h

have_address-pieces_from : (room address index n at : ℕ) (group : List ℕ)
    (packets : List PacketFields) →
    have_address address packets ≡ true →
    have_address address (pieces_from n room address index group at ++ packets) ≡ true
have_address-pieces_from room address index zero at group packets h = h
have_address-pieces_from room address index (suc n) at group packets h =
    have_address-cons address (piece_at room address (index % 4) group at)
    (pieces_from n room address (index + 1) group (at + room) ++ packets) refl
    (have_address-pieces_from room address (index + 1) n (at + room) group packets h)

-- the pieces of a group have their address, and those behind them too
pub have_address-pieces_of : (room address index : ℕ) (group : List ℕ) (packets : List PacketFields)
    →
    have_address address packets ≡ true
    → have_address address (pieces_of room address index group ++ packets) ≡ true
have_address-pieces_of room address index group packets h =
    have_address-pieces_from room address index (div_ceil (length group) room) 0 group packets h

-- packets that all have an address have one
pub have_one_address-have_address : (address : ℕ) (packets : List PacketFields) →
    have_address address packets ≡ true → have_one_address packets ≡ true
have_one_address-have_address address [] e = refl
have_one_address-have_address address (p ∷ packets) e =
    let parts = and_parts (p.address == address) (have_address address packets) e in
    ap (λ a. have_address a packets) (eqb-true p.address address parts.0) ∙ parts.1

-- ---- as a receiver gathers them

front-of_parts : (packets : List (List ℕ)) (parts : List PacketFields)
    → read_each read_packet packets ≡ Some parts →
    have_one_address parts ≡ true → gather_front packets ≡ groups_after [] parts
unfolding gather_front
front-of_parts packets parts e one = rw (e, one) refl

-- packets of a group stand in front of others with the same address
pub gather_front-goes_on : (room address index : ℕ) (group : List ℕ) (packets more : List (List ℕ))
    (parts : List PacketFields) (groups : List (List ℕ)) (rest : List ℕ) → 0 < room
    → 0 < length group →
    read_each read_packet packets ≡ Some (pieces_of room address index group) →
    read_each read_packet more ≡ Some parts → have_address address parts ≡ true →
    gather_front more ≡ Some (groups, rest)
    → gather_front (packets ++ more) ≡ Some (group ∷ groups, rest)
gather_front-goes_on room address index group packets more parts groups rest r some read read' same
    e =
    let one : have_one_address parts ≡ true = have_one_address-have_address address parts same in
    let behind : groups_after [] parts ≡ Some (groups, rest) =
    sym (front-of_parts more parts read' one) ∙ e in
    let all : List PacketFields = pieces_of room address index group ++ parts in
    front-of_parts (packets ++ more) all
    (read_each-append read_packet packets more (pieces_of room address index group) parts read
    read')
    (have_one_address-have_address address all
    (have_address-pieces_of room address index group parts same))
    ∙ groups_after-pieces_of room address index group parts groups rest r some behind

nothing_begun : (groups groups' : List (List ℕ)) (rest : List ℕ) →
    (if is_empty rest then Some groups else None) ≡ Some groups' → (groups ≡ groups') × (rest ≡ [])
nothing_begun groups groups' [] e = (same_Some groups groups' e, refl)
nothing_begun groups groups' (x ∷ rest) e = absurd (none-some groups' e)

-- where groups are gathered, nothing is left of another
pub gather_front-gather : (packets : List (List ℕ)) (groups : List (List ℕ))
    → gather packets ≡ Some groups →
    gather_front packets ≡ Some (groups, [])
unfolding gather
gather_front-gather packets groups e =
    let found = >>=-some (gather_front packets)
    (λ front. if is_empty front.1 then Some front.0 else None) groups e in
    let whole = nothing_begun found.0.0 groups found.0.1 found.2 in
    found.1 ∙ ap (λ g. Some (g, found.0.1)) whole.0 ∙ ap (λ r. Some (groups, r)) whole.1

-- packets that gather to groups, with nothing begun behind them, gather to these
pub gather-of_front : (packets : List (List ℕ)) (groups : List (List ℕ)) →
    gather_front packets ≡ Some (groups, []) → gather packets ≡ Some groups
unfolding gather
gather-of_front packets groups e = rw e refl

-- the packets of a group, and others behind them, gather to the group and theirs
pub gather-goes_on : (room address index : ℕ) (group : List ℕ) (packets more : List (List ℕ))
    (parts : List PacketFields) (groups : List (List ℕ)) → 0 < room → 0 < length group →
    read_each read_packet packets ≡ Some (pieces_of room address index group) →
    read_each read_packet more ≡ Some parts → have_address address parts ≡ true →
    gather more ≡ Some groups → gather (packets ++ more) ≡ Some (group ∷ groups)
gather-goes_on room address index group packets more parts groups r some read read' same e =
    gather-of_front (packets ++ more) (group ∷ groups)
    (gather_front-goes_on room address index group packets more parts groups [] r some read read'
    same
    (gather_front-gather more groups e))

gather-none : gather [] ≡ Some []
unfolding gather gather_front groups_after
gather-none = refl

-- packets that read as the pieces of a group are as many, and gather to it
pub gather-of_pieces : (room address index : ℕ) (group : List ℕ) (packets : List (List ℕ))
    → 0 < room →
    0 < length group → read_each read_packet packets ≡ Some (pieces_of room address index group) →
    gather packets ≡ Some (group ∷ [])
gather-of_pieces room address index group packets r some e =
    ap gather (sym (append-nil packets))
    ∙ gather-goes_on room address index group packets [] [] [] r some e refl refl gather-none

length-pieces_from : (room address index n at : ℕ) (group : List ℕ) →
    length (pieces_from n room address index group at) ≡ n
length-pieces_from room address index zero at group = refl
length-pieces_from room address index (suc n) at group =
    ap suc (length-pieces_from room address (index + 1) n (at + room) group)

-- a group's packets are as many as its bytes, divided by the room and rounded up
pub length-of_pieces : (room address index : ℕ) (group : List ℕ) (packets : List (List ℕ)) →
    read_each read_packet packets ≡ Some (pieces_of room address index group) →
    length packets ≡ div_ceil (length group) room
length-of_pieces room address index group packets e =
    length-read_each read_packet packets (pieces_of room address index group) e
    ∙ length-pieces_from room address index (div_ceil (length group) room) 0 group
