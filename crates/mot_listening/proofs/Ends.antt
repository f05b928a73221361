-- However many changes are followed, a turn ends: after how many packets.
use Rattle.std.proofs.Common.{◌≡◌, ◌⊎◌, ℕ, zero, suc, ◌+◌, ◌*◌, ◌<◌, ◌≤◌, List, [], ◌∷◌, ◌++◌, Bool}
use Rattle.std.proofs.Common.{true, false, not, Option, Some, None, inl, inr, refl, sym, subst, map}
use Rattle.std.proofs.Common.{length, ap, ◌∙◌, arith}
use Rattle.std.proofs.lemmas.Bool.{and_parts, ne_eqb, not-true}
use Rattle.std.proofs.lemmas.List.{take-append-drop}
use Rattle.std.proofs.lemmas.Option.{none-some, same_Some, some_pair_parts}
use Rattle.std.specs.Prelude.{◌==◌, ◌&&◌, filter, flat_map, if◌then◌else◌}
use Rattle.std.specs.Int.{div_ceil}
use Rattle.mot_groups.specs.Entity.{numbered_segments, pieces, segments_of}
use Rattle.mot_groups.specs.Group.{GroupFields, Segment, bytes_of_group}
use Rattle.mot_numbers.specs.Reading.{is_empty}
use Rattle.mot_objects.specs.Ids.{is_distinct}
use Rattle.mot_player.specs.Turn.{IsFollowable, IsOneChange, put, replaced, same, withdrawn, Turn}
use Rattle.mot_player.specs.Turn.{segments_of_bodies, segments_of_turn}
use Rattle.mot_player.specs.Place.{Change, Place, Put, Replaced, Same, Sent, Step, UnderWay}
use Rattle.mot_player.specs.Place.{Withdrawn, Directory, Follow, NewTurn, Request, change_between}
use Rattle.mot_player.specs.Place.{directory_segments, early_after, early_of, first_sent, follow}
use Rattle.mot_player.specs.Place.{fresh_segments, goes_early, group_for, hear_directory}
use Rattle.mot_player.specs.Place.{in_its_place, left_of, left_with, next_sent, of_bodies}
use Rattle.mot_player.specs.Place.{opened_place, packet_sent, request, rest_after, rest_of, sent_by}
use Rattle.mot_player.specs.Place.{that_stay, to_send, with_begun}
use Rattle.mot_player.specs.Start.{start_place}
use Rattle.mot_player.specs.Staying.{HasDirectory, none_ends}
use Rattle.mot_player.proofs.Laws.{AreOthers, FirstRequest, between-put, between-replaced}
use Rattle.mot_player.proofs.Laws.{changes-come-next, between-same, between-withdrawn}
use Rattle.mot_player.proofs.Laws.{first_request, followed-left, heard-left, others-both, renewed}
use Rattle.mot_player.proofs.Laws.{without-place}
use Rattle.mot_listening.proofs.Counts.{packets-append, packets-are, packets-bodies, packets_for}
use Rattle.mot_listening.proofs.DirectoryNext.{asked-next, first-leaves, group-fewer, group-leaves}
use Rattle.mot_listening.proofs.DirectoryNext.{group_left, room-kept}
use Rattle.mot_listening.proofs.Heard.{IsInside, IsOnAir, heard-on, opened-on, sent-on}
use Rattle.mot_listening.proofs.OfTurn.{followed-on}
use Rattle.mot_listening.proofs.Renews.{renews}
use Rattle.mot_listening.proofs.Rest.{IsRest, rest-heard, rest-sent}
use Rattle.mot_listening.proofs.Starts.{start-on, start-rest}
use Rattle.mot_listening.specs.Ends.{AreFollowed, HasBodies, TurnsEndSoon, added_packets}
use Rattle.mot_listening.specs.Ends.{turn_behind}
use Rattle.mot_listening.specs.Waits.{left_packets, longest_group}

abbrev Pair : Type 0
Pair = ℕ × List ℕ

-- ---- the first segment of a body comes once

abbrev first_count : Bool → Bool → ℕ
first_count b c = if b then if c then 1 else 0 else 0

unfoldable firsts : ℕ → List Segment → ℕ
firsts old [] = 0
firsts old (s ∷ segments) =
    first_count (s.tid == old) (s.number == 0) + firsts old segments

firsts-append : (old : ℕ) (xs ys : List Segment) →
    firsts old (xs ++ ys) ≡ firsts old xs + firsts old ys
unfolding firsts
firsts-append old [] ys = omega arith
firsts-append old (x ∷ xs) ys = omega (arith, firsts-append old xs ys)

none-first : (b c : Bool) → c ≡ false → first_count b c ≡ 0
none-first true true e = absurd (let f : true ≡ false = e in cc)
none-first true false e = refl
none-first false c e = refl

firsts-later : (old id n : ℕ) (ps : List (List ℕ)) → 0 < n →
    firsts old (numbered_segments 4 id n ps) ≡ 0
unfolding firsts
firsts-later old id n [] some = refl
firsts-later old id n (p ∷ ps) some =
    omega (
      arith,
      none-first (id == old) (n == 0) (ne_eqb n 0 (λ e. omega (arith, e, some))),
      firsts-later old id (n + 1) ps (omega arith),
    )

one-first : (b c : Bool) → first_count b c ≤ 1
one-first true true = omega arith
one-first true false = omega arith
one-first false c = omega arith

firsts-own : (old id : ℕ) (ps : List (List ℕ)) →
    firsts old (numbered_segments 4 id 0 ps) ≤ 1
unfolding firsts
firsts-own old id [] = omega arith
firsts-own old id (p ∷ ps) =
    omega (
      arith,
      one-first (id == old) (0 == 0),
      firsts-later old id (0 + 1) ps (omega arith),
    )

other-first : (b c : Bool) → b ≡ false → first_count b c ≡ 0
other-first true c e = absurd (let f : true ≡ false = e in cc)
other-first false c e = refl

firsts-other : (old id n : ℕ) (ps : List (List ℕ)) → (id == old) ≡ false →
    firsts old (numbered_segments 4 id n ps) ≡ 0
unfolding firsts
firsts-other old id n [] e = refl
firsts-other old id n (p ∷ ps) e =
    omega (arith, other-first (id == old) (n == 0) e, firsts-other old id (n + 1) ps e)

firsts-others : (size old : ℕ) (bodies : List Pair) → AreOthers old bodies →
    firsts old (segments_of_bodies size bodies) ≡ 0
unfolding firsts
firsts-others size old [] o = refl
firsts-others size old (b ∷ bodies) o =
    omega (
      arith,
      firsts-append old (segments_of 4 b.0 size b.1) (segments_of_bodies size bodies),
      firsts-other old b.0 0 (pieces size b.1) o.0,
      firsts-others size old bodies o.1,
    )

firsts-whole : (size : ℕ) (before after : List Pair) (g : Pair) →
    AreOthers g.0 before → AreOthers g.0 after →
    firsts g.0 (segments_of_bodies size (before ++ g ∷ after)) ≤ 1
firsts-whole size [] after g first behind =
    omega (
      arith,
      firsts-append g.0 (segments_of 4 g.0 size g.1) (segments_of_bodies size after),
      firsts-own g.0 g.0 (pieces size g.1),
      firsts-others size g.0 after behind,
    )
firsts-whole size (b ∷ before) after g first behind =
    omega (
      arith,
      firsts-append g.0 (segments_of 4 b.0 size b.1)
          (segments_of_bodies size (before ++ g ∷ after)),
      firsts-other g.0 b.0 0 (pieces size b.1) first.0,
      firsts-whole size before after g first.1 behind,
    )

-- ---- how many packets a change leaves of the rest

place-cases : (room r k n : ℕ) (x : Segment) (fresh ys : List Segment) (b c : Bool) →
    packets_for room ys ≤ r + k * packets_for room fresh →
    n ≡ div_ceil (length x.bytes + 11) room →
    packets_for room ((if b then if c then fresh else [] else x ∷ []) ++ ys)
    ≤ (n + r) + (first_count b c + k) * packets_for room fresh
unfolding packets_for
place-cases room r k n x fresh ys true true l e = omega (arith, l, packets-append room fresh ys)
place-cases room r k n x fresh ys true false l e = omega (arith, l)
place-cases room r k n x fresh ys false c l e = omega (arith, l, e)

packets-in_place : (room old : ℕ) (fresh xs : List Segment) →
    packets_for room (flat_map (in_its_place old fresh) xs)
    ≤ packets_for room xs + firsts old xs * packets_for room fresh
unfolding packets_for firsts
packets-in_place room old fresh [] = omega arith
packets-in_place room old fresh (x ∷ xs) =
    place-cases room (packets_for room xs) (firsts old xs) (div_ceil (length x.bytes + 11) room) x
    fresh (flat_map (in_its_place old fresh) xs) (x.tid == old) (x.number == 0)
    (packets-in_place room old fresh xs) refl

once-times : (k n : ℕ) → k ≤ 1 → k * n ≤ n
once-times zero n l = omega arith
once-times (suc zero) n l = omega arith
once-times (suc (suc k)) n l = absurd (omega (arith, l))

packets-once : (room size : ℕ) (fresh : List Segment) (before after : List Pair) (g : Pair)
    (done rest : List Segment) → AreOthers g.0 before → AreOthers g.0 after →
    segments_of_bodies size (before ++ g ∷ after) ≡ done ++ rest →
    packets_for room (flat_map (in_its_place g.0 fresh) rest)
    ≤ packets_for room rest + packets_for room fresh
packets-once room size fresh before after g done rest first behind e =
    omega (
      arith,
      packets-in_place room g.0 fresh rest,
      once-times (firsts g.0 rest) (packets_for room fresh) (omega (
        arith,
        firsts-append g.0 done rest,
        ap (firsts g.0) e,
        firsts-whole size before after g first behind,
      )),
    )

packets-nil : (room : ℕ) → packets_for room [] ≡ 0
unfolding packets_for
packets-nil room = refl

put-packets : (room : ℕ) (rest fresh : List Segment) (b : Bool) →
    packets_for room (if b then [] else rest ++ fresh)
    ≤ packets_for room rest + packets_for room fresh
put-packets room rest fresh true = omega (arith, packets-nil room)
put-packets room rest fresh false = omega (arith, packets-append room rest fresh)

-- what is left of the rest takes no more than before, and the new body
abbrev KeepsRest : (room size : ℕ) → Bool → List Segment → Change → Type 0
KeepsRest room size early rest change =
    packets_for room (rest_after change early (fresh_segments size change) rest)
    ≤ packets_for room rest + packets_for room (fresh_segments size change)

keeps-rest : (room size : ℕ) (olds news : List Pair) (early : Bool) (done rest : List Segment) →
    IsOneChange olds news → is_distinct (map (λ (b : Pair). b.0) olds) ≡ true →
    segments_of_bodies size olds ≡ done ++ rest →
    KeepsRest room size early rest (change_between olds news)
keeps-rest room size olds news early done rest (same h) distinct e =
    subst (KeepsRest room size early rest) (sym (ap (change_between olds) h ∙ between-same olds))
    (let l : packets_for room rest ≤ packets_for room rest + packets_for room [] = omega arith in l)
keeps-rest room size olds news early done rest (put f h) distinct e =
    subst (KeepsRest room size early rest) (sym (ap (change_between olds) h ∙ between-put olds f))
    (put-packets room rest (segments_of 4 f.0 size f.1) (is_empty rest && early))
keeps-rest room size olds news early done rest (replaced before after g f h i o) distinct e =
    let once : is_distinct (map (λ (b : Pair). b.0) (before ++ g ∷ after)) ≡ true =
    ap (λ (bs : List Pair). is_distinct (map (λ (b : Pair). b.0) bs)) (sym h) ∙ distinct in
    let others = others-both before after g once in
    subst (KeepsRest room size early rest)
    (sym (ap (λ (bs : List Pair). change_between bs news) h
    ∙ ap (change_between (before ++ g ∷ after)) i ∙ between-replaced before after g f o))
    (packets-once room size (segments_of 4 f.0 size f.1) before after g done rest others.0 others.1
    (ap (segments_of_bodies size) (sym h) ∙ e))
keeps-rest room size olds news early done rest (withdrawn before after g h i) distinct e =
    let once : is_distinct (map (λ (b : Pair). b.0) (before ++ g ∷ after)) ≡ true =
    ap (λ (bs : List Pair). is_distinct (map (λ (b : Pair). b.0) bs)) (sym h) ∙ distinct in
    let others = others-both before after g once in
    subst (KeepsRest room size early rest)
    (sym (ap (λ (bs : List Pair). change_between bs news) h
    ∙ ap (change_between (before ++ g ∷ after)) i ∙ between-withdrawn before after g others.1))
    (subst (λ (ss : List Segment). packets_for room ss
    ≤ packets_for room rest + packets_for room []) (sym (without-place g.0 rest))
    (packets-once room size [] before after g done rest others.0 others.1
    (ap (segments_of_bodies size) (sym h) ∙ e)))

-- ---- what is left of a turn

filter-fewer : (room : ℕ) (p : Segment → Bool) (xs : List Segment) →
    packets_for room (filter p xs) ≤ packets_for room xs
unfolding packets_for
filter-fewer room p [] = omega arith
filter-fewer room p (x ∷ xs) =
    kept-fewer room x (filter p xs) (packets_for room xs) (p x) (filter-fewer room p xs)
  where
    kept-fewer : (room : ℕ) (x : Segment) (ys : List Segment) (n : ℕ) (b : Bool) →
        packets_for room ys ≤ n →
        packets_for room (if b then x ∷ ys else ys) ≤ div_ceil (length x.bytes + 11) room + n
    kept-fewer room x ys n true l = omega (arith, l)
    kept-fewer room x ys n false l = omega (arith, l)

stay-fewer : (room : ℕ) (change : Change) (xs : List Segment) →
    packets_for room (that_stay change xs) ≤ packets_for room xs
stay-fewer room Same xs = omega arith
stay-fewer room (Put f) xs = omega arith
stay-fewer room (Replaced old f) xs =
    filter-fewer room (λ (s : Segment). not (s.tid == old)) xs
stay-fewer room (Withdrawn old) xs =
    filter-fewer room (λ (s : Segment). not (s.tid == old)) xs

if-fewer : (room : ℕ) (fresh : List Segment) (b : Bool) →
    packets_for room (if b then fresh else []) ≤ packets_for room fresh
if-fewer room fresh true = omega arith
if-fewer room fresh false = omega (arith, packets-nil room)

-- the packets that are left of a turn, with those of the group under way
abbrev pub left_all : ℕ → Place → ℕ
left_all room place = group_left room place.under_way + packets_for room (left_of place)

-- where a packet does not end the turn, what waits is left
goes-on : (place : Place) (group : List ℕ) (at : ℕ) →
    (packet_sent place group at).ends_turn ≡ false →
    left_of (packet_sent place group at).place ≡ place.waiting
goes-on place group at e = last-cases (packet_sent place group at).packet.last e
  where
    last-cases : (b : Bool) → (b && is_empty place.waiting) ≡ false →
        left_with (packet_sent place group at).place
        (if b then None else Some (record { group = group; sent = at + place.room }))
        ≡ place.waiting
    last-cases true f =
        ap (λ (c : Bool). if c then segments_of_turn place.turn place.segment_size
        else place.waiting) f
    last-cases false f = refl

-- one less is left behind a packet that does not end the turn
first-less : (place : Place) (segments : List Segment) (s : Sent) → 0 < place.room →
    first_sent place segments ≡ Some s → s.ends_turn ≡ false →
    suc (left_all place.room s.place) ≡ packets_for place.room segments
unfolding packets_for
first-less place [] s some e f = absurd (none-some s e)
first-less place (t ∷ segments) s some e f =
    let g : GroupFields = group_for place t in
    let begun : Place = with_begun place g segments in
    let one : Sent = packet_sent begun (bytes_of_group g) 0 in
    let is : one ≡ s = same_Some one s e in
    let l = first-leaves place t segments s some e in
    let left : left_of s.place ≡ segments =
    ap (λ (x : Sent). left_of x.place) (sym is)
    ∙ goes-on begun (bytes_of_group g) 0 (ap (λ (x : Sent). x.ends_turn) is ∙ f) in
    omega (
      arith,
      l.left_is,
      ap (packets_for place.room) left,
    )

next-less : (size : ℕ) (place : Place) (u : Option UnderWay) (s : Sent) → 0 < place.room →
    IsInside place.room size u → next_sent place u ≡ Some s → s.ends_turn ≡ false →
    suc (left_all place.room s.place)
    ≡ group_left place.room u + packets_for place.room (left_with place u)
next-less size place None s some inside e f =
    omega (arith, first-less place (to_send place) s some e f)
next-less size place (Some u) s some inside e f =
    let one : Sent = packet_sent place u.group u.sent in
    let is : one ≡ s = same_Some one s e in
    let l = group-leaves place u s some inside.1 e in
    let left : left_of s.place ≡ place.waiting =
    ap (λ (x : Sent). left_of x.place) (sym is)
    ∙ goes-on place u.group u.sent (ap (λ (x : Sent). x.ends_turn) is ∙ f) in
    omega (
      arith,
      l.left_is,
      ap (packets_for place.room) left,
    )

-- ---- over steps

-- a place of a turn that goes on: what is left of its bodies is the end of them
record GoesOn (size room : ℕ) (turn : Turn) (place : Place) : Type 0 where
  on : IsOnAir size turn place
  room_is : place.room ≡ room
  rest : IsRest size turn place.early (left_of place)

start-goes : (address room size most cursor : ℕ) (newest_first : Bool) (turn : Turn) → 0 < room →
    0 < size → HasDirectory turn →
    GoesOn size room turn (start_place address room size turn cursor (Some most) newest_first)
start-goes address room size most cursor newest_first turn some large has = record {
  on = start-on address room size turn cursor (Some most) newest_first some large has;
  room_is = start-room address room size most cursor newest_first turn;
  rest = start-rest address room size turn cursor (Some most) newest_first some large has;
}
  where
    start-room : (address room size most cursor : ℕ) (newest_first : Bool) (turn : Turn) →
        (start_place address room size turn cursor (Some most) newest_first).room ≡ room
    start-room address room size most cursor true turn = refl
    start-room address room size most cursor false turn = refl

sent-goes : (size room : ℕ) (turn : Turn) (place : Place) (s : Sent) → 0 < size →
    GoesOn size room turn place → request place ≡ Some s → GoesOn size room turn s.place
sent-goes size room turn place s some g e = record {
  on = sent-on size turn place s some g.on e;
  room_is = room-kept place s e ∙ g.room_is;
  rest = rest-sent size turn place s g.on g.rest e;
}

heard-same : (place : Place) → (hear_directory place).room ≡ place.room
unfolding hear_directory
heard-same place = refl

heard-goes : (size room : ℕ) (turn : Turn) (place : Place) → 0 < size → HasDirectory turn →
    GoesOn size room turn place → GoesOn size room turn (hear_directory place)
heard-goes size room turn place some has g = record {
  on = heard-on size turn place some has g.on;
  room_is = heard-same place ∙ g.room_is;
  rest = rest-heard size turn place some has g.on g.rest;
}

followed-same : (turn : Turn) (place : Place) → (follow turn place).room ≡ place.room
unfolding follow
followed-same turn place = refl

follow-goes : (size room : ℕ) (old turn : Turn) (place : Place) → 0 < size → HasBodies old →
    HasBodies turn → IsOneChange old.bodies turn.bodies → GoesOn size room old place →
    GoesOn size room turn (follow turn place)
follow-goes size room old turn place some was is change g =
    let followable : IsFollowable old turn = record { change = change; distinct = was.distinct } in
    let here : 0 < place.segment_size = subst (λ (n : ℕ). 0 < n) (sym g.on.size_is) some in
    let c : Change = change_between place.turn.bodies turn.bodies in
    let next = (changes-come-next place turn here is.directory).rest in
    let early : Bool = goes_early c place in
    let made = renews size old.bodies turn.bodies early g.rest.0 (rest_of place) some change
    was.distinct was.some g.rest.1 in
    let same : rest_after (change_between old.bodies turn.bodies) early
    (fresh_segments size (change_between old.bodies turn.bodies)) (rest_of place)
    ≡ rest_of (follow turn place) =
    ap (λ (t : Turn). rest_after (change_between t.bodies turn.bodies) early
    (fresh_segments size (change_between t.bodies turn.bodies)) (rest_of place)) (sym g.on.turn_is)
    ∙ ap (λ (n : ℕ). rest_after c early (fresh_segments n c) (rest_of place)) (sym g.on.size_is)
    ∙ sym next in
    record {
      on = followed-on size old turn place some is.directory followable g.on;
      room_is = followed-same turn place ∙ g.room_is;
      rest = (
        made.0,
        made.1 ∙ ap (λ (ss : List Segment). made.0 ++ ss) same,
      );
    }

-- behind steps
steps-go : (size room : ℕ) (turn : Turn) (steps : List Step) (place : Place) (sents : List Sent)
    (new : Place) → 0 < size → HasBodies turn → GoesOn size room turn place →
    AreFollowed turn steps → sent_by place steps ≡ Some (sents, new) →
    GoesOn size room (turn_behind turn steps) new × HasBodies (turn_behind turn steps)
unfolding sent_by
steps-go size room turn [] place sents new some is g f h =
    (subst (GoesOn size room turn) (some_pair_parts [] sents place new h).1 g, is)
steps-go size room turn (Request ∷ steps) place sents new some is g f h =
    let q : FirstRequest place steps sents new = first_request place steps sents new h in
    steps-go size room turn steps q.first.place q.others new some is
    (sent-goes size room turn place q.first some g q.asked) f q.rest
steps-go size room turn (NewTurn t ∷ steps) place sents new some is g f h = absurd f
steps-go size room turn (Directory ∷ steps) place sents new some is g f h =
    steps-go size room turn steps (hear_directory place) sents new some is
    (heard-goes size room turn place some is.directory g) f h
steps-go size room turn (Follow t ∷ steps) place sents new some is g f h =
    steps-go size room t steps (follow t place) sents new some f.0
    (follow-goes size room turn t place some is f.0 f.1 g) f.2 h

-- ---- what steps add

heard-adds : (room : ℕ) (place : Place) → 0 < place.segment_size → HasDirectory place.turn →
    left_all room (hear_directory place) ≤ left_all room place
    + packets_for room (directory_segments place.turn place.segment_size)
unfolding hear_directory
heard-adds room place some has =
    heard-cases
    (heard-left place place.under_way place.waiting (is_empty place.waiting) refl some has)
  where
    directory : List Segment
    directory = directory_segments place.turn place.segment_size

    heard-cases : (left_of (hear_directory place) ≡ left_of place)
        ⊎ (left_of (hear_directory place) ≡ directory ++ of_bodies (left_of place)) →
        group_left room place.under_way + packets_for room (left_of (hear_directory place))
        ≤ left_all room place + packets_for room directory
    heard-cases (inl e) = omega (arith, ap (packets_for room) e)
    heard-cases (inr e) =
        omega (
          arith,
          ap (packets_for room) e,
          packets-append room directory (of_bodies (left_of place)),
          packets-bodies room (left_of place),
        )

follow-adds : (room : ℕ) (turn : Turn) (place : Place) (done : List Segment) →
    0 < place.segment_size → HasDirectory turn → IsOneChange place.turn.bodies turn.bodies →
    is_distinct (map (λ (b : Pair). b.0) place.turn.bodies) ≡ true →
    segments_of_bodies place.segment_size place.turn.bodies ≡ done ++ rest_of place →
    left_all room (follow turn place) ≤ left_all room place
    + packets_for room (directory_segments turn place.segment_size)
    + 2 * packets_for room
    (fresh_segments place.segment_size (change_between place.turn.bodies turn.bodies))
unfolding follow
follow-adds room turn place done some has change distinct e =
    let c : Change = change_between place.turn.bodies turn.bodies in
    let directory : List Segment = directory_segments turn place.segment_size in
    let early : List Segment = early_after c place in
    let fresh : List Segment = fresh_segments place.segment_size c in
    omega (
      arith,
      ap (packets_for room) (followed-left c turn place some has),
      packets-append room (directory ++ early) (renewed c place),
      packets-append room directory early,
      packets-append room (that_stay c (early_of place))
          (if goes_early c place then fresh else []),
      if-fewer room fresh (goes_early c place),
      stay-fewer room c (early_of place),
      keeps-rest room place.segment_size place.turn.bodies turn.bodies (goes_early c place) done
          (rest_of place) change distinct e,
      packets-append room (early_of place) (rest_of place),
      ap (packets_for room) (take-append-drop place.early (of_bodies (left_of place))),
      packets-bodies room (left_of place),
    )

ends-soon : (size room : ℕ) (turn : Turn) (steps : List Step) (place : Place) (sents : List Sent)
    (new : Place) → 0 < size → HasBodies turn → GoesOn size room turn place →
    AreFollowed turn steps → sent_by place steps ≡ Some (sents, new) → none_ends sents ≡ true →
    length sents ≤ left_all room place + added_packets room size turn steps
unfolding sent_by
ends-soon size room turn [] place sents new some is g f h none =
    omega (arith, ap length (some_pair_parts [] sents place new h).0)
ends-soon size room turn (Request ∷ steps) place sents new some is g f h none =
    let q : FirstRequest place steps sents new = first_request place steps sents new h in
    let parts = and_parts (not q.first.ends_turn) (none_ends q.others)
    (ap none_ends (sym q.all) ∙ none) in
    let less : suc (left_all room q.first.place) ≡ left_all room place =
    subst (λ (n : ℕ). suc (left_all n q.first.place) ≡ left_all n place) g.room_is
    (next-less size place place.under_way q.first g.on.room g.on.inside
    (asked-next place q.first q.asked) (not-true q.first.ends_turn parts.0)) in
    omega (
      arith,
      ap length q.all,
      less,
      ends-soon size room turn steps q.first.place q.others new some is
          (sent-goes size room turn place q.first some g q.asked) f q.rest parts.1,
    )
ends-soon size room turn (NewTurn t ∷ steps) place sents new some is g f h none = absurd f
ends-soon size room turn (Directory ∷ steps) place sents new some is g f h none =
    let adds : left_all room (hear_directory place) ≤ left_all room place
    + packets_for room (directory_segments turn size) =
    subst (λ (n : ℕ). left_all room (hear_directory place) ≤ left_all room place
    + packets_for room (directory_segments turn n)) g.on.size_is
    (subst (λ (t : Turn). left_all room (hear_directory place) ≤ left_all room place
    + packets_for room (directory_segments t place.segment_size)) g.on.turn_is
    (heard-adds room place (subst (λ (n : ℕ). 0 < n) (sym g.on.size_is) some)
    (subst HasDirectory (sym g.on.turn_is) is.directory))) in
    omega (
      arith,
      adds,
      packets-are room (directory_segments turn size),
      ends-soon size room turn steps (hear_directory place) sents new some is
          (heard-goes size room turn place some is.directory g) f h none,
    )
ends-soon size room turn (Follow t ∷ steps) place sents new some is g f h none =
    let here : 0 < place.segment_size = subst (λ (n : ℕ). 0 < n) (sym g.on.size_is) some in
    let end : segments_of_bodies place.segment_size place.turn.bodies
    ≡ g.rest.0 ++ rest_of place =
    ap (λ (n : ℕ). segments_of_bodies n place.turn.bodies) g.on.size_is
    ∙ ap (λ (x : Turn). segments_of_bodies size x.bodies) g.on.turn_is ∙ g.rest.1 in
    let adds : left_all room (follow t place) ≤ left_all room place
    + packets_for room (directory_segments t size)
    + 2 * packets_for room (fresh_segments size (change_between turn.bodies t.bodies)) =
    subst (λ (n : ℕ). left_all room (follow t place) ≤ left_all room place
    + packets_for room (directory_segments t n)
    + 2 * packets_for room (fresh_segments n (change_between turn.bodies t.bodies))) g.on.size_is
    (subst (λ (x : Turn). left_all room (follow t place) ≤ left_all room place
    + packets_for room (directory_segments t place.segment_size) + 2 * packets_for room
    (fresh_segments place.segment_size (change_between x.bodies t.bodies))) g.on.turn_is
    (follow-adds room t place g.rest.0 here f.0.directory
    (subst (λ (x : Turn). IsOneChange x.bodies t.bodies) (sym g.on.turn_is) f.1)
    (subst (λ (x : Turn). is_distinct (map (λ (b : Pair). b.0) x.bodies) ≡ true)
    (sym g.on.turn_is) is.distinct) end)) in
    omega (
      arith,
      adds,
      packets-are room (directory_segments t size),
      packets-are room (fresh_segments size (change_between turn.bodies t.bodies)),
      ends-soon size room t steps (follow t place) sents new some f.0
          (follow-goes size room turn t place some is f.0 f.1 g) f.2 h none,
    )

-- what is left is to be sent
left-fewer : (room : ℕ) (place : Place) (u : Option UnderWay) →
    packets_for room (left_with place u) ≤ packets_for room (to_send place)
left-fewer room place None = omega arith
left-fewer room place (Some u) =
    waits-cases place.waiting (segments_of_turn place.turn place.segment_size)
  where
    waits-cases : (waiting whole : List Segment) →
        packets_for room waiting ≤ packets_for room (if is_empty waiting then whole else waiting)
    waits-cases [] whole = omega (arith, packets-nil room)
    waits-cases (t ∷ waiting) whole = omega arith

pub turns_end_soon : TurnsEndSoon
turns_end_soon address room size most cursor newest_first first before during earlier sents place new
    some large is followed came later happens none =
    let start : Place = start_place address room size first cursor (Some most) newest_first in
    let at = steps-go size room first before start earlier place large is
    (start-goes address room size most cursor newest_first first some large is.directory) followed
    came in
    let turn : Turn = turn_behind first before in
    let on : IsOnAir size turn place = at.0.on in
    let long : longest_group place ≡ div_ceil (size + 11) room =
    ap (λ (n : ℕ). div_ceil (n + 11) place.room) on.size_is
    ∙ ap (λ (n : ℕ). div_ceil (size + 11) n) at.0.room_is in
    let few : group_left room place.under_way < div_ceil (size + 11) room =
    subst (λ (n : ℕ). group_left n place.under_way < div_ceil (size + 11) n) at.0.room_is
    (group-fewer place.room size place.under_way on.room on.inside) in
    let sends : packets_for room (to_send place) ≡ left_packets place =
    ap (λ (n : ℕ). packets_for n (to_send place)) (sym at.0.room_is)
    ∙ packets-are place.room (to_send place) in
    omega (
      arith,
      ends-soon size room turn during place sents new large at.1 at.0 later happens none,
      long,
      few,
      sends,
      left-fewer room place place.under_way,
    )
