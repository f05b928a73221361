-- What a receiver gathers that begins to listen at any packet of a turn: whole groups, each with a
-- segment of the turn.
use Rattle.std.proofs.Common.{◌≡◌, ℕ, ◌+◌, ◌<◌, ◌≤◌, List, [], ◌∷◌, ◌++◌, Bool, true, false}
use Rattle.std.proofs.Common.{Option, Some, None, ◌⊎◌, inl, inr, refl, sym, subst, map, length}
use Rattle.std.proofs.Common.{ap, ◌∙◌, arith, drop, take, append-nil}
use Rattle.std.proofs.lemmas.Bool.{ne_eqb}
use Rattle.std.proofs.lemmas.List.{length-append, length-map}
use Rattle.std.proofs.lemmas.Option.{none-some, same_Some, some_pair_parts}
use Rattle.std.proofs.lemmas.List.Elements.{All-head, All-tail}
use Rattle.std.specs.Prelude.{◌==◌, All, IfSome, if◌then◌else◌}
use Rattle.std.specs.List.{AllByRecursion}
use Rattle.mot_groups.specs.Entity.{numbered_segments, pieces, segments_of}
use Rattle.mot_groups.specs.Group.{GroupFields, Segment, IsGroup, bytes_of_group}
use Rattle.mot_groups.proofs.Laws.{IsCut-pieces, length-bytes_of_group}
use Rattle.mot_numbers.specs.Reading.{is_empty}
use Rattle.mot_packets.specs.Cut.{piece_at}
use Rattle.mot_packets.specs.Gather.{groups_after}
use Rattle.mot_packets.specs.Packet.{PacketFields}
use Rattle.mot_packets.proofs.Laws.{groups_after-last_piece, groups_after-piece, more_left}
use Rattle.mot_listening.specs.Listening.{from_first}
use Rattle.mot_player.specs.Place.{Place, Sent, Step, Request, NewTurn, Directory, Follow, UnderWay}
use Rattle.mot_player.specs.Place.{directory_segments, first_sent, group_for, hear_directory}
use Rattle.mot_player.specs.Place.{left_of, left_with, next_sent, of_bodies, opened_place}
use Rattle.mot_player.specs.Place.{packet_sent, request, sent_by, to_send, with_begun}
use Rattle.mot_player.specs.Staying.{HasDirectory, begun_with}
use Rattle.mot_player.specs.Turn.{Turn, segments_of_bodies, segments_of_turn}
use Rattle.mot_player.proofs.Laws.{FirstRequest, IsFit, IsHad, KeepsIndexes, all-append, all-front}
use Rattle.mot_player.proofs.Laws.{begun-keeps, first_request, front_of, group-index_fits, group_of}
use Rattle.mot_player.proofs.Laws.{had-all, heard-left, is_group, keep_turn, packets_of}
use Rattle.mot_player.proofs.Laws.{some_bytes-group}
use Rattle.mot_listening.proofs.Collected.{all-filter, had-holds}
use Rattle.mot_listening.proofs.Counts.{front-all, front-append, front-bodies, front-nil}
use Rattle.mot_listening.proofs.Counts.{front-rest, front-turn, front_for, packets_for}

-- of a group under way a packet was sent, and not all; and it has a segment of this size at most
abbrev pub IsInside : (room size : ℕ) → Option UnderWay → Type 0
IsInside room size u = IfSome u (λ (u : UnderWay).
    (room ≤ u.sent) × (u.sent < length u.group) × (length u.group ≤ size + 11))

-- segments of a turn
abbrev pub AreOfTurn : ℕ → Turn → List Segment → Type 0
AreOfTurn size turn segments = AllByRecursion (IsHad (segments_of_turn turn size)) segments

-- of no body waits more than a directory
abbrev pub IsFew : ℕ → Turn → (room : ℕ) → List Segment → Type 0
IsFew size turn room waiting =
    front_for room waiting ≤ packets_for room (directory_segments turn size)

-- A place of a turn: all that is left behind the group under way is of the turn.
pub record IsOnAir (size : ℕ) (turn : Turn) (place : Place) : Type 0 where
  pub room : 0 < place.room
  pub size_is : place.segment_size ≡ size
  pub turn_is : place.turn ≡ turn
  pub keeps : KeepsIndexes place
  pub inside : IsInside place.room size place.under_way
  pub left : AreOfTurn size turn (left_of place)
  pub few : IsFew size turn place.room place.waiting

-- ---- it stays so

to_send-cases : (size : ℕ) (turn : Turn) (segments whole : List Segment) (b : Bool) →
    whole ≡ segments_of_turn turn size → AreOfTurn size turn segments →
    AreOfTurn size turn (if b then whole else segments)
to_send-cases size turn segments whole true e of_turn =
    subst (AreOfTurn size turn) (sym e) (had-all (segments_of_turn turn size))
to_send-cases size turn segments whole false e of_turn = of_turn

pub left-on : (size : ℕ) (turn : Turn) (place : Place) (u : Option UnderWay) →
    place.segment_size ≡ size → place.turn ≡ turn → AreOfTurn size turn place.waiting →
    AreOfTurn size turn (left_with place u)
left-on size turn place None s t of_turn =
    to_send-cases size turn place.waiting (segments_of_turn place.turn place.segment_size)
    (is_empty place.waiting)
    (ap (λ (n : ℕ). segments_of_turn place.turn n) s ∙ ap (λ (t : Turn). segments_of_turn t size) t)
    of_turn
left-on size turn place (Some u) s t of_turn = of_turn

pub opened-on : (address room size : ℕ) (turn : Turn) (follows : Option ℕ) → 0 < room →
    IsOnAir size turn (record (opened_place address room size turn) { follows = follows })
opened-on address room size turn follows some = record {
  room = some;
  size_is = refl;
  turn_is = refl;
  keeps = record { directory = tt; body = tt };
  inside = tt;
  left = had-all (segments_of_turn turn size);
  few = omega (arith, front-nil room);
}

inside-cases : (room address index at size : ℕ) (group : List ℕ) (last : Bool) →
    length group ≤ size + 11 → (piece_at room address index group at).last ≡ last →
    IsInside room size (if last then None else Some (record { group = group; sent = at + room }))
inside-cases room address index at size group true long e = tt
inside-cases room address index at size group false long e =
    (omega arith, more_left room address index at group e, long)

-- no segment of a turn is longer than the segment size
short-numbered : (size kind tid n : ℕ) (ps : List (List ℕ)) → All (λ p. length p ≤ size) ps →
    AllByRecursion (λ (s : Segment). length s.bytes ≤ size) (numbered_segments kind tid n ps)
short-numbered size kind tid n [] short = tt
short-numbered size kind tid n (p ∷ ps) short = (
  All-head (λ p. length p ≤ size) p ps short,
  short-numbered size kind tid (n + 1) ps (All-tail (λ p. length p ≤ size) p ps short),
)

short-bodies : (size : ℕ) (bodies : List (ℕ × List ℕ)) → 0 < size →
    AllByRecursion (λ (s : Segment). length s.bytes ≤ size) (segments_of_bodies size bodies)
short-bodies size [] some = tt
short-bodies size (b ∷ bodies) some =
    all-append (λ (s : Segment). length s.bytes ≤ size) (segments_of 4 b.0 size b.1)
    (segments_of_bodies size bodies)
    (short-numbered size 4 b.0 0 (pieces size b.1) (IsCut-pieces size b.1 some).none_longer)
    (short-bodies size bodies some)

pub short-turn : (size : ℕ) (turn : Turn) → 0 < size →
    AllByRecursion (λ (s : Segment). length s.bytes ≤ size) (segments_of_turn turn size)
short-turn size turn some =
    all-append (λ (s : Segment). length s.bytes ≤ size) (directory_segments turn size)
    (segments_of_bodies size turn.bodies)
    (short-numbered size 6 turn.tid 0 (pieces size turn.directory)
    (IsCut-pieces size turn.directory some).none_longer)
    (short-bodies size turn.bodies some)

-- behind a packet
packet-on : (size : ℕ) (turn : Turn) (place : Place) (group : List ℕ) (at : ℕ) → 0 < place.room →
    length group ≤ size + 11 → place.segment_size ≡ size → place.turn ≡ turn →
    KeepsIndexes place → AreOfTurn size turn place.waiting →
    IsFew size turn place.room place.waiting →
    IsOnAir size turn (packet_sent place group at).place
packet-on size turn place group at some long s t keeps of_turn few =
    let sent : Sent = packet_sent place group at in record {
      room = some;
      size_is = s;
      turn_is = t;
      keeps = record { directory = keeps.directory; body = keeps.body };
      inside = inside-cases place.room place.address place.index at size group sent.packet.last
          long refl;
      left = left-on size turn sent.place sent.place.under_way s t of_turn;
      few = few;
    }

first-on : (size : ℕ) (turn : Turn) (place : Place) (segments : List Segment) (s : Sent) →
    0 < size → IsOnAir size turn place → AreOfTurn size turn segments →
    IsFew size turn place.room segments → first_sent place segments ≡ Some s →
    IsOnAir size turn s.place
first-on size turn place [] s some on of_turn few e = absurd (none-some s e)
first-on size turn place (t ∷ segments) s some on of_turn few e =
    let g : GroupFields = group_for place t in
    let begun : Place = with_begun place g segments in
    let short : length t.bytes ≤ size =
    had-holds (λ (s : Segment). length s.bytes ≤ size) (segments_of_turn turn size) t
    (short-turn size turn some) of_turn.0 in
    subst (λ (x : Sent). IsOnAir size turn x.place)
    (same_Some (packet_sent begun (bytes_of_group g) 0) s e)
    (packet-on size turn begun (bytes_of_group g) 0 on.room
    (omega (arith, short, length-bytes_of_group g)) on.size_is on.turn_is
    (begun-keeps place t segments on.keeps) of_turn.1
    (omega (arith, few, front-rest place.room t segments)))

-- so it is of what is to be sent
few-cases : (size : ℕ) (turn : Turn) (room : ℕ) (waiting whole : List Segment) →
    whole ≡ segments_of_turn turn size → IsFew size turn room waiting →
    IsFew size turn room (if is_empty waiting then whole else waiting)
few-cases size turn room [] whole e few =
    subst (IsFew size turn room) (sym e) (front-turn room size turn)
few-cases size turn room (t ∷ waiting) whole e few = few

pub few-to_send : (size : ℕ) (turn : Turn) (place : Place) → IsOnAir size turn place →
    IsFew size turn place.room (to_send place)
few-to_send size turn place on =
    few-cases size turn place.room place.waiting
    (segments_of_turn place.turn place.segment_size)
    (ap (λ (n : ℕ). segments_of_turn place.turn n) on.size_is
    ∙ ap (λ (t : Turn). segments_of_turn t size) on.turn_is) on.few

next-on : (size : ℕ) (turn : Turn) (place : Place) (u : Option UnderWay) (s : Sent) → 0 < size →
    IsOnAir size turn place → IsInside place.room size u →
    AreOfTurn size turn (left_with place u) → next_sent place u ≡ Some s →
    IsOnAir size turn s.place
next-on size turn place None s some on inside of_turn e =
    first-on size turn place (to_send place) s some on of_turn (few-to_send size turn place on) e
next-on size turn place (Some u) s some on inside of_turn e =
    subst (λ (x : Sent). IsOnAir size turn x.place)
    (same_Some (packet_sent place u.group u.sent) s e)
    (packet-on size turn place u.group u.sent on.room inside.2 on.size_is on.turn_is on.keeps
    of_turn on.few)

pub sent-on : (size : ℕ) (turn : Turn) (place : Place) (s : Sent) → 0 < size →
    IsOnAir size turn place → request place ≡ Some s → IsOnAir size turn s.place
unfolding request
sent-on size turn place s some on e =
    next-on size turn place place.under_way s some on on.inside on.left e

-- behind a directory that is asked for
pub heard-on : (size : ℕ) (turn : Turn) (place : Place) → 0 < size → HasDirectory turn →
    IsOnAir size turn place → IsOnAir size turn (hear_directory place)
unfolding hear_directory
heard-on size turn place some has on = record {
  room = on.room;
  size_is = on.size_is;
  turn_is = on.turn_is;
  keeps = record { directory = on.keeps.directory; body = on.keeps.body };
  inside = on.inside;
  left = heard-cases (heard-left place place.under_way place.waiting (is_empty place.waiting) refl
      (subst (λ (n : ℕ). 0 < n) (sym on.size_is) some)
      (subst HasDirectory (sym on.turn_is) has));
  few = again-cases (is_empty place.waiting);
}
  where
    directory : List Segment
    directory = directory_segments place.turn place.segment_size

    again-cases : (b : Bool) → IsFew size turn place.room
        (if b then [] else directory ++ of_bodies place.waiting)
    again-cases true = omega (arith, front-nil place.room)
    again-cases false =
        let same : directory ≡ directory_segments turn size =
        ap (λ (n : ℕ). directory_segments place.turn n) on.size_is
        ∙ ap (λ (t : Turn). directory_segments t size) on.turn_is in
        omega (
          arith,
          front-append place.room directory (of_bodies place.waiting),
          front-bodies place.room place.waiting,
          front-all place.room directory,
          ap (packets_for place.room) same,
        )

    directory-of : AreOfTurn size turn directory
    directory-of =
        subst (λ (t : Turn). AreOfTurn size turn (directory_segments t place.segment_size))
        (sym on.turn_is)
        (subst (λ (n : ℕ). AreOfTurn size turn (directory_segments turn n)) (sym on.size_is)
        (all-front (IsHad (segments_of_turn turn size)) (directory_segments turn size)
        (segments_of_bodies size turn.bodies) (had-all (segments_of_turn turn size))))

    heard-cases : (left_of (hear_directory place) ≡ left_of place)
        ⊎ (left_of (hear_directory place) ≡ directory ++ of_bodies (left_of place)) →
        AreOfTurn size turn (left_of (hear_directory place))
    heard-cases (inl e) = subst (AreOfTurn size turn) (sym e) on.left
    heard-cases (inr e) =
        subst (AreOfTurn size turn) (sym e)
        (all-append (IsHad (segments_of_turn turn size)) directory (of_bodies (left_of place))
        directory-of
        (all-filter (IsHad (segments_of_turn turn size)) (λ (s : Segment). s.kind == 4)
        (left_of place) on.left))

-- ---- whole groups

abbrev pub segments_in : List GroupFields → List Segment
segments_in groups = map (λ (g : GroupFields). g.segment) groups

-- What packets carry behind the front of one group: the groups that were begun are those that are
-- whole, and the one that is under way then.
pub record Carries (size : ℕ) (turn : Turn) (u : Option UnderWay) (packets : List PacketFields)
    (new : Place) (began : List Segment) : Type 0 where
  pub groups : List (List ℕ)
  pub fields : List GroupFields
  pub gathered : groups_after (front_of u) packets ≡ Some (groups, front_of new.under_way)
  pub are : group_of u ++ map bytes_of_group fields ≡ groups ++ group_of new.under_way
  pub are_groups : AllByRecursion IsGroup fields
  pub of_turn : AreOfTurn size turn (segments_in fields)
  pub carry : segments_in fields ≡ began

pub carries-none : (size : ℕ) (turn : Turn) (place : Place) →
    Carries size turn place.under_way [] place []
unfolding groups_after
carries-none size turn place = record {
  groups = [];
  fields = [];
  gathered = refl;
  are = append-nil (group_of place.under_way);
  are_groups = tt;
  of_turn = tt;
  carry = refl;
}

-- one more packet of a group in front
packet-carries : (size : ℕ) (turn : Turn) (place new : Place) (group : List ℕ) (at : ℕ)
    (packets : List PacketFields) (began : List Segment) (last : Bool) → 0 < place.room →
    at < length group →
    (piece_at place.room place.address place.index group at).last ≡ last →
    Carries size turn
    (if last then None else Some (record { group = group; sent = at + place.room })) packets new
    began → Carries size turn (Some (record { group = group; sent = at }))
    (piece_at place.room place.address place.index group at ∷ packets) new began
packet-carries size turn place new group at packets began true some l e rest = record {
  groups = group ∷ rest.groups;
  fields = rest.fields;
  gathered = groups_after-last_piece place.room place.address place.index at group packets
      rest.groups (front_of new.under_way) some l e rest.gathered;
  are = ap (λ (gs : List (List ℕ)). group ∷ gs) rest.are;
  are_groups = rest.are_groups;
  of_turn = rest.of_turn;
  carry = rest.carry;
}
packet-carries size turn place new group at packets began false some l e rest = record {
  groups = rest.groups;
  fields = rest.fields;
  gathered = groups_after-piece place.room place.address place.index at group packets
      rest.groups (front_of new.under_way) some l e rest.gathered;
  are = rest.are;
  are_groups = rest.are_groups;
  of_turn = rest.of_turn;
  carry = rest.carry;
}

first-carries : (size : ℕ) (turn : Turn) → AllByRecursion IsFit (segments_of_turn turn size) →
    (place new : Place) (segments : List Segment) (s : Sent) (packets : List PacketFields)
    (began : List Segment) → IsOnAir size turn place → AreOfTurn size turn segments →
    first_sent place segments ≡ Some s → Carries size turn s.place.under_way packets new began →
    Carries size turn None (s.packet ∷ packets) new (take 1 segments ++ began)
first-carries size turn fit place new [] s packets began on of_turn e rest =
    absurd (none-some s e)
first-carries size turn fit place new (t ∷ segments) s packets began on of_turn e rest =
    let g : GroupFields = group_for place t in
    let begun : Place = with_begun place g segments in
    let first : Sent = packet_sent begun (bytes_of_group g) 0 in
    let same : first ≡ s = same_Some first s e in
    let all : Carries size turn (Some (record { group = bytes_of_group g; sent = 0 }))
    (first.packet ∷ packets) new began =
    packet-carries size turn begun new (bytes_of_group g) 0 packets began first.packet.last on.room
    (some_bytes-group g) refl
    (subst (λ (x : Sent). Carries size turn x.place.under_way packets new began) (sym same) rest)
    in
    subst (λ (x : Sent). Carries size turn None (x.packet ∷ packets) new (t ∷ began)) same (record {
      groups = all.groups;
      fields = g ∷ all.fields;
      gathered = all.gathered;
      are = all.are;
      are_groups = (
        is_group g.index t (group-index_fits place t on.keeps)
            (had-holds IsFit (segments_of_turn turn size) t fit of_turn.0),
        all.are_groups,
      );
      of_turn = (of_turn.0, all.of_turn);
      carry = ap (λ (ss : List Segment). t ∷ ss) all.carry;
    })

pub next-carries : (size : ℕ) (turn : Turn) → AllByRecursion IsFit (segments_of_turn turn size) →
    (place new : Place) (u : Option UnderWay) (s : Sent) (packets : List PacketFields)
    (began : List Segment) → IsOnAir size turn place → IsInside place.room size u →
    AreOfTurn size turn (left_with place u) → next_sent place u ≡ Some s →
    Carries size turn s.place.under_way packets new began →
    Carries size turn u (s.packet ∷ packets) new (begun_with place u ++ began)
next-carries size turn fit place new None s packets began on inside of_turn e rest =
    first-carries size turn fit place new (to_send place) s packets began on of_turn e rest
next-carries size turn fit place new (Some u) s packets began on inside of_turn e rest =
    let first : Sent = packet_sent place u.group u.sent in
    let same : first ≡ s = same_Some first s e in
    subst (λ (x : Sent). Carries size turn (Some u) (x.packet ∷ packets) new began) same
    (packet-carries size turn place new u.group u.sent packets began first.packet.last on.room
    inside.1 refl
    (subst (λ (x : Sent). Carries size turn x.place.under_way packets new began) (sym same) rest))

-- what is heard from a first packet on is heard from there on
pub next-begins : (place : Place) (u : Option UnderWay) (s : Sent) (packets : List PacketFields) →
    u ≡ None → next_sent place u ≡ Some s →
    from_first (s.packet ∷ packets) ≡ s.packet ∷ packets
next-begins place None s packets none e = begins-cases (to_send place) e
  where
    begins-cases : (segments : List Segment) → first_sent place segments ≡ Some s →
        from_first (s.packet ∷ packets) ≡ s.packet ∷ packets
    begins-cases [] f = absurd (none-some s f)
    begins-cases (t ∷ segments) f =
        let g : GroupFields = group_for place t in
        let first : Sent = packet_sent (with_begun place g segments) (bytes_of_group g) 0 in
        subst (λ (x : Sent). from_first (x.packet ∷ packets) ≡ x.packet ∷ packets)
        (same_Some first s f) refl
next-begins place (Some u) s packets none e =
    absurd (none-some u (sym none))

-- and any other packet is dropped
next-dropped : (place : Place) (u : UnderWay) (s : Sent) (packets : List PacketFields) →
    0 < u.sent → next_sent place (Some u) ≡ Some s →
    from_first (s.packet ∷ packets) ≡ from_first packets
next-dropped place u s packets some e =
    let first : Sent = packet_sent place u.group u.sent in
    subst (λ (x : Sent). from_first (x.packet ∷ packets) ≡ from_first packets)
    (same_Some first s e) (rw (ne_eqb u.sent 0 (λ z. omega (arith, some, z))) refl)

-- the front of what was mapped is what the front was mapped to
record IsFront (fields : List GroupFields) (groups : List (List ℕ)) : Type 0 where
  whole : List GroupFields
  more : List GroupFields
  all : fields ≡ whole ++ more
  are : groups ≡ map bytes_of_group whole

abbrev head_or : List (List ℕ) → List ℕ
head_or [] = []
head_or (x ∷ xs) = x

front-map : (fields : List GroupFields) (groups more : List (List ℕ)) →
    map bytes_of_group fields ≡ groups ++ more → IsFront fields groups
front-map fields [] more e = record { whole = []; more = fields; all = refl; are = refl }
front-map [] (g ∷ groups) more e = absurd (omega (arith, ap length e))
front-map (f ∷ fields) (g ∷ groups) more e =
    let rest = front-map fields groups more (ap (drop 1) e) in record {
      whole = f ∷ rest.whole;
      more = rest.more;
      all = ap (λ (fs : List GroupFields). f ∷ fs) rest.all;
      are = ap (λ (x : List ℕ). x ∷ groups) (sym (ap head_or e))
          ∙ ap (λ (gs : List (List ℕ)). bytes_of_group f ∷ gs) rest.are;
    }

-- where all is mapped, the front is all
ended-front : (fields : List GroupFields) (groups : List (List ℕ)) (whole more : List GroupFields) →
    fields ≡ whole ++ more → groups ≡ map bytes_of_group whole →
    map bytes_of_group fields ≡ groups → fields ≡ whole
ended-front fields groups whole [] a b e = a ∙ append-nil whole
ended-front fields groups whole (g ∷ more) a b e =
    let one : length fields ≡ length whole + length (g ∷ more) =
    ap length a ∙ length-append whole (g ∷ more) in
    let two : length fields ≡ length whole =
    sym (length-map fields bytes_of_group) ∙ ap length (e ∙ b)
    ∙ length-map whole bytes_of_group in
    absurd (omega (arith, one, two))

groups-front : (xs ys : List GroupFields) → AllByRecursion IsGroup (xs ++ ys) →
    AllByRecursion IsGroup xs
groups-front [] ys p = tt
groups-front (x ∷ xs) ys p = (p.0, groups-front xs ys p.1)

of-front : (P : Segment → Type 0) (xs ys : List GroupFields) →
    AllByRecursion P (segments_in (xs ++ ys)) → AllByRecursion P (segments_in xs)
of-front P [] ys p = tt
of-front P (x ∷ xs) ys p = (p.0, of-front P xs ys p.1)

-- What a receiver has of packets from any one on: whole groups, each of a segment of the turn; and
-- nothing else where no group is under way then.
pub record Listens (size : ℕ) (turn : Turn) (packets : List PacketFields) (new : Place)
    (began : List Segment) : Type 0 where
  pub whole : List GroupFields
  pub rest : List ℕ
  pub gathered : groups_after [] (from_first packets) ≡ Some (map bytes_of_group whole, rest)
  pub ended : new.under_way ≡ None → rest ≡ []
  pub are_groups : AllByRecursion IsGroup whole
  pub of_turn : AreOfTurn size turn (segments_in whole)
  pub all_began : new.under_way ≡ None → segments_in whole ≡ began

carries-listens : (size : ℕ) (turn : Turn) (packets : List PacketFields) (new : Place)
    (began : List Segment) → from_first packets ≡ packets →
    Carries size turn None packets new began → Listens size turn packets new began
carries-listens size turn packets new began begins c =
    let front = front-map c.fields c.groups (group_of new.under_way) c.are in record {
      whole = front.whole;
      rest = front_of new.under_way;
      gathered = ap (groups_after []) begins ∙ c.gathered
          ∙ ap (λ (gs : List (List ℕ)). Some (gs, front_of new.under_way)) front.are;
      ended = λ e. ap front_of e;
      are_groups = groups-front front.whole front.more
          (subst (AllByRecursion IsGroup) front.all c.are_groups);
      of_turn = of-front (IsHad (segments_of_turn turn size)) front.whole front.more
          (subst (λ (fs : List GroupFields). AreOfTurn size turn (segments_in fs)) front.all
          c.of_turn);
      all_began = λ e. ap segments_in (sym (ended-front c.fields c.groups front.whole front.more
          front.all front.are
          (c.are ∙ ap (λ (u : Option UnderWay). c.groups ++ group_of u) e
          ∙ append-nil c.groups))) ∙ c.carry;
    }

module _ (size : ℕ) (turn : Turn) (some : 0 < size) (has : HasDirectory turn)
    (fit : AllByRecursion IsFit (segments_of_turn turn size)) where
  -- one more packet is dropped, or begins what is heard
  pub listens-next : (place : Place) (u : Option UnderWay) (first : Sent)
      (packets : List PacketFields) (new : Place) (began : List Segment) → 0 < place.room →
      IsInside place.room size u → next_sent place u ≡ Some first →
      Listens size turn packets new began →
      Carries size turn u (first.packet ∷ packets) new (begun_with place u ++ began) →
      Listens size turn (first.packet ∷ packets) new (begun_with place u ++ began)
  listens-next place None first packets new began room inside e rest all =
      carries-listens size turn (first.packet ∷ packets) new (begun_with place None ++ began)
      (next-begins place None first packets refl e) all
  listens-next place (Some u) first packets new began room inside e rest all = record {
    whole = rest.whole;
    rest = rest.rest;
    gathered = ap (groups_after [])
        (next-dropped place u first packets (omega (arith, room, inside.0)) e) ∙ rest.gathered;
    ended = rest.ended;
    are_groups = rest.are_groups;
    of_turn = rest.of_turn;
    all_began = rest.all_began;
  }

  pub listens-none : (place : Place) → Listens size turn [] place []
  unfolding groups_after
  listens-none place = record {
    whole = [];
    rest = [];
    gathered = refl;
    ended = λ e. refl;
    are_groups = tt;
    of_turn = tt;
    all_began = λ e. refl;
  }

  -- What steps carry, what is heard of it from any packet on, and the segments whose groups they
  -- begin.
  pub record Hears (place : Place) (packets : List PacketFields) (new : Place)
      (began : List Segment) : Type 0 where
    pub carries : Carries size turn place.under_way packets new began
    pub listens : Listens size turn packets new began

  -- one more packet in front
  pub hears-next : (place : Place) (first : Sent) (packets : List PacketFields) (new : Place)
      (began : List Segment) → IsOnAir size turn place → request place ≡ Some first →
      Hears first.place packets new began →
      Hears place (first.packet ∷ packets) new (begun_with place place.under_way ++ began)
  unfolding request
  hears-next place first packets new began on e rest =
      let carries = next-carries size turn fit place new place.under_way first packets began on
      on.inside on.left e rest.carries in
      record {
        carries = carries;
        listens = listens-next place place.under_way first packets new began on.room on.inside
            e rest.listens carries;
      }

  -- and where the directory is asked for
  pub hears-heard : (place : Place) (packets : List PacketFields) (new : Place)
      (began : List Segment) → Hears (hear_directory place) packets new began →
      Hears place packets new began
  unfolding hear_directory
  hears-heard place packets new began rest =
      record { carries = rest.carries; listens = rest.listens }

  pub hears-none : (place : Place) → Hears place [] place []
  hears-none place =
      record { carries = carries-none size turn place; listens = listens-none place }

  -- from any packet on
  pub steps-hear : (steps : List Step) (place : Place) (sents : List Sent) (new : Place) →
      IsOnAir size turn place → keep_turn steps ≡ true → sent_by place steps ≡ Some (sents, new) →
      (began : List Segment) × Hears place (packets_of sents) new began
  unfolding sent_by
  steps-hear [] place sents new on keep h =
      let parts = some_pair_parts [] sents place new h in (
        [],
        subst (λ (ss : List Sent). Hears place (packets_of ss) new []) parts.0
            (subst (λ (p : Place). Hears place [] p []) parts.1 (hears-none place)),
      )
  steps-hear (Request ∷ steps) place sents new on keep h =
      let q : FirstRequest place steps sents new = first_request place steps sents new h in
      let rest = steps-hear steps q.first.place q.others new
      (sent-on size turn place q.first some on q.asked) keep q.rest in (
        begun_with place place.under_way ++ rest.0,
        subst (λ (ss : List Sent). Hears place (packets_of ss) new
            (begun_with place place.under_way ++ rest.0)) (sym q.all)
            (hears-next place q.first (packets_of q.others) new rest.0 on q.asked rest.1),
      )
  steps-hear (NewTurn t ∷ steps) place sents new on keep h =
      absurd (let f : false ≡ true = keep in cc)
  steps-hear (Directory ∷ steps) place sents new on keep h =
      let rest = steps-hear steps (hear_directory place) sents new
      (heard-on size turn place some has on) keep h in
      (rest.0, hears-heard place (packets_of sents) new rest.0 rest.1)
  steps-hear (Follow t ∷ steps) place sents new on keep h =
      absurd (let f : false ≡ true = keep in cc)
