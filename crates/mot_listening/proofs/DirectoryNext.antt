-- What comes next is heard whole: after how many packets.
use Rattle.std.proofs.Common.{◌≡◌, ℕ, zero, suc, ◌+◌, ◌*◌, ◌-◌, ◌<◌, ◌≤◌, List, [], ◌∷◌, ◌++◌}
use Rattle.std.proofs.Common.{Bool, true, false, Option, Some, None, inl, inr, refl, sym, subst}
use Rattle.std.proofs.Common.{length}
use Rattle.std.proofs.Common.{ap, ◌∙◌, arith, take, drop, append-nil, append_assoc, eq-eqb}
use Rattle.std.proofs.lemmas.List.Elements.{filter-append}
use Rattle.std.proofs.Math.Nat.{mul-le-mul_right}
use Rattle.std.proofs.lemmas.Bool.{cases_lt}
use Rattle.std.proofs.lemmas.Grind.{div_ceil_times}
use Rattle.std.proofs.lemmas.Option.{none-some, same_Some, some_pair_parts}
use Rattle.std.specs.Prelude.{◌==◌, ◌||◌, if◌then◌else◌}
use Rattle.std.specs.Int.{div_ceil}
use Rattle.std.specs.List.{list_any, AllByRecursion}
use Rattle.mot_groups.specs.Group.{GroupFields, Segment, bytes_of_group}
use Rattle.mot_numbers.specs.Reading.{is_empty}
use Rattle.mot_packets.specs.Cut.{piece_at}
use Rattle.mot_packets.specs.Packet.{PacketFields}
use Rattle.mot_player.specs.Place.{Place, Sent, Step, Request, NewTurn, Directory, Follow, UnderWay}
use Rattle.mot_player.specs.Place.{directory_segments, first_sent, group_for, hear_directory}
use Rattle.mot_player.specs.Place.{next_sent, of_bodies, packet_sent}
use Rattle.mot_player.specs.Place.{request, sent_by}
use Rattle.mot_player.specs.Place.{to_send, with_begun}
use Rattle.mot_player.specs.Repeats.{is_same_segment}
use Rattle.mot_player.specs.Staying.{HasDirectory, begun_with}
use Rattle.mot_player.specs.Turn.{Turn, segments_of_bodies, segments_of_turn}
use Rattle.mot_player.proofs.Laws.{FirstRequest, IsFit, IsHad, all-append, all-behind, all-front}
use Rattle.mot_player.proofs.Laws.{any-front, bodies-bodies, first_request, group-count, had-all}
use Rattle.mot_player.proofs.Laws.{is_empty-append, is_last, is_more, keep_turn}
use Rattle.mot_player.proofs.Laws.{packets_of, same-self, some-directory, some_bytes-group}
use Rattle.mot_listening.proofs.Collected.{all-filter, all-had, had-holds}
use Rattle.mot_listening.proofs.Counts.{packets-append, packets-bodies, packets_for}
use Rattle.mot_listening.proofs.Heard.{Hears, IsInside, IsOnAir, hears-heard, hears-next}
use Rattle.mot_listening.proofs.Heard.{hears-none}
use Rattle.mot_listening.proofs.Heard.{heard-on, sent-on}
use Rattle.mot_listening.proofs.OfTurn.{all-of, any-append, bodies-of_turn, or-right}

-- ---- packets that are left

-- the packets of a group under way that are left
abbrev pub group_left : ℕ → Option UnderWay → ℕ
group_left room None = 0
group_left room (Some u) = div_ceil (length u.group - u.sent) room

pub some-packets : (n room : ℕ) → 0 < room → 0 < n → 0 < div_ceil n room
some-packets n room some more = count-cases (div_ceil n room) (div_ceil_times n room some).0
  where
    count-cases : (k : ℕ) → n ≤ k * room → 0 < k
    count-cases zero l = absurd (omega (arith, l, more))
    count-cases (suc k) l = omega arith

-- of a group under way fewer packets are left than the longest takes
fewer-cases : (a g len room size : ℕ) → a * room < len → len ≤ size → size ≤ g * room → a < g
fewer-cases a g len room size less long enough =
    elim (cases_lt a g) [
      | inl l ↦ l
      | inr more ↦ (let wide : g * room ≤ a * room =
          mul-le-mul_right room (let e : g ≤ a = omega (arith, more) in e) in
          absurd (omega (arith, wide, less, long, enough)))
    ]

pub group-fewer : (room size : ℕ) (u : Option UnderWay) → 0 < room → IsInside room size u →
    group_left room u < div_ceil (size + 11) room
group-fewer room size None some inside = some-packets (size + 11) room some (omega arith)
group-fewer room size (Some u) some inside =
    fewer-cases (div_ceil (length u.group - u.sent) room) (div_ceil (size + 11) room)
    (length u.group) room (size + 11)
    (omega (arith, (div_ceil_times (length u.group - u.sent) room some).1, inside.0, inside.1))
    inside.2 (div_ceil_times (size + 11) room some).0

-- a packet of a group leaves one less
left-cases : (place : Place) (group : List ℕ) (at : ℕ) (last : Bool) → 0 < place.room →
    at < length group →
    (piece_at place.room place.address place.index group at).last ≡ last →
    suc (group_left place.room
    (if last then None else Some (record { group = group; sent = at + place.room })))
    ≡ div_ceil (length group - at) place.room
left-cases place group at true some l e = sym (is_last place group at l e)
left-cases place group at false some l e = sym (is_more place group at some e)

-- a packet, and what is left then
pub record Leaves (room left : ℕ) (waiting : List Segment) (turn : Turn) (size : ℕ) (s : Sent) :
    Type 0 where
  pub room_is : s.place.room ≡ room
  pub left_is : suc (group_left room s.place.under_way) ≡ left
  pub waiting_is : s.place.waiting ≡ waiting
  pub turn_is : s.place.turn ≡ turn
  pub size_is : s.place.segment_size ≡ size

packet-leaves : (place : Place) (group : List ℕ) (at : ℕ) → 0 < place.room → at < length group →
    Leaves place.room (div_ceil (length group - at) place.room) place.waiting place.turn
    place.segment_size (packet_sent place group at)
packet-leaves place group at some l = record {
  room_is = refl;
  left_is = left-cases place group at (packet_sent place group at).packet.last some l refl;
  waiting_is = refl;
  turn_is = refl;
  size_is = refl;
}

pub group-leaves : (place : Place) (u : UnderWay) (s : Sent) → 0 < place.room →
    u.sent < length u.group → next_sent place (Some u) ≡ Some s →
    Leaves place.room (group_left place.room (Some u)) place.waiting place.turn
    place.segment_size s
group-leaves place u s some l e =
    subst (Leaves place.room (group_left place.room (Some u)) place.waiting place.turn
    place.segment_size)
    (same_Some (packet_sent place u.group u.sent) s e)
    (packet-leaves place u.group u.sent some l)

pub first-leaves : (place : Place) (t : Segment) (segments : List Segment) (s : Sent) →
    0 < place.room → first_sent place (t ∷ segments) ≡ Some s →
    Leaves place.room (div_ceil (length t.bytes + 11) place.room) segments place.turn
    place.segment_size s
first-leaves place t segments s some e =
    let g : GroupFields = group_for place t in
    let begun : Place = with_begun place g segments in
    subst (Leaves place.room (div_ceil (length t.bytes + 11) place.room) segments place.turn
    place.segment_size)
    (same_Some (packet_sent begun (bytes_of_group g) 0) s e)
    (subst (λ (n : ℕ). Leaves place.room n segments place.turn place.segment_size
    (packet_sent begun (bytes_of_group g) 0)) (group-count begun g)
    (packet-leaves begun (bytes_of_group g) 0 some (some_bytes-group g)))

-- a request keeps the room
pub asked-next : (place : Place) (s : Sent) → request place ≡ Some s →
    next_sent place place.under_way ≡ Some s
unfolding request
asked-next place s e = e

next-room : (place : Place) (u : Option UnderWay) (s : Sent) → next_sent place u ≡ Some s →
    s.place.room ≡ place.room
next-room place None s e = room-cases (to_send place) e
  where
    room-cases : (segments : List Segment) → first_sent place segments ≡ Some s →
        s.place.room ≡ place.room
    room-cases [] f = absurd (none-some s f)
    room-cases (t ∷ segments) f =
        let g : GroupFields = group_for place t in
        ap (λ (x : Sent). x.place.room)
        (sym (same_Some (packet_sent (with_begun place g segments) (bytes_of_group g) 0) s f))
next-room place (Some u) s e =
    ap (λ (x : Sent). x.place.room) (sym (same_Some (packet_sent place u.group u.sent) s e))

pub room-kept : (place : Place) (s : Sent) → request place ≡ Some s → s.place.room ≡ place.room
room-kept place s e = next-room place place.under_way s (asked-next place s e)

-- ---- segments that come next

-- These come next: they are to be sent, or of the turn behind them.
abbrev pub Comes : List Segment → Place → List Segment → Type 0
Comes whole place after = (others : List Segment) × (to_send place ++ whole ≡ after ++ others)

behind-cases : (whole waiting rest after others : List Segment) → waiting ≡ rest →
    rest ++ whole ≡ after ++ others →
    (more : List Segment) × ((if is_empty waiting then whole else waiting) ++ whole ≡ after ++ more)
behind-cases whole waiting [] after others w e = (
  others ++ whole,
  ap (λ (ws : List Segment). (if is_empty ws then whole else ws) ++ whole) w
      ∙ ap (λ (ss : List Segment). ss ++ whole) e ∙ append_assoc after others whole,
)
behind-cases whole waiting (t ∷ rest) after others w e = (
  others,
  ap (λ (ws : List Segment). (if is_empty ws then whole else ws) ++ whole) w ∙ e,
)

comes-behind : (size : ℕ) (turn : Turn) (place : Place) (rest after others : List Segment) →
    place.turn ≡ turn → place.segment_size ≡ size → place.waiting ≡ rest →
    rest ++ segments_of_turn turn size ≡ after ++ others →
    Comes (segments_of_turn turn size) place after
comes-behind size turn place rest after others t s w e =
    let same : segments_of_turn place.turn place.segment_size ≡ segments_of_turn turn size =
    ap (λ (x : Turn). segments_of_turn x place.segment_size) t
    ∙ ap (λ (n : ℕ). segments_of_turn turn n) s in
    let cases = behind-cases (segments_of_turn turn size) place.waiting rest after others w e in (
      cases.0,
      ap (λ (ss : List Segment). (if is_empty place.waiting then ss else place.waiting)
          ++ segments_of_turn turn size) same ∙ cases.1,
    )

comes-same : (whole : List Segment) (old new : Place) (after : List Segment) →
    new.waiting ≡ old.waiting → new.turn ≡ old.turn → new.segment_size ≡ old.segment_size →
    Comes whole old after → Comes whole new after
comes-same whole old new after w t s (others, e) = (
  others,
  ap (λ (ws : List Segment).
      (if is_empty ws then segments_of_turn new.turn new.segment_size else ws) ++ whole) w
      ∙ ap (λ (x : Turn). (if is_empty old.waiting then segments_of_turn x new.segment_size
      else old.waiting) ++ whole) t
      ∙ ap (λ (n : ℕ). (if is_empty old.waiting then segments_of_turn old.turn n
      else old.waiting) ++ whole) s ∙ e,
)

-- the first of those that come is the first to be sent
record FirstComes (whole after : List Segment) (t : Segment) (place : Place) : Type 0 where
  rest : List Segment
  others : List Segment
  next : to_send place ≡ t ∷ rest
  behind : rest ++ whole ≡ after ++ others

abbrev segment_head : Segment → List Segment → Segment
segment_head d [] = d
segment_head d (x ∷ xs) = x

first-comes : (whole after : List Segment) (t : Segment) (place : Place) (ss : List Segment)
    (s : Sent) → to_send place ≡ ss → first_sent place ss ≡ Some s →
    Comes whole place (t ∷ after) → FirstComes whole after t place
first-comes whole after t place [] s e f c = absurd (none-some s f)
first-comes whole after t place (x ∷ rest) s e f (others, is) =
    let all : x ∷ (rest ++ whole) ≡ t ∷ (after ++ others) =
    ap (λ (ss : List Segment). ss ++ whole) (sym e) ∙ is in
    let same : x ≡ t = ap (segment_head t) all in record {
      rest = rest;
      others = others;
      next = e ∙ ap (λ (y : Segment). y ∷ rest) same;
      behind = ap (drop 1) all;
    }

-- two ways to cut a list
data IsSplit (xs ys front back : List Segment) : Type 0 where
  longer : (more : List Segment) → front ≡ xs ++ more → ys ≡ more ++ back
      → IsSplit xs ys front back
  shorter : (more : List Segment) → xs ≡ front ++ more → IsSplit xs ys front back

split-next : (x y : Segment) (xs ys front back : List Segment) → x ≡ y →
    IsSplit xs ys front back → IsSplit (x ∷ xs) ys (y ∷ front) back
split-next x y xs ys front back e (longer more f g) =
    longer more (ap (λ (z : Segment). z ∷ front) (sym e)
    ∙ ap (λ (ss : List Segment). x ∷ ss) f) g
split-next x y xs ys front back e (shorter more f) =
    shorter more (ap (λ (ss : List Segment). x ∷ ss) f
    ∙ ap (λ (z : Segment). z ∷ (front ++ more)) e)

split-of : (xs ys front back : List Segment) → xs ++ ys ≡ front ++ back →
    IsSplit xs ys front back
split-of [] ys front back e = longer front refl e
split-of (x ∷ xs) ys [] back e = shorter (x ∷ xs) refl
split-of (x ∷ xs) ys (y ∷ front) back e =
    split-next x y xs ys front back (ap (segment_head y) e)
    (split-of xs ys front back (ap (drop 1) e))

-- of segments that come, those that are to be sent behind a directory that is asked for
record ComesThen (whole directory after : List Segment) (place : Place) : Type 0 where
  behind : List Segment
  bodies : List Segment
  more : List Segment
  cut : after ≡ bodies ++ more
  is : behind ≡ directory ++ (of_bodies bodies ++ more)
  comes : Comes whole (hear_directory place) behind

heard-comes : (whole directory after : List Segment) (place : Place) →
    to_send (hear_directory place) ≡ directory ++ of_bodies (to_send place) →
    Comes whole place after → ComesThen whole directory after place
heard-comes whole directory after place heard (others, e) =
    heard-cases (split-of (to_send place) whole after others e)
  where
    heard-cases : IsSplit (to_send place) whole after others →
        ComesThen whole directory after place
    heard-cases (longer more f g) = record {
      behind = directory ++ (of_bodies (to_send place) ++ more);
      bodies = to_send place;
      more = more;
      cut = f;
      is = refl;
      comes = (
        others,
        ap (λ (ss : List Segment). ss ++ whole) heard
            ∙ append_assoc directory (of_bodies (to_send place)) whole
            ∙ ap (λ (ss : List Segment). directory ++ (of_bodies (to_send place) ++ ss)) g
            ∙ ap (λ (ss : List Segment). directory ++ ss)
            (sym (append_assoc (of_bodies (to_send place)) more others))
            ∙ sym (append_assoc directory (of_bodies (to_send place) ++ more) others),
      );
    }
    heard-cases (shorter more f) = record {
      behind = directory ++ (of_bodies after ++ []);
      bodies = after;
      more = [];
      cut = sym (append-nil after);
      is = refl;
      comes = (
        of_bodies more ++ whole,
        ap (λ (ss : List Segment). ss ++ whole) heard
            ∙ ap (λ (ss : List Segment). (directory ++ of_bodies ss) ++ whole) f
            ∙ ap (λ (ss : List Segment). (directory ++ ss) ++ whole)
            (filter-append (λ (s : Segment). s.kind == 4) after more)
            ∙ append_assoc directory (of_bodies after ++ of_bodies more) whole
            ∙ ap (λ (ss : List Segment). directory ++ ss)
            (append_assoc (of_bodies after) (of_bodies more) whole)
            ∙ sym (append_assoc directory (of_bodies after) (of_bodies more ++ whole))
            ∙ ap (λ (ss : List Segment). (directory ++ ss) ++ (of_bodies more ++ whole))
            (sym (append-nil (of_bodies after))),
      );
    }

-- the packets of the directories that are asked for among steps
abbrev pub asked_packets : ℕ → List Step → ℕ
asked_packets d [] = 0
asked_packets d (Directory ∷ steps) = d + asked_packets d steps
asked_packets d (step ∷ steps) = asked_packets d steps

-- the packets up to the first step that asks for the directory
abbrev pub until_asked : List Step → ℕ
until_asked [] = 0
until_asked (Directory ∷ steps) = 0
until_asked (Request ∷ steps) = suc (until_asked steps)
until_asked (step ∷ steps) = until_asked steps

abbrev pub asks_once : List Step → Bool
asks_once [] = false
asks_once (Directory ∷ steps) = true
asks_once (step ∷ steps) = asks_once steps

none-packets : (room : ℕ) (segments : List Segment) → 0 < room → packets_for room segments ≡ 0 →
    segments ≡ []
unfolding packets_for
none-packets room [] some e = refl
none-packets room (s ∷ segments) some e =
    absurd (omega (arith, some-packets (length s.bytes + 11) room some (omega arith), e))

none-under : (room size : ℕ) (u : Option UnderWay) → 0 < room → IsInside room size u →
    group_left room u ≡ 0 → u ≡ None
none-under room size None some inside e = refl
none-under room size (Some u) some inside e =
    absurd (omega (
      arith,
      some-packets (length u.group - u.sent) room some (omega (arith, inside.1)),
      e,
    ))

-- of a turn's segments, one of no body is the directory's
not-both-kinds : (x : Segment) (xs ys : List Segment) →
    AllByRecursion (λ (s : Segment). s.kind ≡ 4) ys →
    (x.kind == 4) ≡ false → IsHad (xs ++ ys) x → IsHad xs x
not-both-kinds x xs ys k e h = both-cases (list_any (is_same_segment x) xs) refl
  where
    both-cases : (b : Bool) → list_any (is_same_segment x) xs ≡ b →
        list_any (is_same_segment x) xs ≡ true
    both-cases true f = f
    both-cases false f =
        absurd (let g : false ≡ true = sym e ∙ eq-eqb x.kind 4
        (had-holds (λ (s : Segment). s.kind ≡ 4) ys x k
        (ap (λ (b : Bool). b || list_any (is_same_segment x) ys) (sym f)
        ∙ sym (any-append (is_same_segment x) xs ys) ∙ h)) in cc)

wider : (a m b : Bool) → (a || b) ≡ true → (a || (m || b)) ≡ true
wider true m b e = refl
wider false true b e = refl
wider false false b e = e

module _ (size : ℕ) (turn : Turn) (some : 0 < size) (has : HasDirectory turn)
    (fit : AllByRecursion IsFit (segments_of_turn turn size)) where
  abbrev whole_directory : List Segment
  whole_directory = directory_segments turn size

  abbrev HearsIn : Place → List PacketFields → Place → List Segment → Type 0
  HearsIn = Hears size turn some has fit

  -- The packets up to the end of a group, among whose segments these are, and the others.
  pub record Gets (place : Place) (sents : List Sent) (new : Place) (want : List Segment) : Type 0
    where
      pub first : List Step
      pub others : List Step
      pub sent : List Sent
      pub more : List Sent
      pub mid : Place
      pub keep_first : keep_turn first ≡ true
      pub keep_others : keep_turn others ≡ true
      pub sent_first : sent_by place first ≡ Some (sent, mid)
      pub sent_others : sent_by mid others ≡ Some (more, new)
      pub all : sents ≡ sent ++ more
      pub none : mid.under_way ≡ None
      pub began : List Segment
      pub hears : HearsIn place (packets_of sent) mid began
      pub got : AllByRecursion (IsHad began) want

  gets-none : (place : Place) (steps : List Step) (sents : List Sent) (new : Place) →
      place.under_way ≡ None → keep_turn steps ≡ true → sent_by place steps ≡ Some (sents, new) →
      Gets place sents new []
  unfolding sent_by
  gets-none place steps sents new none keep h = record {
    first = [];
    others = steps;
    sent = [];
    more = sents;
    mid = place;
    keep_first = refl;
    keep_others = keep;
    sent_first = refl;
    sent_others = h;
    all = refl;
    none = none;
    began = [];
    hears = hears-none size turn some has fit place;
    got = tt;
  }

  -- one more request in front
  gets-next : (place : Place) (first : Sent) (sents : List Sent) (new : Place)
      (want all : List Segment) → IsOnAir size turn place → request place ≡ Some first →
      ((began : List Segment) → AllByRecursion (IsHad began) want →
      AllByRecursion (IsHad (begun_with place place.under_way ++ began)) all) →
      Gets first.place sents new want → Gets place (first ∷ sents) new all
  unfolding sent_by
  gets-next place first sents new want all on e f g = record {
    first = Request ∷ g.first;
    others = g.others;
    sent = first ∷ g.sent;
    more = g.more;
    mid = g.mid;
    keep_first = g.keep_first;
    keep_others = g.keep_others;
    sent_first = rw (e, g.sent_first) refl;
    sent_others = g.sent_others;
    all = ap (λ (ss : List Sent). first ∷ ss) g.all;
    none = g.none;
    began = begun_with place place.under_way ++ g.began;
    hears = hears-next size turn some has fit place first (packets_of g.sent) g.mid g.began on e
        g.hears;
    got = f g.began g.got;
  }

  gets-heard : (place : Place) (sents : List Sent) (new : Place) (want : List Segment) →
      Gets (hear_directory place) sents new want → Gets place sents new want
  unfolding sent_by
  gets-heard place sents new want g = record {
    first = Directory ∷ g.first;
    others = g.others;
    sent = g.sent;
    more = g.more;
    mid = g.mid;
    keep_first = g.keep_first;
    keep_others = g.keep_others;
    sent_first = g.sent_first;
    sent_others = g.sent_others;
    all = g.all;
    none = g.none;
    began = g.began;
    hears = hears-heard size turn some has fit place (packets_of g.sent) g.mid g.began g.hears;
    got = g.got;
  }

  gets-fewer : (place : Place) (sents : List Sent) (new : Place) (want all : List Segment) →
      AllByRecursion (IsHad all) want → Gets place sents new all → Gets place sents new want
  gets-fewer place sents new want all h g = record {
    first = g.first;
    others = g.others;
    sent = g.sent;
    more = g.more;
    mid = g.mid;
    keep_first = g.keep_first;
    keep_others = g.keep_others;
    sent_first = g.sent_first;
    sent_others = g.sent_others;
    all = g.all;
    none = g.none;
    began = g.began;
    hears = g.hears;
    got = all-had (IsHad g.began) all want g.got h;
  }

  had-more : (began more want : List Segment) → AllByRecursion (IsHad more) want →
      AllByRecursion (IsHad (began ++ more)) want
  had-more began more want h =
      all-of (IsHad more) (IsHad (began ++ more)) want
      (λ s e. any-append (is_same_segment s) began more
      ∙ or-right (list_any (is_same_segment s) began) (list_any (is_same_segment s) more) e) h

  abbrev whole : List Segment
  whole = segments_of_turn turn size

  request-gets : (steps : List Step) (place : Place) (first : Sent) (others : List Sent)
      (new : Place) (after : List Segment) (u : Option UnderWay) (k : ℕ) →
      IsOnAir size turn place → place.under_way ≡ u → IsInside place.room size u →
      request place ≡ Some first → next_sent place u ≡ Some first →
      keep_turn steps ≡ true → sent_by place (Request ∷ steps) ≡ Some (first ∷ others, new) →
      Comes whole place after → AllByRecursion (IsHad whole) after →
      group_left place.room u + packets_for place.room after + k ≤ suc (length others) →
      ((later : List Segment) → Comes whole first.place later →
      AllByRecursion (IsHad whole) later →
      group_left first.place.room first.place.under_way + packets_for first.place.room later + k
      ≤ length others → Gets first.place others new later) →
      Gets place (first ∷ others) new after
  unfolding packets_for
  request-gets steps place first others new [] None k on is inside r e keep h c d enough later =
      gets-none place (Request ∷ steps) (first ∷ others) new is keep h
  request-gets steps place first others new (t ∷ after) None k on is inside r e keep h c d enough
      later =
      let comes = first-comes whole after t place (to_send place) first refl e c in
      let begins : first_sent place (t ∷ comes.rest) ≡ Some first =
      ap (first_sent place) (sym comes.next) ∙ e in
      let l = first-leaves place t comes.rest first on.room begins in
      let takes : begun_with place place.under_way ≡ t ∷ [] =
      ap (begun_with place) is ∙ ap (take 1) comes.next in
      gets-next place first others new after (t ∷ after) on r
      (λ began h. (
        subst (λ (ss : List Segment). IsHad (ss ++ began) t) (sym takes)
            (rw (same-self t) refl),
        had-more (begun_with place place.under_way) began after h,
      ))
      (later after (comes-behind size turn first.place comes.rest after comes.others
      (l.turn_is ∙ on.turn_is) (l.size_is ∙ on.size_is) l.waiting_is comes.behind) d.1
      (subst (λ (room : ℕ). group_left room first.place.under_way + packets_for room after + k
      ≤ length others) (sym l.room_is) (omega (arith, enough, l.left_is))))
  request-gets steps place first others new after (Some u) k on is inside r e keep h c d enough
      later =
      let l = group-leaves place u first on.room inside.1 e in
      gets-next place first others new after after on r
      (λ began h. had-more (begun_with place place.under_way) began after h)
      (later after
      (comes-same whole place first.place after l.waiting_is l.turn_is l.size_is c) d
      (subst (λ (room : ℕ). group_left room first.place.under_way + packets_for room after + k
      ≤ length others) (sym l.room_is) (omega (arith, enough, l.left_is))))

  to_send-heard : (place : Place) → IsOnAir size turn place →
      to_send (hear_directory place) ≡ whole_directory ++ of_bodies (to_send place)
  unfolding hear_directory
  to_send-heard place on =
      let same : directory_segments place.turn place.segment_size ≡ whole_directory =
      ap (λ (n : ℕ). directory_segments place.turn n) on.size_is
      ∙ ap (λ (t : Turn). directory_segments t size) on.turn_is in
      let all : segments_of_turn place.turn place.segment_size ≡ whole =
      ap (λ (n : ℕ). segments_of_turn place.turn n) on.size_is
      ∙ ap (λ (t : Turn). segments_of_turn t size) on.turn_is in
      ap (λ (ss : List Segment).
      let ws : List Segment = if is_empty place.waiting then []
      else ss ++ of_bodies place.waiting in
      if is_empty ws then segments_of_turn place.turn place.segment_size else ws) same
      ∙ ap (λ (ss : List Segment).
      let ws : List Segment = if is_empty place.waiting then []
      else whole_directory ++ of_bodies place.waiting in
      if is_empty ws then ss else ws) all
      ∙ send-cases place.waiting
      ∙ ap (λ (ss : List Segment). whole_directory
      ++ of_bodies (if is_empty place.waiting then ss else place.waiting)) (sym all)
    where
      send-cases : (waiting : List Segment) →
          (let ws : List Segment = if is_empty waiting then []
          else whole_directory ++ of_bodies waiting in
          if is_empty ws then whole else ws)
          ≡ whole_directory ++ of_bodies (if is_empty waiting then whole else waiting)
      send-cases [] = ap (λ (ss : List Segment). whole_directory ++ ss)
          (sym (bodies-of_turn size turn))
      send-cases (t ∷ waiting) =
          rw (is_empty-append whole_directory (of_bodies (t ∷ waiting))
          (some-directory turn size some has)) refl

  heard-room : (place : Place) → (hear_directory place).room ≡ place.room
  unfolding hear_directory
  heard-room place = refl

  heard-under : (place : Place) → (hear_directory place).under_way ≡ place.under_way
  unfolding hear_directory
  heard-under place = refl

  directory-of_turn : AllByRecursion (IsHad whole) whole_directory
  directory-of_turn =
      all-front (IsHad whole) whole_directory (segments_of_bodies size turn.bodies) (had-all whole)

  -- a segment of the turn is one of its directory or of a body
  directory-or_body : (xs : List Segment) → AllByRecursion (IsHad whole) xs →
      AllByRecursion (IsHad (whole_directory ++ of_bodies xs)) xs
  directory-or_body [] d = tt
  directory-or_body (x ∷ xs) d = (
    kind-cases (x.kind == 4) refl,
    all-of (IsHad (whole_directory ++ of_bodies xs))
        (IsHad (whole_directory ++ of_bodies (x ∷ xs))) xs
        (λ s e. wider-cases s (x.kind == 4) e) (directory-or_body xs d.1),
  )
    where
      kind-cases : (b : Bool) → (x.kind == 4) ≡ b →
          IsHad (whole_directory ++ (if b then x ∷ of_bodies xs else of_bodies xs)) x
      kind-cases true e =
          any-append (is_same_segment x) whole_directory (x ∷ of_bodies xs)
          ∙ or-right (list_any (is_same_segment x) whole_directory)
          (list_any (is_same_segment x) (x ∷ of_bodies xs)) (rw (same-self x) refl)
      kind-cases false e =
          any-front (is_same_segment x) whole_directory (of_bodies xs)
          (not-both-kinds x whole_directory (segments_of_bodies size turn.bodies)
          (bodies-bodies size turn.bodies) e d.0)

      wider-cases : (s : Segment) (b : Bool) → IsHad (whole_directory ++ of_bodies xs) s →
          IsHad (whole_directory ++ (if b then x ∷ of_bodies xs else of_bodies xs)) s
      wider-cases s true e =
          any-append (is_same_segment s) whole_directory (x ∷ of_bodies xs)
          ∙ wider (list_any (is_same_segment s) whole_directory) (is_same_segment s x)
          (list_any (is_same_segment s) (of_bodies xs))
          (sym (any-append (is_same_segment s) whole_directory (of_bodies xs)) ∙ e)
      wider-cases s false e = e

  -- segments that come next are got
  pub gets : (steps : List Step) (place : Place) (sents : List Sent) (new : Place)
      (after : List Segment) (room : ℕ) → IsOnAir size turn place → place.room ≡ room →
      keep_turn steps ≡ true → sent_by place steps ≡ Some (sents, new) →
      Comes whole place after → AllByRecursion (IsHad whole) after →
      group_left room place.under_way + packets_for room after
      + asked_packets (packets_for room whole_directory) steps ≤ length sents →
      Gets place sents new after
  unfolding sent_by
  gets [] place sents new after room on is keep h c d enough =
      let none : length sents ≡ 0 = ap length (sym (some_pair_parts [] sents place new h).0) in
      let room_some : 0 < room = subst (λ (n : ℕ). 0 < n) is on.room in
      let empty : after ≡ [] =
      none-packets room after room_some (omega (arith, enough, none)) in
      let under : place.under_way ≡ None =
      none-under room size place.under_way room_some
      (subst (λ (n : ℕ). IsInside n size place.under_way) is on.inside)
      (omega (arith, enough, none)) in
      subst (λ (ss : List Segment). Gets place sents new ss) (sym empty)
      (gets-none place [] sents new under keep h)
  gets (Request ∷ steps) place sents new after room on is keep h c d enough =
      let q : FirstRequest place steps sents new = first_request place steps sents new h in
      let k : ℕ = asked_packets (packets_for room whole_directory) steps in
      let more : group_left place.room place.under_way + packets_for place.room after + k
      ≤ suc (length q.others) =
      subst (λ (n : ℕ). group_left n place.under_way + packets_for n after + k
      ≤ suc (length q.others)) (sym is)
      (subst (λ (ss : List Sent). group_left room place.under_way + packets_for room after + k
      ≤ length ss) q.all enough) in
      subst (λ (ss : List Sent). Gets place ss new after) (sym q.all)
      (request-gets steps place q.first q.others new after place.under_way k on refl on.inside
      q.asked (asked-next place q.first q.asked) keep
      (subst (λ (ss : List Sent). sent_by place (Request ∷ steps) ≡ Some (ss, new)) q.all h) c d
      more
      (λ later c2 d2 enough2. gets steps q.first.place q.others new later room
      (sent-on size turn place q.first some on q.asked) (room-kept place q.first q.asked ∙ is)
      keep q.rest c2 d2
      (subst (λ (n : ℕ). group_left n q.first.place.under_way + packets_for n later + k
      ≤ length q.others) (room-kept place q.first q.asked ∙ is) enough2)))
  gets (NewTurn t ∷ steps) place sents new after room on is keep h c d enough =
      absurd (let f : false ≡ true = keep in cc)
  gets (Directory ∷ steps) place sents new after room on is keep h c d enough =
      let heard : Place = hear_directory place in
      let then_comes = heard-comes whole whole_directory after place (to_send-heard place on) c in
      let xs : List Segment = then_comes.bodies in
      let ys : List Segment = then_comes.more in
      let both : AllByRecursion (IsHad whole) (xs ++ ys) =
      subst (AllByRecursion (IsHad whole)) then_comes.cut d in
      let behind_of : AllByRecursion (IsHad whole) then_comes.behind =
      subst (AllByRecursion (IsHad whole)) (sym then_comes.is)
      (all-append (IsHad whole) whole_directory (of_bodies xs ++ ys) directory-of_turn
      (all-append (IsHad whole) (of_bodies xs) ys
      (all-filter (IsHad whole) (λ (s : Segment). s.kind == 4) xs
      (all-front (IsHad whole) xs ys both))
      (all-behind (IsHad whole) xs ys both))) in
      let within : AllByRecursion (IsHad then_comes.behind) after =
      subst (AllByRecursion (IsHad then_comes.behind)) (sym then_comes.cut)
      (subst (λ (bs : List Segment). AllByRecursion (IsHad bs) (xs ++ ys)) (sym then_comes.is)
      (got-again xs ys (all-front (IsHad whole) xs ys both))) in
      let count : packets_for room then_comes.behind ≤ packets_for room whole_directory
      + packets_for room after =
      fewer-again room then_comes.behind after xs ys then_comes.is then_comes.cut in
      gets-heard place sents new after
      (gets-fewer heard sents new after then_comes.behind within
      (gets steps heard sents new then_comes.behind room (heard-on size turn place some has on)
      (heard-room place ∙ is) keep h then_comes.comes behind_of
      (subst (λ (u : Option UnderWay). group_left room u + packets_for room then_comes.behind
      + asked_packets (packets_for room whole_directory) steps ≤ length sents)
      (sym (heard-under place)) (omega (arith, enough, count)))))
    where
      got-again : (xs ys : List Segment) → AllByRecursion (IsHad whole) xs →
          AllByRecursion (IsHad (whole_directory ++ (of_bodies xs ++ ys))) (xs ++ ys)
      got-again xs ys d =
          let all : List Segment = (whole_directory ++ of_bodies xs) ++ ys in
          subst (λ (bs : List Segment). AllByRecursion (IsHad bs) (xs ++ ys))
          (append_assoc whole_directory (of_bodies xs) ys)
          (all-append (IsHad all) xs ys
          (all-of (IsHad (whole_directory ++ of_bodies xs)) (IsHad all) xs
          (λ s e. any-front (is_same_segment s) (whole_directory ++ of_bodies xs) ys e)
          (directory-or_body xs d))
          (had-more (whole_directory ++ of_bodies xs) ys ys (had-all ys)))

      fewer-again : (room : ℕ) (behind after xs ys : List Segment) →
          behind ≡ whole_directory ++ (of_bodies xs ++ ys) → after ≡ xs ++ ys →
          packets_for room behind ≤ packets_for room whole_directory + packets_for room after
      fewer-again room behind after xs ys e f =
          omega (
            arith,
            ap (packets_for room) e,
            ap (packets_for room) f,
            packets-append room whole_directory (of_bodies xs ++ ys),
            packets-append room (of_bodies xs) ys,
            packets-append room xs ys,
            packets-bodies room xs,
          )
  gets (Follow t ∷ steps) place sents new after room on is keep h c d enough =
      absurd (let f : false ≡ true = keep in cc)

  -- Where the directory is asked for, it is got whole after the rest of the group under way and the
  -- directories that are asked for.
  pub finds : (steps : List Step) (place : Place) (sents : List Sent) (new : Place) (room : ℕ) →
      IsOnAir size turn place → place.room ≡ room → keep_turn steps ≡ true →
      sent_by place steps ≡ Some (sents, new) → asks_once steps ≡ true →
      until_asked steps + div_ceil (size + 11) room
      + asked_packets (packets_for room whole_directory) steps ≤ suc (length sents) →
      Gets place sents new whole_directory
  unfolding sent_by
  finds [] place sents new room on is keep h asks enough =
      absurd (let f : false ≡ true = asks in cc)
  finds (Request ∷ steps) place sents new room on is keep h asks enough =
      let q : FirstRequest place steps sents new = first_request place steps sents new h in
      let less : until_asked steps + div_ceil (size + 11) room
      + asked_packets (packets_for room whole_directory) steps ≤ suc (length q.others) =
      omega (arith, enough, ap length q.all) in
      subst (λ (ss : List Sent). Gets place ss new whole_directory) (sym q.all)
      (gets-next place q.first q.others new whole_directory whole_directory on q.asked
      (λ began h. had-more (begun_with place place.under_way) began whole_directory h)
      (finds steps q.first.place q.others new room
      (sent-on size turn place q.first some on q.asked) (room-kept place q.first q.asked ∙ is)
      keep q.rest asks less))
  finds (NewTurn t ∷ steps) place sents new room on is keep h asks enough =
      absurd (let f : false ≡ true = keep in cc)
  finds (Directory ∷ steps) place sents new room on is keep h asks enough =
      let heard : Place = hear_directory place in
      let heard_on : IsOnAir size turn heard = heard-on size turn place some has on in
      let few : group_left room heard.under_way < div_ceil (size + 11) room =
      group-fewer room size heard.under_way
      (subst (λ (n : ℕ). 0 < n) (heard-room place ∙ is) heard_on.room)
      (subst (λ (n : ℕ). IsInside n size heard.under_way) (heard-room place ∙ is)
      heard_on.inside) in
      gets-heard place sents new whole_directory
      (gets steps heard sents new whole_directory room heard_on (heard-room place ∙ is) keep h (
        of_bodies (to_send place) ++ whole,
        ap (λ (ss : List Segment). ss ++ whole) (to_send-heard place on)
            ∙ append_assoc whole_directory (of_bodies (to_send place)) whole,
      ) directory-of_turn (omega (arith, enough, few)))
  finds (Follow t ∷ steps) place sents new room on is keep h asks enough =
      absurd (let f : false ≡ true = keep in cc)
