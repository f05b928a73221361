-- The packets of a turn that is played have the lengths that its groups are cut into.
use Rattle.std.proofs.Common.{◌≡◌, ◌∙◌, ℕ, zero, suc, ◌+◌, ◌-◌, ◌*◌, ◌<◌, ◌≤◌, List, [], ◌∷◌, ◌++◌}
use Rattle.std.proofs.Common.{inl, inr, Bool, true, false, ◌&&◌, Option, Some, None, length, map}
use Rattle.std.proofs.Common.{take, drop, replicate, refl, sym, ap, subst, arith, add-one}
use Rattle.std.proofs.Common.{length-append}
use Rattle.std.proofs.Math.Nat.{mul-le-mul_right}
use Rattle.std.proofs.lemmas.Bool.{cases_lt, leb-false, leb-true}
use Rattle.std.proofs.lemmas.List.{length-drop, length-map, length-replicate, length-take}
use Rattle.std.proofs.lemmas.Option.{none-some, same_Some, some_pair_parts}
use Rattle.std.specs.Prelude.{IfSome, if◌then◌else◌, nat_le}
use Rattle.std.specs.Int.{to_be_bytes, w16}
use Rattle.mot_base.specs.Checksum.{crc_of}
use Rattle.mot_groups.specs.Group.{GroupFields, Segment, bytes_of_group, segment_content}
use Rattle.mot_numbers.proofs.Laws.{pieces_rounded_up}
use Rattle.mot_numbers.specs.PacketLength.{shortest_room}
use Rattle.mot_numbers.specs.Reading.{◌>>=◌, is_empty}
use Rattle.mot_packets.specs.Packet.{PacketFields}
use Rattle.mot_packets.specs.Written.{bytes_of_packet, covered_bytes}
use Rattle.mot_player.specs.Laws.{IsAtTurnsBeginning, packets_sent}
use Rattle.mot_player.specs.Place.{Place, Request, Sent, Step, UnderWay, first_sent, group_for}
use Rattle.mot_player.specs.Place.{next_sent, packet_sent, request, sent_by, to_send, with_begun}
use Rattle.mot_player.specs.Turn.{segments_of_turn}
use Rattle.mot_listening.proofs.Laws.{count-segments, group-lengths}
use Rattle.mot_listening.specs.Lengths.{lengths_of_segments}
use Rattle.mot_export.specs.Filling.{TurnsHaveTheirLengths}
use Rattle.mot_export.specs.Inspecting.{TurnsHaveTheirPackets}
use Rattle.mot_listening.specs.Entities.{group_lengths, packet_length, packet_lengths}

-- ---- a group's packets, one after the other

-- the last packet of a group
last-packet : (room rest : ℕ) → 0 < room → 0 < rest → rest ≤ room
    → group_lengths room rest ≡ packet_length room rest ∷ []
last-packet room rest some more fits =
    let up = pieces_rounded_up room rest some more in
    ap (λ n. packet_lengths n room rest) (up.one_more ∙ ap suc (none up.full up.too_few))
  where
    none : (full : ℕ) → full * room < rest → full ≡ 0
    none zero few = refl
    none (suc full) few = absurd (omega (arith, few, fits))

-- no count of pieces that holds as many bytes is less
not_less : (size bytes a b : ℕ) → a < b → bytes ≤ a * size + size → b * size < bytes → ⊥
not_less size bytes a b less enough few =
    let more : suc a * size ≤ b * size = mul-le-mul_right size (let e = less in omega (arith, e)) in
    absurd (omega (arith, more, enough, few))

one_count : (size bytes a b : ℕ) → a * size < bytes → bytes ≤ a * size + size → b * size < bytes
    → bytes ≤ b * size + size → a ≡ b
one_count size bytes a b few_a all_a few_b all_b =
    elim (cases_lt a b) [
      | inl less ↦ absurd (not_less size bytes a b less all_a few_b)
      | inr le ↦ elim (cases_lt b a) [
        | inl less ↦ absurd (not_less size bytes b a less all_b few_a)
        | inr ge ↦ omega (arith, le, ge)
      ]
    ]

-- a packet of a group with more behind it
more-packets : (room rest : ℕ) → 0 < room → room < rest
    → group_lengths room rest ≡ packet_length room rest ∷ group_lengths room (rest - room)
more-packets room rest some more =
    let up = pieces_rounded_up room rest some (omega (arith, more)) in
    let left = pieces_rounded_up room (rest - room) some (omega (arith, more)) in
    ap (λ n. packet_lengths n room rest) (up.one_more ∙ ap suc (same up.full left.full up.too_few
    up.enough left.too_few left.enough ∙ sym left.one_more))
  where
    same : (full less : ℕ) → full * room < rest → rest ≤ full * room + room
        → less * room < rest - room → rest - room ≤ less * room + room → full ≡ suc less
    same zero less few all few' all' = absurd (omega (arith, all, more))
    same (suc full) less few all few' all' =
        ap suc (one_count room (rest - room) full less (omega (arith, few, more))
        (omega (arith, all, more)) few' all')

-- ---- a packet's bytes

shortest-by : (n : ℕ) (a b c : Bool) → nat_le n 19 ≡ a → nat_le n 43 ≡ b → nat_le n 67 ≡ c
    → n ≤ 91 → n ≤ (if a then 19 else (if b then 43 else (if c then 67 else 91)))
shortest-by n true b c e f g h = leb-true n 19 e
shortest-by n false true c e f g h = leb-true n 43 f
shortest-by n false false true e f g h = leb-true n 67 g
shortest-by n false false false e f g h = h

useful-fits : (useful rest room : ℕ) (last : Bool) → nat_le rest room ≡ last → useful ≤ rest
    → useful ≤ room → room ≤ 91 → useful ≤ (if last then shortest_room rest else room)
useful-fits useful rest room true e u v h =
    let fits = leb-true rest room e in
    let holds = shortest-by rest (nat_le rest 19) (nat_le rest 43) (nat_le rest 67) refl refl refl
    (omega (arith, fits, h)) in
    omega (arith, u, holds)
useful-fits useful rest room false e u v h = v

length-packet : (p : PacketFields) → length p.useful ≤ p.room
    → length (bytes_of_packet p) ≡ p.room + 5
unfolding bytes_of_packet
length-packet p fits =
    let zeros : List ℕ = replicate {A = ℕ} (p.room - length p.useful) 0 in
    let crc : List ℕ = to_be_bytes w16 (crc_of (covered_bytes p)) in
    omega (
      arith,
      fits,
      length-append (p.useful ++ zeros) crc,
      length-append p.useful zeros,
      length-replicate {A = ℕ} (p.room - length p.useful) 0,
    )

length-group : (g : GroupFields) → length (bytes_of_group g) ≡ length g.segment.bytes + 11
unfolding bytes_of_group
length-group g =
    let covered : List ℕ = (112 + g.segment.kind) ∷ (16 * g.index) ∷ segment_content g.segment in
    omega (arith, length-append g.segment.bytes (to_be_bytes w16 (crc_of covered)))

-- ---- what a request sends

-- the lengths of the packets that come until the end of the turn
abbrev due : Place → Option UnderWay → List ℕ
due place None = lengths_of_segments place.room (to_send place)
due place (Some u) =
    group_lengths place.room (length u.group - u.sent)
    ++ lengths_of_segments place.room place.waiting

abbrev behind : Sent → List ℕ
behind s = if s.ends_turn then [] else due s.place s.place.under_way

-- a group under way has more packets
abbrev GoesOn : Option UnderWay → Type 0
GoesOn u = IfSome u (λ (w : UnderWay). w.sent < length w.group)

-- what was sent is the first of what was due, and what comes behind it is the rest
record Sends (room : ℕ) (due : List ℕ) (s : Sent) : Type 0 where
  lengths : due ≡ length (bytes_of_packet s.packet) ∷ behind s
  stays : s.place.room ≡ room
  goes_on : GoesOn s.place.under_way

-- where none wait, none of the next turn are due
of-turn : (room : ℕ) (next waiting : List Segment)
    → (if is_empty waiting then [] else
    lengths_of_segments room (if is_empty waiting then next else waiting))
    ≡ lengths_of_segments room waiting
of-turn room next [] = refl
of-turn room next (s ∷ waiting) = refl

behind-of : (place next : Place) (group : List ℕ) (at : ℕ) (last : Bool)
    → next.room ≡ place.room → next.waiting ≡ place.waiting
    → (if last && is_empty place.waiting then [] else
    due next (if last then None else Some (record { group = group; sent = at })))
    ≡ (if last then lengths_of_segments place.room place.waiting else
    group_lengths place.room (length group - at) ++ lengths_of_segments place.room place.waiting)
behind-of place next group at true room waiting =
    rw (room, waiting) (of-turn place.room (segments_of_turn next.turn next.segment_size)
    place.waiting)
behind-of place next group at false room waiting = rw (room, waiting) refl

goes-of : (group : List ℕ) (at : ℕ) (last : Bool) → (last ≡ false → at < length group)
    → GoesOn (if last then None else Some (record { group = group; sent = at }))
goes-of group at true more = tt
goes-of group at false more = more refl

module _ (place : Place) (group : List ℕ) (at : ℕ) (some : 0 < place.room) (short : place.room ≤ 91)
    (more : at < length group) where
  abbrev rest : ℕ
  rest = length group - at

  abbrev sent : Sent
  sent = packet_sent place group at

  abbrev others : List ℕ
  others = lengths_of_segments place.room place.waiting

  fits : length sent.packet.useful ≤ sent.packet.room
  fits = useful-fits (length (take place.room (drop at group))) (length (drop at group)) place.room
      (nat_le (length (drop at group)) place.room) refl
      (omega (arith, length-take place.room (drop at group)))
      (omega (arith, length-take place.room (drop at group))) short

  own : length (bytes_of_packet sent.packet) ≡ packet_length place.room rest
  own = length-packet sent.packet fits ∙ ap (packet_length place.room) (length-drop at group)

  then-due : behind sent
      ≡ (if sent.packet.last then others else
      group_lengths place.room (length group - (at + place.room)) ++ others)
  then-due = behind-of place sent.place group (at + place.room) sent.packet.last refl refl

  -- of what is due the packet is the first
  first-due : (last : Bool) → nat_le (length (drop at group)) place.room ≡ last
      → group_lengths place.room rest ++ others
      ≡ packet_length place.room rest ∷ (if last then others else
      group_lengths place.room (length group - (at + place.room)) ++ others)
  first-due true e =
      ap (λ l. l ++ others) (last-packet place.room rest some (omega (arith, more))
      (omega (arith, leb-true (length (drop at group)) place.room e, length-drop at group)))
  first-due false e =
      let less : length group - (at + place.room) ≡ rest - place.room = omega arith in
      ap (λ l. l ++ others) (more-packets place.room rest some
      (omega (arith, leb-false (length (drop at group)) place.room e, length-drop at group)))
      ∙ ap (λ n. packet_length place.room rest ∷ group_lengths place.room n ++ others) (sym less)

  sends-packet : Sends place.room (group_lengths place.room rest ++ others) sent
  sends-packet = record {
    lengths =
        first-due sent.packet.last refl
        ∙ ap (λ n. n ∷ (if sent.packet.last then others else
        group_lengths place.room (length group - (at + place.room)) ++ others)) (sym own)
        ∙ ap (λ l. length (bytes_of_packet sent.packet) ∷ l) (sym then-due);
    stays = refl;
    goes_on = goes-of group (at + place.room) sent.packet.last
        (λ e. omega (
          arith,
          leb-false (length (drop at group)) place.room e,
          length-drop at group,
        ));
  }

sends-first : (place : Place) (segments : List Segment) (s : Sent) → 0 < place.room
    → place.room ≤ 91 → first_sent place segments ≡ Some s
    → Sends place.room (lengths_of_segments place.room segments) s
sends-first place [] s some short e = absurd (none-some s e)
sends-first place (t ∷ segments) s some short e =
    let g : GroupFields = group_for place t in
    let begun : Place = with_begun place g segments in
    let first : Sent = packet_sent begun (bytes_of_group g) 0 in
    let long = length-group g in
    let same : first ≡ s = same_Some first s e in
    let one = sends-packet begun (bytes_of_group g) 0 some short (omega (arith, long)) in
    let size : length (bytes_of_group g) - 0 ≡ length t.bytes + 11 = omega (arith, long) in
    let as_cut : lengths_of_segments place.room (t ∷ segments)
    ≡ group_lengths place.room (length (bytes_of_group g) - 0)
    ++ lengths_of_segments place.room segments =
    ap (λ l. l ++ lengths_of_segments place.room segments)
    (group-lengths place.room (length t.bytes + 11)
    ∙ ap (group_lengths place.room) (sym size)) in
    subst (λ (x : Sent). Sends place.room (lengths_of_segments place.room (t ∷ segments)) x) same
    (subst (λ l. Sends place.room l first) (sym as_cut) one)

sends-next : (place : Place) (u : Option UnderWay) (s : Sent) → 0 < place.room → place.room ≤ 91
    → GoesOn u → next_sent place u ≡ Some s → Sends place.room (due place u) s
sends-next place None s some short goes e = sends-first place (to_send place) s some short e
sends-next place (Some u) s some short goes e =
    subst (λ (x : Sent). Sends place.room (due place (Some u)) x)
    (same_Some (packet_sent place u.group u.sent) s e)
    (sends-packet place u.group u.sent some short goes)

sends : (place : Place) (s : Sent) → 0 < place.room → place.room ≤ 91 → GoesOn place.under_way
    → request place ≡ Some s → Sends place.room (due place place.under_way) s
unfolding request
sends place s some short goes e = sends-next place place.under_way s some short goes e

-- ---- a turn's requests

bound : {A B : Type 0} (o : Option A) (f : A → Option B) (y : B) → (o >>= f) ≡ Some y
    → (x : A) × (o ≡ Some x) × (f x ≡ Some y)
bound None f y e = absurd (none-some y e)
bound (Some x) f y e = (x, refl, e)

-- the first request, and what the steps behind it send
record First (place : Place) (steps : List Step) (sents : List Sent) (new : Place) : Type 0 where
  first : Sent
  others : List Sent
  asked : request place ≡ Some first
  rest : sent_by first.place steps ≡ Some (others, new)
  all : sents ≡ first ∷ others

first-of : (place : Place) (steps : List Step) (sents : List Sent) (new : Place)
    → sent_by place (Request ∷ steps) ≡ Some (sents, new) → First place steps sents new
unfolding sent_by
first-of place steps sents new e =
    let one = bound (request place)
    (λ (s : Sent). sent_by s.place steps >>= λ (others : List Sent × Place).
    Some (s ∷ others.0, others.1)) (sents, new) e in
    let two = bound (sent_by one.0.place steps)
    (λ (others : List Sent × Place). Some (one.0 ∷ others.0, others.1)) (sents, new) one.2 in
    let parts = some_pair_parts (one.0 ∷ two.0.0) sents two.0.1 new two.2 in
    record {
      first = one.0;
      others = two.0.0;
      asked = one.1;
      rest = two.1 ∙ ap (λ p. Some (two.0.0, p)) parts.1;
      all = sym parts.0;
    }

no-steps : (place : Place) (sents : List Sent) (new : Place)
    → sent_by place [] ≡ Some (sents, new) → sents ≡ []
unfolding sent_by
no-steps place sents new e = sym (some_pair_parts [] sents place new e).0

abbrev head_of : List Bool → Bool
head_of [] = true
head_of (b ∷ bs) = b

abbrev tail_of : List Bool → List Bool
tail_of [] = []
tail_of (b ∷ bs) = bs

abbrev ends_of : List Sent → List Bool
ends_of sents = map (λ (s : Sent). s.ends_turn) sents

-- up to the first that ends the turn, the packets are those that were due
turn-due : (n : ℕ) (place new : Place) (sents : List Sent) → 0 < place.room → place.room ≤ 91
    → GoesOn place.under_way → sent_by place (Request ∷ replicate n Request) ≡ Some (sents, new)
    → ends_of sents ≡ replicate n false ++ true ∷ []
    → map length (packets_sent sents) ≡ due place place.under_way
turn-due zero place new sents some short goes e ends =
    let it = first-of place [] sents new e in
    let one = sends place it.first some short goes it.asked in
    let none = no-steps it.first.place it.others new it.rest in
    let all : sents ≡ it.first ∷ [] = it.all ∙ ap (λ l. it.first ∷ l) none in
    let last : it.first.ends_turn ≡ true = ap head_of (sym (ap ends_of all) ∙ ends) in
    ap (λ l. map length (packets_sent l)) all
    ∙ ap (λ b. length (bytes_of_packet it.first.packet)
    ∷ (if b then [] else due it.first.place it.first.place.under_way)) (sym last)
    ∙ sym one.lengths
turn-due (suc n) place new sents some short goes e ends =
    let it = first-of place (Request ∷ replicate n Request) sents new e in
    let one = sends place it.first some short goes it.asked in
    let own : it.first.ends_turn ∷ ends_of it.others ≡ false ∷ (replicate n false ++ true ∷ []) =
    sym (ap ends_of it.all) ∙ ends in
    let rest = turn-due n it.first.place new it.others (subst (λ r. 0 < r) (sym one.stays) some)
    (subst (λ r. r ≤ 91) (sym one.stays) short) one.goes_on it.rest (ap tail_of own) in
    ap (λ l. map length (packets_sent l)) it.all
    ∙ ap (λ l. length (bytes_of_packet it.first.packet) ∷ l) rest
    ∙ ap (λ b. length (bytes_of_packet it.first.packet)
    ∷ (if b then [] else due it.first.place it.first.place.under_way)) (sym (ap head_of own))
    ∙ sym one.lengths

same-if : {A : Type 0} (b : Bool) (x : A) → (if b then x else x) ≡ x
same-if true x = refl
same-if false x = refl

-- at the beginning of a turn its segments are to be sent
to-send : (place : Place) → IsAtTurnsBeginning place
    → to_send place ≡ segments_of_turn place.turn place.segment_size
to-send place is = elim is.waiting [
  | inl none ↦ rw none refl
  | inr all ↦ rw all (same-if (is_empty (segments_of_turn place.turn place.segment_size))
      (segments_of_turn place.turn place.segment_size))
]

pub turns-have-their-lengths : TurnsHaveTheirLengths
turns-have-their-lengths place new packets some short is turn =
    let sents = turn.played.sents in
    let steps : sent_by place (Request ∷ replicate turn.before Request) ≡ Some (sents, new) =
    sym (ap (λ n. sent_by place (replicate n Request)) (add-one turn.before))
    ∙ turn.played.sent.steps in
    ap (map length) turn.played.bytes
    ∙ turn-due turn.before place new sents some short (subst GoesOn (sym is.under_way) tt) steps
    turn.ends
    ∙ ap (due place) is.under_way
    ∙ ap (lengths_of_segments place.room) (to-send place is)

-- so they are as many as its groups take
pub turns-have-their-packets : TurnsHaveTheirPackets
turns-have-their-packets place new packets some short is turn =
    sym (length-map packets (λ (p : List ℕ). length p))
    ∙ ap (length {A = ℕ}) (turns-have-their-lengths place new packets some short is turn)
    ∙ count-segments place.room (segments_of_turn place.turn place.segment_size)
