-- The headers of the packets of a first turn.
use Rattle.std.proofs.Common.{◌≡◌, inl, inr, ℕ, zero, suc, ◌+◌, ◌-◌, ◌%◌, ◌≤◌, ◌<◌, Bool, true}
use Rattle.std.proofs.Common.{false, List, [], ◌∷◌, length, map, drop, replicate, Option, Some}
use Rattle.std.proofs.Common.{None}
use Rattle.std.proofs.Common.{refl, sym, ap, ◌∙◌, subst, arith}
use Rattle.std.proofs.lemmas.Bool.{leb-false, leb-true}
use Rattle.std.specs.Prelude.{nat_le, if◌then◌else◌}
use Rattle.mot_groups.specs.Group.{Segment, bytes_of_group}
use Rattle.mot_numbers.specs.Geometry.{packet_room}
use Rattle.mot_numbers.specs.PacketLength.{IsLength, shortest_room}
use Rattle.mot_numbers.specs.Reading.{◌>>=◌, read_each}
use Rattle.mot_numbers.specs.declared.geometry.Geometry.{Geometry}
use Rattle.mot_numbers.proofs.Laws.{>>=-some}
use Rattle.mot_packets.specs.Packet.{PacketFields, read_packet}
use Rattle.mot_player.specs.Place.{Place, Request, Sent, UnderWay, first_sent, group_for, next_sent}
use Rattle.mot_player.specs.Place.{opened_place, packet_sent, request, sent_by, to_send, with_begun}
use Rattle.mot_player.specs.Turn.{Turn}
use Rattle.mot_playout.specs.Life.{AreNumbered}
use Rattle.mot_playout.specs.Playing.{HasPlayedTurn}
use Rattle.mot_playout.proofs.Going.{HasPlayedTurn-read}

-- ---- the shortest data field is no longer than the longest one

too-long : (n m room : ℕ) → m < n → n ≤ room → room + 5 ≡ m + 5 → ⊥
too-long n m room less most is = omega (arith, less, most, is)

shortest-by : (n room : ℕ) (a b c : Bool) → nat_le n 19 ≡ a → nat_le n 43 ≡ b → nat_le n 67 ≡ c
    → n ≤ room → IsLength (room + 5)
    → (if a then 19 else (if b then 43 else (if c then 67 else 91))) ≤ room
shortest-by n room true b c e f g le (inl is) = omega (arith, is)
shortest-by n room true b c e f g le (inr (inl is)) = omega (arith, is)
shortest-by n room true b c e f g le (inr (inr (inl is))) = omega (arith, is)
shortest-by n room true b c e f g le (inr (inr (inr is))) = omega (arith, is)
shortest-by n room false b c e f g le (inl is) =
    absurd (too-long n 19 room (leb-false n 19 e) le is)
shortest-by n room false true c e f g le (inr (inl is)) = omega (arith, is)
shortest-by n room false true c e f g le (inr (inr (inl is))) = omega (arith, is)
shortest-by n room false true c e f g le (inr (inr (inr is))) = omega (arith, is)
shortest-by n room false false c e f g le (inr (inl is)) =
    absurd (too-long n 43 room (leb-false n 43 f) le is)
shortest-by n room false false true e f g le (inr (inr (inl is))) = omega (arith, is)
shortest-by n room false false true e f g le (inr (inr (inr is))) = omega (arith, is)
shortest-by n room false false false e f g le (inr (inr (inl is))) =
    absurd (too-long n 67 room (leb-false n 67 g) le is)
shortest-by n room false false false e f g le (inr (inr (inr is))) = omega (arith, is)

room-by : (n room : ℕ) (last : Bool) → nat_le n room ≡ last → IsLength (room + 5)
    → (if last then shortest_room n else room) ≤ room
room-by n room true e is =
    shortest-by n room (nat_le n 19) (nat_le n 43) (nat_le n 67) refl refl refl
    (leb-true n room e) is
room-by n room false e is = omega arith

-- ---- what a request sends

record Heads (place : Place) (s : Sent) : Type 0 where
  pub address : s.packet.address ≡ place.address
  pub index : s.packet.index ≡ place.index
  pub room : IsLength (place.room + 5) → s.packet.room ≤ place.room
  pub next_address : s.place.address ≡ place.address
  pub next_index : s.place.index ≡ (place.index + 1) % 4
  pub next_room : s.place.room ≡ place.room

heads : (place : Place) (group : List ℕ) (at : ℕ) → Heads place (packet_sent place group at)
heads place group at = record {
  address = refl;
  index = refl;
  room = λ is. room-by (length (drop at group)) place.room
      (nat_le (length (drop at group)) place.room) refl is;
  next_address = refl;
  next_index = refl;
  next_room = refl;
}

same-sent : (s t : Sent) → Some s ≡ Some t → s ≡ t
same-sent s t e = cc

nothing-sent : (t : Sent) → ◌≡◌ {A = Option Sent} None (Some t) → ⊥
nothing-sent t e = cc

first-heads : (place : Place) (segments : List Segment) (s : Sent)
    → first_sent place segments ≡ Some s → Heads place s
first-heads place [] s e = absurd (nothing-sent s e)
first-heads place (segment ∷ others) s e =
    let group = group_for place segment in
    let begun : Place = with_begun place group others in
    let all = heads begun (bytes_of_group group) 0 in
    subst (λ t. Heads place t) (same-sent (packet_sent begun (bytes_of_group group) 0) s e)
    (record {
      address = all.address;
      index = all.index;
      room = all.room;
      next_address = all.next_address;
      next_index = all.next_index;
      next_room = all.next_room;
    })

next-heads : (place : Place) (u : Option UnderWay) (s : Sent) → next_sent place u ≡ Some s
    → Heads place s
next-heads place None s e = first-heads place (to_send place) s e
next-heads place (Some u) s e =
    subst (λ t. Heads place t) (same-sent (packet_sent place u.group u.sent) s e)
    (heads place u.group u.sent)

request-heads : (place : Place) (s : Sent) → request place ≡ Some s → Heads place s
unfolding request
request-heads place s e = next-heads place place.under_way s e

-- ---- what requests send

abbrev fields_of : List Sent → List PacketFields
fields_of sents = map (λ (s : Sent). s.packet) sents

is-some : {A : Type 0} (x y : A) → Some x ≡ Some y → x ≡ y
is-some x y e = cc

heads_of : (p q : PacketFields) (ps qs : List PacketFields) → p ∷ ps ≡ q ∷ qs → (p ≡ q) × (ps ≡ qs)
heads_of p q ps qs e = (cc, cc)

record Split (packet : List ℕ) (packets : List (List ℕ)) (all : List PacketFields) : Type 0 where
  pub first : PacketFields
  pub others : List PacketFields
  pub read : read_packet packet ≡ Some first
  pub rest : read_each read_packet packets ≡ Some others
  pub same : all ≡ first ∷ others

split : (packet : List ℕ) (packets : List (List ℕ)) (all : List PacketFields)
    → read_each read_packet (packet ∷ packets) ≡ Some all → Split packet packets all
split packet packets all e =
    let one = >>=-some (read_packet packet)
    (λ (p : PacketFields). read_each read_packet packets >>= λ (ps : List PacketFields).
    Some (p ∷ ps)) all e in
    let two = >>=-some (read_each read_packet packets)
    (λ (ps : List PacketFields). Some (one.0 ∷ ps)) all one.2 in
    record {
      first = one.0;
      others = two.0;
      read = one.1;
      rest = two.1;
      same = sym (is-some (one.0 ∷ two.0) all two.2);
    }

none-of : (p : PacketFields) (ps : List PacketFields) (sents : List Sent) → fields_of sents ≡ p ∷ ps
    → sents ≡ [] → ⊥
none-of p ps sents e none = let is : [] ≡ p ∷ ps = sym (ap fields_of none) ∙ e in cc

abbrev sents_of : Option (List Sent × Place) → List Sent
sents_of None = []
sents_of (Some x) = x.0

module _ (g : Geometry) (is : IsLength g.packet) where
  length-of : packet_room g + 5 ≡ g.packet
  length-of = long g.packet is
    where
      long : (n : ℕ) → IsLength n → n - 5 + 5 ≡ n
      long n (inl e) = omega (arith, e)
      long n (inr (inl e)) = omega (arith, e)
      long n (inr (inr (inl e))) = omega (arith, e)
      long n (inr (inr (inr e))) = omega (arith, e)

  numbered : (count : ℕ) (place new : Place) (sents : List Sent) (packets : List (List ℕ))
      → sent_by place (replicate count Request) ≡ Some (sents, new)
      → read_each read_packet packets ≡ Some (fields_of sents) → place.address ≡ g.address
      → place.room ≡ packet_room g → AreNumbered g place.index packets
  unfolding sent_by
  numbered count place new sents [] sent read at room = tt
  numbered zero place new sents (packet ∷ packets) sent read at room =
      let s = split packet packets (fields_of sents) read in
      absurd (none-of s.first s.others sents s.same (sym (ap sents_of sent)))
  numbered (suc count) place new sents (packet ∷ packets) sent read at room =
      let one = >>=-some (request place)
      (λ (s : Sent). sent_by s.place (replicate count Request) >>= λ (more : List Sent × Place).
      Some (s ∷ more.0, more.1)) (sents, new) sent in
      let two = >>=-some (sent_by one.0.place (replicate count Request))
      (λ (more : List Sent × Place). Some (one.0 ∷ more.0, more.1)) (sents, new) one.2 in
      let all : sents ≡ one.0 ∷ two.0.0 = sym (ap sents_of two.2) in
      let s = split packet packets (fields_of sents) read in
      let same = heads_of s.first one.0.packet s.others (fields_of two.0.0)
      (sym s.same ∙ ap fields_of all) in
      let h = request-heads place one.0 one.1 in
      let fits : one.0.packet.room ≤ place.room =
      h.room (subst IsLength (sym (ap (λ n. n + 5) room ∙ length-of)) is) in
      let short : one.0.packet.room + 5 ≤ g.packet =
      omega (arith, fits, room, length-of) in (
        one.0.packet,
        s.read ∙ ap (λ (p : PacketFields). Some p) same.0,
        h.address ∙ at,
        h.index,
        short,
        subst (λ i. AreNumbered g i packets) h.next_index
            (numbered count one.0.place two.0.1 two.0.0 packets two.1
            (s.rest ∙ ap (λ (ps : List PacketFields). Some ps) same.1)
            (h.next_address ∙ at) (h.next_room ∙ room)),
      )

-- the packets of a first turn have the geometry's address, at most its length, and their indexes
pub turn_numbered : (g : Geometry) (size : ℕ) (turn : Turn) (packets : List (List ℕ))
    (place : Place)
    → IsLength g.packet
    → HasPlayedTurn (opened_place g.address (packet_room g) size turn) packets place
    → AreNumbered g 0 packets
turn_numbered g size turn packets place is played =
    numbered g is (played.before + 1) (opened_place g.address (packet_room g) size turn) place
    played.played.sents packets played.played.sent.steps
    (HasPlayedTurn-read (opened_place g.address (packet_room g) size turn) place packets played)
    refl refl
