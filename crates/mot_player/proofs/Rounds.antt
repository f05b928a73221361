-- Sixteen turns behind an opening can be sent round and round.
use Rattle.std.proofs.Common.{◌≡◌, ℕ, zero, suc, ◌+◌, ◌-◌, ◌*◌, ◌%◌, ◌<◌, ◌≤◌, List, [], ◌∷◌, ◌++◌}
use Rattle.std.proofs.Common.{Bool, true, false, Option, Some, None, refl, sym, ap, ◌∙◌, subst, map}
use Rattle.std.proofs.Common.{length, take, drop, replicate, arith, length-append, length-drop}
use Rattle.std.proofs.lemmas.Bool.{and_parts, leb-true}
use Rattle.std.proofs.lemmas.List.{map-append}
use Rattle.std.proofs.lemmas.Option.{none-some, same_Some, some_pair_parts}
use Rattle.std.specs.Prelude.{◌&&◌, ◌==◌, flat_map, if◌then◌else◌}
use Rattle.std.specs.Int.{div_ceil}
use Rattle.std.specs.List.{AllByRecursion, list_all}
use Rattle.mot_groups.specs.Group.{GroupFields, Segment, bytes_of_group, segment_content}
use Rattle.mot_numbers.proofs.Laws.{length-read_each, read_each-append, >>=-some}
use Rattle.mot_numbers.specs.Reading.{◌>>=◌, is_empty, read_each}
use Rattle.mot_packets.specs.Cut.{piece_at}
use Rattle.mot_packets.specs.Gather.{gather_front, groups_after, may_follow}
use Rattle.mot_packets.specs.Packet.{PacketFields, read_packet}
use Rattle.mot_packets.proofs.Laws.{groups_after-last_piece, groups_after-piece, more_left}
use Rattle.mot_groups.proofs.Laws.{length-bytes_of_group}
use Rattle.mot_player.specs.Continuity.{IsContinuous, contents, group_index, indexes_after}
use Rattle.mot_player.specs.Continuity.{packet_index, packet_indexes_from}
use Rattle.mot_player.specs.Place.{Place, Sent, Step, Request, first_sent, group_for, next_sent}
use Rattle.mot_player.specs.Place.{opened_place, packet_sent, request, sent_by, with_begun}
use Rattle.mot_player.specs.Rounds.{AreWholeTurns, IsWholeTurn, RoundsAreContinuous, rounds_of}
use Rattle.mot_player.specs.Turn.{Turn, segments_of_turn}
use Rattle.mot_player.proofs.Addresses.{one_address, steps-address}
use Rattle.mot_player.proofs.Continuous.{AreKinds-turn, IsKind, contents-one, kind-fits}
use Rattle.mot_player.proofs.Continuous.{steps-are-continuous}
use Rattle.mot_player.proofs.Cycles.{indexes-rounds}
use Rattle.mot_player.proofs.GoesOn.{steps-go_on}
use Rattle.mot_player.proofs.Indexes.{contents-append, some_bytes-group}
use Rattle.mot_player.proofs.Requests.{FirstRequest, first_request, packets_of, place_behind}
use Rattle.mot_player.proofs.WholeTurn.{ends_of, head-false, head-true, last_ends}

-- two counts of pieces of one length are the same
same_count : (a b room left : ℕ) → left ≤ a * room → a * room < left + room → left ≤ b * room →
    b * room < left + room → a ≡ b
same_count a b room left a_holds a_least b_holds b_least = grind arith

last_count : (left room : ℕ) → 0 < left → left ≤ room → div_ceil left room ≡ 1
last_count left room some fits = grind arith

more_count : (left room : ℕ) → 0 < room → room < left →
    div_ceil left room ≡ suc (div_ceil (left - room) room)
more_count left room some more = grind arith

-- how many packets the groups of segments take
packets_for : ℕ → List Segment → ℕ
packets_for room [] = 0
packets_for room (s ∷ segments) = div_ceil (length s.bytes + 11) room + packets_for room segments

-- between two turns of the same player
record IsBetween (old new : Place) : Type 0 where
  under_way : new.under_way ≡ None
  waiting : new.waiting ≡ []
  room : new.room ≡ old.room
  turn : new.turn ≡ old.turn
  size : new.segment_size ≡ old.segment_size

-- the rest of a group and the groups of these segments were sent to the turn's end
record Leaves (front group : List ℕ) (at : ℕ) (segments : List Segment) (place : Place)
    (packets : List PacketFields) (new : Place) : Type 0 where
  groups : List GroupFields
  gathered : groups_after front packets ≡ Some (group ∷ map bytes_of_group groups, [])
  carry : map (λ (g : GroupFields). g.segment) groups ≡ segments
  count : length packets ≡ div_ceil (length group - at) place.room + packets_for place.room segments
  between : IsBetween place new

pub is_last : (place : Place) (group : List ℕ) (at : ℕ) → at < length group →
    (piece_at place.room place.address place.index group at).last ≡ true →
    div_ceil (length group - at) place.room ≡ 1
is_last place group at inside last =
    grind (arith, last_count, leb-true, length-drop)

pub is_more : (place : Place) (group : List ℕ) (at : ℕ) → 0 < place.room →
    (piece_at place.room place.address place.index group at).last ≡ false →
    div_ceil (length group - at) place.room
    ≡ suc (div_ceil (length group - (at + place.room)) place.room)
is_more place group at some last =
    let more = more_left place.room place.address place.index at group last in
    let less : length group - at - place.room ≡ length group - (at + place.room) =
    omega (arith, more) in
    more_count (length group - at) place.room some (omega (arith, more))
    ∙ ap (λ (n : ℕ). suc (div_ceil n place.room)) less

pub group-count : (place : Place) (g : GroupFields) →
    div_ceil (length (bytes_of_group g) - 0) place.room
    ≡ div_ceil (length g.segment.bytes + 11) place.room
group-count place g = grind (arith, length-bytes_of_group)

turn-leaves : (n : ℕ) (last : Bool) (place : Place) (waiting : List Segment) (group : List ℕ)
    (at : ℕ)
    (sents : List Sent) (new : Place) →
    (piece_at place.room place.address place.index group at).last ≡ last → at < length group →
    0 < place.room →
    sent_by (place_behind (record place { waiting = waiting }) group at last) (replicate n Request)
    ≡ Some (sents, new) →
    (last && is_empty waiting) ∷ ends_of sents ≡ last_ends n →
    Leaves (take at group) group at waiting place
    (piece_at place.room place.address place.index group at ∷ packets_of sents) new
unfolding request groups_after sent_by packets_for
turn-leaves zero true place [] group at sents new l inside r h f =
    let here : Place = place_behind (record place { waiting = [] }) group at true in
    let parts = some_pair_parts [] sents here new h in
    let piece : PacketFields = piece_at place.room place.address place.index group at in
    subst (λ (ss : List Sent). Leaves (take at group) group at [] place (piece ∷ packets_of ss) new)
    parts.0
    (subst (λ (p : Place). Leaves (take at group) group at [] place (piece ∷ []) p) parts.1
    (record {
      groups = [];
      gathered = groups_after-last_piece place.room place.address place.index at group [] [] [] r
          inside l refl;
      carry = refl;
      count = omega (arith, is_last place group at inside l);
      between = record { under_way = refl; waiting = refl; room = refl; turn = refl; size = refl };
    }))
turn-leaves zero true place (t ∷ waiting) group at sents new l inside r h f =
    absurd (head-false (ends_of sents) [] f)
turn-leaves zero false place waiting group at sents new l inside r h f =
    absurd (head-false (ends_of sents) [] f)
turn-leaves (suc m) true place [] group at sents new l inside r h f =
    absurd (head-true (ends_of sents) (last_ends m) f)
turn-leaves (suc m) true place (t ∷ waiting) group at sents new l inside r h f =
    let here : Place = place_behind (record place { waiting = t ∷ waiting }) group at true in
    let q : FirstRequest here (replicate m Request) sents new =
    first_request here (replicate m Request) sents new h in
    let g : GroupFields = group_for here t in
    let begun : Place = with_begun here g waiting in
    let first : Sent = packet_sent begun (bytes_of_group g) 0 in
    let same : first ≡ q.first = same_Some first q.first q.asked in
    let rest : sent_by first.place (replicate m Request) ≡ Some (q.others, new) =
    ap (λ (x : Sent). sent_by x.place (replicate m Request)) same ∙ q.rest in
    let flags : first.ends_turn ∷ ends_of q.others ≡ last_ends m =
    ap (λ (x : Sent). x.ends_turn ∷ ends_of q.others) same ∙ ap ends_of (sym q.all)
    ∙ ap (drop 1) f in
    let others : Leaves [] (bytes_of_group g) 0 waiting begun (first.packet ∷ packets_of q.others)
    new =
    turn-leaves m first.packet.last begun waiting (bytes_of_group g) 0 q.others new refl
    (some_bytes-group g) r
    rest flags in
    let piece : PacketFields = piece_at place.room place.address place.index group at in
    let all : first.packet ∷ packets_of q.others ≡ packets_of sents =
    ap (λ (x : Sent). x.packet ∷ packets_of q.others) same ∙ ap packets_of (sym q.all) in
    subst (λ (ps : List PacketFields).
    Leaves (take at group) group at (t ∷ waiting) place (piece ∷ ps) new) all (record {
      groups = g ∷ others.groups;
      gathered = groups_after-last_piece place.room place.address place.index at group
          (first.packet ∷ packets_of q.others) (bytes_of_group g ∷ map bytes_of_group others.groups)
          [] r inside l others.gathered;
      carry = ap (λ segments. t ∷ segments) others.carry;
      count = omega (arith, is_last place group at inside l, others.count, group-count place g);
      between = record {
        under_way = others.between.under_way;
        waiting = others.between.waiting;
        room = others.between.room;
        turn = others.between.turn;
        size = others.between.size;
      };
    })
turn-leaves (suc m) false place waiting group at sents new l inside r h f =
    let here : Place = place_behind (record place { waiting = waiting }) group at false in
    let q : FirstRequest here (replicate m Request) sents new =
    first_request here (replicate m Request) sents new h in
    let first : Sent = packet_sent here group (at + place.room) in
    let same : first ≡ q.first = same_Some first q.first q.asked in
    let rest : sent_by first.place (replicate m Request) ≡ Some (q.others, new) =
    ap (λ (x : Sent). sent_by x.place (replicate m Request)) same ∙ q.rest in
    let flags : first.ends_turn ∷ ends_of q.others ≡ last_ends m =
    ap (λ (x : Sent). x.ends_turn ∷ ends_of q.others) same ∙ ap ends_of (sym q.all)
    ∙ ap (drop 1) f in
    let others : Leaves (take (at + place.room) group) group (at + place.room) waiting here
    (first.packet ∷ packets_of q.others) new =
    turn-leaves m first.packet.last here waiting group (at + place.room) q.others new refl
    (more_left place.room place.address place.index at group l) r rest flags in
    let piece : PacketFields = piece_at place.room place.address place.index group at in
    let all : first.packet ∷ packets_of q.others ≡ packets_of sents =
    ap (λ (x : Sent). x.packet ∷ packets_of q.others) same ∙ ap packets_of (sym q.all) in
    subst (λ (ps : List PacketFields).
    Leaves (take at group) group at waiting place (piece ∷ ps) new) all (record {
      groups = others.groups;
      gathered = groups_after-piece place.room place.address place.index at group
          (first.packet ∷ packets_of q.others) (group ∷ map bytes_of_group others.groups) [] r
          inside l others.gathered;
      carry = others.carry;
      count = omega (arith, is_more place group at r l, others.count);
      between = record {
        under_way = others.between.under_way;
        waiting = others.between.waiting;
        room = others.between.room;
        turn = others.between.turn;
        size = others.between.size;
      };
    })

-- a turn was sent from between two turns
record Gathers (segments : List Segment) (old : Place) (packets : List PacketFields) (new : Place) :
    Type 0 where
  groups : List GroupFields
  gathered : groups_after [] packets ≡ Some (map bytes_of_group groups, [])
  carry : map (λ (g : GroupFields). g.segment) groups ≡ segments
  count : length packets ≡ packets_for old.room segments
  between : IsBetween old new

first-gathers : (n : ℕ) (place : Place) (segments : List Segment) (s : Sent) (others : List Sent)
    (new : Place) →
    0 < place.room → place.under_way ≡ None → first_sent place segments ≡ Some s →
    sent_by s.place (replicate n Request) ≡ Some (others, new)
    → s.ends_turn ∷ ends_of others ≡ last_ends n →
    Gathers segments place (s.packet ∷ packets_of others) new
unfolding packets_for
first-gathers n place [] s others new r u e h f = absurd (none-some s e)
first-gathers n place (t ∷ segments) s others new r u e h f =
    let g : GroupFields = group_for place t in
    let begun : Place = with_begun place g segments in
    let first : Sent = packet_sent begun (bytes_of_group g) 0 in
    let same : first ≡ s = same_Some first s e in
    let rest : sent_by first.place (replicate n Request) ≡ Some (others, new) =
    ap (λ (x : Sent). sent_by x.place (replicate n Request)) same ∙ h in
    let flags : first.ends_turn ∷ ends_of others ≡ last_ends n =
    ap (λ (x : Sent). x.ends_turn ∷ ends_of others) same ∙ f in
    let behind : Leaves [] (bytes_of_group g) 0 segments begun (first.packet ∷ packets_of others)
    new =
    turn-leaves n first.packet.last begun segments (bytes_of_group g) 0 others new refl
    (some_bytes-group g) r
    rest flags in
    subst (λ (x : Sent). Gathers (t ∷ segments) place (x.packet ∷ packets_of others) new) same
    (record {
      groups = g ∷ behind.groups;
      gathered = behind.gathered;
      carry = ap (λ ss. t ∷ ss) behind.carry;
      count = omega (arith, behind.count, group-count place g);
      between = record {
        under_way = behind.between.under_way;
        waiting = behind.between.waiting;
        room = behind.between.room;
        turn = behind.between.turn;
        size = behind.between.size;
      };
    })

whole_where_none : (waiting whole : List Segment) → waiting ≡ []
    → (if is_empty waiting then whole else waiting) ≡ whole
whole_where_none waiting whole e = grind arith

turn-gathers : (old : Place) (sents : List Sent) (new : Place) → IsWholeTurn old sents new
    → 0 < old.room →
    old.under_way ≡ None → old.waiting ≡ [] →
    Gathers (segments_of_turn old.turn old.segment_size) old (packets_of sents) new
unfolding request
turn-gathers old sents new turn r u w =
    let n : ℕ = turn.before in
    let whole : List Segment = segments_of_turn old.turn old.segment_size in
    let q : FirstRequest old (replicate n Request) sents new =
    first_request old (replicate n Request) sents new turn.steps in
    let first : first_sent old whole ≡ Some q.first =
    ap (first_sent old) (sym (whole_where_none old.waiting whole w)) ∙ ap (next_sent old) (sym u)
    ∙ q.asked in
    subst (λ (ss : List Sent). Gathers whole old (packets_of ss) new) (sym q.all)
    (first-gathers n old whole q.first q.others new r u first q.rest
    (ap ends_of (sym q.all) ∙ turn.ends))

pub kept : {A : Type 0} (b : Bool) (x y : A) → (if b then Some x else None) ≡ Some y
    → (b ≡ true) × (x ≡ y)
kept h0 x y e = grind arith

group-then : {A : Type 0} (last : Bool) (x : A) (xs ys : List A) →
    (if last then x ∷ (xs ++ ys) else xs ++ ys) ≡ (if last then x ∷ xs else xs) ++ ys
group-then h0 x xs ys = grind arith

-- whole groups stand in front of others
groups-then : (packets more : List PacketFields) (front : List ℕ) (groups others : List (List ℕ)) →
    groups_after front packets ≡ Some (groups, []) → groups_after [] more ≡ Some (others, []) →
    groups_after front (packets ++ more) ≡ Some (groups ++ others, [])
unfolding groups_after
groups-then [] more front groups others e f =
    let parts = some_pair_parts [] groups front [] e in
    ap (λ (begun : List ℕ). groups_after begun more) parts.1 ∙ f
    ∙ ap (λ (gs : List (List ℕ)). Some (gs ++ others, [])) parts.0
groups-then (p ∷ packets) more front groups others e f =
    let so_far : List ℕ = front ++ p.useful in
    let next : List ℕ = if p.last then [] else so_far in
    let one = >>=-some (groups_after next packets) (λ (rest : List (List ℕ) × List ℕ).
    if may_follow front p then Some (if p.last then so_far ∷ rest.0 else rest.0, rest.1) else None)
    (groups, []) e in
    let ok = kept (may_follow front p) (if p.last then so_far ∷ one.0.0 else one.0.0, one.0.1)
    (groups, []) one.2 in
    let parts = some_pair_parts (if p.last then so_far ∷ one.0.0 else one.0.0) groups one.0.1 []
    (ap Some ok.1) in
    let inner : groups_after next (packets ++ more) ≡ Some (one.0.0 ++ others, []) =
    groups-then packets more next one.0.0 others
    (one.1 ∙ ap (λ (r : List ℕ). Some (one.0.0, r)) parts.1) f in
    let all : List (List ℕ) = one.0.0 ++ others in
    ap (λ (o : Option (List (List ℕ) × List ℕ)). o >>= λ (rest : List (List ℕ) × List ℕ).
    if may_follow front p then Some (if p.last then so_far ∷ rest.0 else rest.0, rest.1) else None)
    inner
    ∙ ap (λ (b : Bool). if b then Some (if p.last then so_far ∷ all else all, []) else None) ok.0
    ∙ ap (λ (gs : List (List ℕ)). Some (gs, []))
    (group-then p.last so_far one.0.0 others ∙ ap (λ (gs : List (List ℕ)). gs ++ others) parts.0)

-- the contents of the segments of a type
contents_of : ℕ → List Segment → List (List ℕ)
contents_of kind [] = []
contents_of kind (s ∷ segments) =
    (if s.kind == kind then segment_content s ∷ [] else []) ++ contents_of kind segments

contents-of_groups : (kind : ℕ) (groups : List GroupFields) →
    AllByRecursion IsKind (map (λ (g : GroupFields). g.segment) groups) →
    contents kind (map bytes_of_group groups)
    ≡ contents_of kind (map (λ (g : GroupFields). g.segment) groups)
unfolding contents_of
contents-of_groups kind [] are = refl
contents-of_groups kind (g ∷ groups) are =
    contents-append kind (bytes_of_group g ∷ []) (map bytes_of_group groups)
    ∙ ap (λ (l : List (List ℕ)). l ++ contents kind (map bytes_of_group groups))
    (contents-one kind g (kind-fits g.segment are.0))
    ∙ ap (λ (l : List (List ℕ)).
    (if g.segment.kind == kind then segment_content g.segment ∷ [] else []) ++ l)
    (contents-of_groups kind groups are.1)

times : ℕ → ℕ → ℕ
times zero n = 0
times (suc k) n = n + times k n

packets-then : (sents others : List Sent)
    → packets_of (sents ++ others) ≡ packets_of sents ++ packets_of others
packets-then sents others = map-append (λ (s : Sent). s.packet) sents others

-- so many turns were sent, each of these segments
record Turns (turns : ℕ) (segments : List Segment) (old : Place) (sents : List Sent) (new : Place) :
    Type 0 where
  groups : List (List ℕ)
  gathered : groups_after [] (packets_of sents) ≡ Some (groups, [])
  cycles : (kind : ℕ) → contents kind groups ≡ rounds_of turns (contents_of kind segments)
  count : length (packets_of sents) ≡ times turns (packets_for old.room segments)
  steps : List Step
  sent : sent_by old steps ≡ Some (sents, new)

-- what turns one behind the other sent
abbrev sents_of : List (List Sent) → List Sent
sents_of turns = flat_map (λ (sents : List Sent). sents) turns

turns-gather : (turns : List (List Sent)) (old new : Place) (room size : ℕ) (turn : Turn) → 0 < room
    →
    old.room ≡ room → old.segment_size ≡ size → old.turn ≡ turn → old.under_way ≡ None
    → old.waiting ≡ [] →
    AreWholeTurns old turns new
    → Turns (length turns) (segments_of_turn turn size) old (sents_of turns) new
unfolding groups_after sent_by times
turns-gather [] old new room size turn some is_room is_size is_turn u w are =
    subst (λ (p : Place). Turns 0 (segments_of_turn turn size) old [] p) (sym are) (record {
      groups = [];
      gathered = refl;
      cycles = λ kind. refl;
      count = refl;
      steps = [];
      sent = refl;
    })
turns-gather (sents ∷ turns) old new room size turn some is_room is_size is_turn u w are =
    let mid : Place = are.0 in
    let whole : List Segment = segments_of_turn turn size in
    let same : segments_of_turn old.turn old.segment_size ≡ whole =
    ap (λ (t : Turn). segments_of_turn t old.segment_size) is_turn
    ∙ ap (segments_of_turn turn) is_size in
    let first = turn-gathers old sents mid are.1 (omega (arith, some, is_room)) u w in
    let b = first.between in
    let others : Turns (length turns) whole mid (sents_of turns) new =
    turns-gather turns mid new room size turn some (b.room ∙ is_room) (b.size ∙ is_size)
    (b.turn ∙ is_turn)
    b.under_way b.waiting are.2 in
    let carry : map (λ (g : GroupFields). g.segment) first.groups ≡ whole = first.carry ∙ same in
    let kinds : AllByRecursion IsKind (map (λ (g : GroupFields). g.segment) first.groups) =
    subst (AllByRecursion IsKind) (sym carry) (AreKinds-turn turn size) in
    let both = packets-then sents (sents_of turns) in
    record {
      groups = map bytes_of_group first.groups ++ others.groups;
      gathered = ap (groups_after []) both
          ∙ groups-then (packets_of sents) (packets_of (sents_of turns)) []
          (map bytes_of_group first.groups)
          others.groups first.gathered others.gathered;
      cycles = λ kind.
          contents-append kind (map bytes_of_group first.groups) others.groups
          ∙ ap (λ (l : List (List ℕ)). l ++ contents kind others.groups)
          (contents-of_groups kind first.groups kinds ∙ ap (contents_of kind) carry)
          ∙ ap (λ (l : List (List ℕ)). contents_of kind whole ++ l) (others.cycles kind);
      count = ap length both ∙ length-append (packets_of sents) (packets_of (sents_of turns))
          ∙ ap (λ (n : ℕ). n + length (packets_of (sents_of turns))) (first.count
          ∙ ap (packets_for old.room) same)
          ∙ ap (λ (n : ℕ). packets_for old.room whole + n) (others.count
          ∙ ap (λ (r : ℕ). times (length turns) (packets_for r whole)) b.room);
      steps = (Request ∷ replicate are.1.before Request) ++ others.steps;
      sent = steps-go_on (Request ∷ replicate are.1.before Request) others.steps old mid new sents
          (sents_of turns) are.1.steps others.sent;
    }

-- from numbers that are the same modulo 4 on, the indexes are the same
indexes-from : (n k : ℕ) (packets : List (List ℕ)) → n % 4 ≡ k % 4 →
    packet_indexes_from n packets ≡ packet_indexes_from k packets
indexes-from n k [] e = refl
indexes-from n k (p ∷ packets) e =
    let next : (n + 1) % 4 ≡ (k + 1) % 4 = omega (arith, e) in
    ap (λ (i : ℕ). i ∷ packet_indexes_from (n + 1) packets) e
    ∙ ap (λ (l : List ℕ). k % 4 ∷ l) (indexes-from (n + 1) (k + 1) packets next)

indexes-then : (n : ℕ) (packets more : List (List ℕ)) → packet_indexes_from n (packets ++ more)
    ≡ packet_indexes_from n packets ++ packet_indexes_from (n + length packets) more
indexes-then n [] more = indexes-from n (n + 0) more (omega arith)
indexes-then n (p ∷ packets) more =
    grind (arith, indexes-then (n + 1) packets more)

packet-rounds : (rounds : ℕ) (packets : List (List ℕ)) → length packets % 4 ≡ 0 →
    rounds_of rounds (packet_indexes_from 0 packets)
    ≡ packet_indexes_from 0 (rounds_of rounds packets)
packet-rounds zero packets even = refl
packet-rounds (suc n) packets even =
    grind (arith, packet-rounds n packets even, indexes-from, indexes-then)

read-rounds : {A B : Type 0} (read : A → Option B) (n : ℕ) (xs : List A) (ys : List B) →
    read_each read xs ≡ Some ys → read_each read (rounds_of n xs) ≡ Some (rounds_of n ys)
read-rounds read zero xs ys e = refl
read-rounds read (suc n) xs ys e =
    read_each-append read xs (rounds_of n xs) ys (rounds_of n ys) e (read-rounds read n xs ys e)

all-then : {A : Type 0} (p : A → Bool) (xs ys : List A) → list_all p xs ≡ true
    → list_all p ys ≡ true →
    list_all p (xs ++ ys) ≡ true
all-then p [] ys e f = f
all-then p (x ∷ xs) ys e f =
    let parts = and_parts (p x) (list_all p xs) e in
    rw (parts.0, all-then p xs ys parts.1 f) refl

groups-rounds : (n : ℕ) (packets : List PacketFields) (groups : List (List ℕ)) →
    groups_after [] packets ≡ Some (groups, []) →
    groups_after [] (rounds_of n packets) ≡ Some (rounds_of n groups, [])
unfolding groups_after
groups-rounds zero packets groups e = refl
groups-rounds (suc n) packets groups e =
    groups-then packets (rounds_of n packets) [] groups (rounds_of n groups) e
    (groups-rounds n packets groups e)

times-four : (n : ℕ) → times 16 n % 4 ≡ 0
unfolding times
times-four n = omega arith

rounds-address : (n : ℕ) (p : PacketFields → Bool) (packets : List PacketFields)
    → list_all p packets ≡ true →
    list_all p (rounds_of n packets) ≡ true
rounds-address zero p packets e = refl
rounds-address (suc n) p packets e =
    all-then p packets (rounds_of n packets) e (rounds-address n p packets e)

-- sixteen turns behind an opening can be sent round and round
pub rounds_are_continuous : RoundsAreContinuous
unfolding gather_front
rounds_are_continuous address room size turn turns new packets rounds some sixteen are read =
    let opened : Place = opened_place address room size turn in
    let whole : List Segment = segments_of_turn turn size in
    let fields : List PacketFields = packets_of (sents_of turns) in
    let sent : Turns 16 whole opened (sents_of turns) new =
    subst (λ (n : ℕ). Turns n whole opened (sents_of turns) new) sixteen
    (turns-gather turns opened new room size turn some refl refl refl refl refl are) in
    let once : IsContinuous packets =
    steps-are-continuous address room size turn None sent.steps (sents_of turns) new packets some
    sent.sent read in
    let same_address : list_all (λ (p : PacketFields). p.address == address) fields ≡ true =
    steps-address sent.steps opened (sents_of turns) new sent.sent in
    let gathered : gather_front packets ≡ Some (sent.groups, []) =
    rw (read, one_address address fields same_address, sent.gathered) refl in
    let parts = some_pair_parts sent.groups once.groups [] once.begun
    (sym gathered ∙ once.gathered) in
    let indexes : map group_index sent.groups ≡ indexes_after [] sent.groups =
    subst (λ (gs : List (List ℕ)). map group_index gs ≡ indexes_after [] gs) (sym parts.0)
    once.group_indexes in
    let even : length packets % 4 ≡ 0 =
    ap (λ (n : ℕ). n % 4) (length-read_each read_packet packets fields read ∙ sent.count)
    ∙ times-four (packets_for room whole) in
    record {
      groups = rounds_of rounds sent.groups;
      begun = [];
      gathered = rw (
        read-rounds read_packet rounds packets fields read,
        one_address address (rounds_of rounds fields)
            (rounds-address rounds (λ (p : PacketFields). p.address == address) fields
            same_address),
        groups-rounds rounds fields sent.groups sent.gathered,
      ) refl;
      packet_indexes = read-rounds packet_index rounds packets (packet_indexes_from 0 packets)
          once.packet_indexes
          ∙ ap (λ (l : List ℕ). Some l) (packet-rounds rounds packets even);
      group_indexes = indexes-rounds rounds 0 sent.groups
          (λ kind. (contents_of kind whole, sent.cycles kind)) indexes;
    }
