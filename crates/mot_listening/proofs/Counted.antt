-- The packets of a turn, by the lengths of what it carries.
use Rattle.std.proofs.Common.{◌≡◌, ◌∙◌, ℕ, zero, suc, ◌+◌, ◌-◌, ◌<◌, ◌≤◌, List, [], ◌∷◌, ◌++◌}
use Rattle.std.proofs.Common.{length, map, drop, replicate, min, refl, sym, ap, arith}
use Rattle.std.proofs.Common.{append-nil, false, if◌then◌else◌, nat_le, ◌*◌}
use Rattle.std.proofs.lemmas.Bool.Decides.{nat_tests}
use Rattle.mot_numbers.specs.PacketLength.{bytes_of, room_of, shortest_room}
use Rattle.mot_numbers.specs.declared.packet_length.PacketLength.{PacketLength}
use Rattle.mot_numbers.specs.declared.packet_length.PacketLength.TheVariants.{P24, P48, P72, P96}
use Rattle.mot_listening.specs.declared.turn.TurnSize.{TurnSize}
use Rattle.std.proofs.lemmas.List.{length-append, length-drop, length-replicate, length-take}
use Rattle.std.proofs.lemmas.List.Concat.{flat_map-append}
use Rattle.std.proofs.lemmas.Grind.{div_ceil_times}
use Rattle.std.proofs.lemmas.List.Sums.{fold-append, sum_by-append, sum_by-cons}
use Rattle.std.specs.Int.{div_ceil}
use Rattle.std.specs.List.{fold, sum}
use Rattle.mot_directory.specs.Directory.{bytes_of_directory}
use Rattle.mot_directory.specs.Entries.{directory_of}
use Rattle.mot_groups.specs.Entity.{first_pieces, numbered_segments, segments_of}
use Rattle.mot_groups.specs.Group.{Segment}
use Rattle.mot_objects.specs.Stands.{AreBodiesOf, carousel_of, objects_of}
use Rattle.mot_objects.specs.declared.carousel.Carousel.{Carousel}
use Rattle.mot_objects.specs.declared.object.Object.{Object}
use Rattle.mot_packets.specs.Cut.{pieces_from}
use Rattle.mot_packets.specs.Packet.{PacketFields}
use Rattle.mot_player.specs.Place.{packets_of_segments}
use Rattle.mot_player.specs.Turn.{Turn, bodies_with_ids, segments_of_bodies, turn_of_carousel}
use Rattle.mot_listening.specs.Lengths.{lengths_of_group, lengths_of_segments, lengths_of_turn}
use Rattle.mot_listening.specs.Entities.{entity_lengths, group_lengths, packet_length}
use Rattle.mot_listening.specs.Entities.{packet_lengths, segment_lengths, turn_lengths}

-- ---- a turn's packets are those of its entities' lengths

less : (len at room : ℕ) → len - (at + room) ≡ len - at - room
less len at room = omega arith

pieces-lengths : (n room index : ℕ) (group : List ℕ) (at : ℕ)
    → map (λ (p : PacketFields). p.room + 5) (pieces_from n room 0 index group at)
    ≡ packet_lengths n room (length group - at)
pieces-lengths zero room index group at = refl
pieces-lengths (suc n) room index group at =
    ap (λ m. packet_length room m ∷ map (λ (p : PacketFields). p.room + 5)
    (pieces_from n room 0 (index + 1) group (at + room))) (length-drop at group)
    ∙ ap (λ l. packet_length room (length group - at) ∷ l)
    (pieces-lengths n room (index + 1) group (at + room)
    ∙ ap (packet_lengths n room) (less (length group) at room))

minus-zero : (n : ℕ) → n - 0 ≡ n
minus-zero n = omega arith

pub group-lengths : (room n : ℕ) → lengths_of_group room n ≡ group_lengths room n
group-lengths room n =
    let zeros = length-replicate {A = ℕ} n 0 in
    pieces-lengths (div_ceil (length (replicate n 0)) room) room 0 (replicate n 0) 0
    ∙ ap (λ m. packet_lengths (div_ceil m room) room (m - 0)) zeros
    ∙ ap (packet_lengths (div_ceil n room) room) (minus-zero n)

-- as many as the group has
pub count-lengths : (n room rest : ℕ) → length (packet_lengths n room rest) ≡ n
count-lengths zero room rest = refl
count-lengths (suc n) room rest = ap suc (count-lengths n room (rest - room))

pub count-segments : (room : ℕ) (segments : List Segment)
    → length (lengths_of_segments room segments) ≡ packets_of_segments room segments
count-segments room [] = refl
count-segments room (s ∷ segments) =
    let bytes : ℕ = length s.bytes + 11 in
    length-append (lengths_of_group room bytes) (lengths_of_segments room segments)
    ∙ ap (λ n. n + length (lengths_of_segments room segments))
    (ap length (group-lengths room bytes) ∙ count-lengths (div_ceil bytes room) room bytes)
    ∙ ap (λ n. div_ceil bytes room + n) (count-segments room segments)
    ∙ sym (sum_by-cons (λ (s : Segment). div_ceil (length s.bytes + 11) room) s segments)

segments-lengths : (n room size kind tid number : ℕ) (bytes : List ℕ)
    → lengths_of_segments room (numbered_segments kind tid number (first_pieces n size bytes))
    ≡ segment_lengths n room size (length bytes)
segments-lengths zero room size kind tid number bytes = refl
segments-lengths (suc n) room size kind tid number bytes =
    let others = lengths_of_segments room
    (numbered_segments kind tid (number + 1) (first_pieces n size (drop size bytes))) in
    ap (λ m. lengths_of_group room (m + 11) ++ others) (length-take size bytes)
    ∙ ap (λ l. l ++ others) (group-lengths room (min size (length bytes) + 11))
    ∙ ap (λ l. group_lengths room (min size (length bytes) + 11) ++ l)
    (segments-lengths n room size kind tid (number + 1) (drop size bytes)
    ∙ ap (segment_lengths n room size) (length-drop size bytes))

entity-lengths : (room size kind tid : ℕ) (bytes : List ℕ)
    → lengths_of_segments room (segments_of kind tid size bytes)
    ≡ entity_lengths room size (length bytes)
entity-lengths room size kind tid bytes =
    segments-lengths (div_ceil (length bytes) size) room size kind tid 0 bytes

abbrev lengths : List (ℕ × List ℕ) → List ℕ
lengths bodies = map (λ (b : ℕ × List ℕ). length b.1) bodies

bodies-lengths : (room size : ℕ) (bodies : List (ℕ × List ℕ))
    → lengths_of_segments room (segments_of_bodies size bodies)
    ≡ turn_lengths room size (lengths bodies)
bodies-lengths room size [] = refl
bodies-lengths room size (b ∷ bodies) =
    flat_map-append (λ (s : Segment). lengths_of_group room (length s.bytes + 11))
    (segments_of 4 b.0 size b.1) (segments_of_bodies size bodies)
    ∙ ap (λ l. l ++ lengths_of_segments room (segments_of_bodies size bodies))
    (entity-lengths room size 4 b.0 b.1)
    ∙ ap (λ l. entity_lengths room size (length b.1) ++ l) (bodies-lengths room size bodies)

turn-lengths : (room size : ℕ) (turn : Turn)
    → lengths_of_turn room size turn
    ≡ turn_lengths room size (length turn.directory ∷ lengths turn.bodies)
turn-lengths room size turn =
    flat_map-append (λ (s : Segment). lengths_of_group room (length s.bytes + 11))
    (segments_of 6 turn.tid size turn.directory) (segments_of_bodies size turn.bodies)
    ∙ ap (λ l. l ++ lengths_of_segments room (segments_of_bodies size turn.bodies))
    (entity-lengths room size 6 turn.tid turn.directory)
    ∙ ap (λ l. entity_lengths room size (length turn.directory) ++ l)
    (bodies-lengths room size turn.bodies)

abbrev pub sizes : List Object → List ℕ
sizes objects = map (λ (o : Object). o.length) objects

others : (o : Object) (os : List Object) (b : List ℕ) (bodies : List (List ℕ))
    → map length (b ∷ bodies) ≡ sizes (o ∷ os) → map length bodies ≡ sizes os
others o os b bodies e = cc

first : (o : Object) (os : List Object) (b : List ℕ) (bodies : List (List ℕ))
    → map length (b ∷ bodies) ≡ sizes (o ∷ os) → length b ≡ o.length
first o os b bodies e = cc

bodies-sizes : (os : List Object) (bodies : List (List ℕ)) → map length bodies ≡ sizes os
    → lengths (bodies_with_ids (objects_of os bodies)) ≡ sizes os
bodies-sizes [] bodies e = refl
bodies-sizes (o ∷ os) [] e = absurd (cc)
bodies-sizes (o ∷ os) (b ∷ bodies) e =
    ap (λ n. n ∷ lengths (bodies_with_ids (objects_of os bodies))) (first o os b bodies e)
    ∙ ap (λ l. o.length ∷ l) (bodies-sizes os bodies (others o os b bodies e))

-- the packets of a carousel's turn, by the length of its directory and those of its objects
pub carousel-lengths : (room size directory : ℕ) (c : Carousel) (bodies : List (List ℕ))
    → AreBodiesOf c bodies
    → directory ≡ length (bytes_of_directory (directory_of (carousel_of c bodies) size))
    → turn_lengths room size (directory ∷ sizes c.objects.items)
    ≡ lengths_of_turn room size (turn_of_carousel (carousel_of c bodies) size)
carousel-lengths room size directory c bodies are is =
    ap (λ n. turn_lengths room size (n ∷ sizes c.objects.items)) is
    ∙ ap (λ l. turn_lengths room size
    (length (bytes_of_directory (directory_of (carousel_of c bodies) size)) ∷ l))
    (sym (bodies-sizes c.objects.items bodies are))
    ∙ sym (turn-lengths room size (turn_of_carousel (carousel_of c bodies) size))

-- ---- frames are filled one packet after the other

one_less : (count i : ℕ) → i < count → count - i ≡ suc (count - (i + 1))
one_less count i lt = omega (arith, lt)

none_left : (count i : ℕ) → count ≤ i → count - i ≡ 0
none_left count i le = omega (arith, le)

module _ {S : Type 0} (with_one : S → ℕ → S) (room : ℕ) (end : S) where
  -- one packet more of a group
  pub packet-more : (count i rest packet : ℕ) (mid new : S) → i < count
      → fold with_one mid (packet_lengths (count - i) room rest) ≡ end
      → packet ≡ packet_length room rest → new ≡ with_one mid packet
      → fold with_one new (packet_lengths (count - (i + 1)) room (rest - room)) ≡ end
  packet-more count i rest packet mid new lt is packet_is new_is =
      ap (λ f. fold with_one f (packet_lengths (count - (i + 1)) room (rest - room)))
      (new_is ∙ ap (with_one mid) packet_is)
      ∙ sym (ap (λ n. fold with_one mid (packet_lengths n room rest))
      (one_less count i lt))
      ∙ is

  -- all of them
  pub packets-all : (count i rest : ℕ) (mid : S) → count ≤ i
      → fold with_one mid (packet_lengths (count - i) room rest) ≡ end → mid ≡ end
  packets-all count i rest mid le is =
      sym (ap (λ n. fold with_one mid (packet_lengths n room rest))
      (none_left count i le)) ∙ is

  -- one segment more of an entity
  pub segment-more : (full count i rest group : ℕ) (mid new : S) → i < count
      → fold with_one mid (segment_lengths (count - i) room full rest) ≡ end
      → group ≡ min full rest + 11
      → new ≡ fold with_one mid (group_lengths room group)
      → fold with_one new (segment_lengths (count - (i + 1)) room full (rest - full))
      ≡ end
  segment-more full count i rest group mid new lt is group_is new_is =
      let others = segment_lengths (count - (i + 1)) room full (rest - full) in
      ap (λ f. fold with_one f others)
      (new_is ∙ ap (λ n. fold with_one mid (group_lengths room n)) group_is)
      ∙ sym (fold-append with_one mid (group_lengths room (min full rest + 11)) others)
      ∙ sym (ap (λ n. fold with_one mid (segment_lengths n room full rest))
      (one_less count i lt))
      ∙ is

  pub segments-all : (full count i rest : ℕ) (mid : S) → count ≤ i
      → fold with_one mid (segment_lengths (count - i) room full rest) ≡ end
      → mid ≡ end
  segments-all full count i rest mid le is =
      sym (ap (λ n. fold with_one mid (segment_lengths n room full rest))
      (none_left count i le)) ∙ is

-- one entity more
pub entity-more : {S : Type 0} (with_one : S → ℕ → S) (none : S) (room full : ℕ)
    (before : List ℕ) (len : ℕ) (mid new : S)
    → mid ≡ fold with_one none (turn_lengths room full before)
    → new ≡ fold with_one mid (entity_lengths room full len)
    → new ≡ fold with_one none (turn_lengths room full (before ++ len ∷ []))
entity-more with_one none room full before len mid new is new_is =
    new_is
    ∙ ap (λ f. fold with_one f (entity_lengths room full len)) is
    ∙ sym (fold-append with_one none (turn_lengths room full before)
    (entity_lengths room full len))
    ∙ ap (λ l. fold with_one none (turn_lengths room full before ++ l))
    (sym (append-nil (entity_lengths room full len)))
    ∙ ap (fold with_one none) (sym (flat_map-append (entity_lengths room full) before (len ∷ [])))

-- ---- groups and segments that are full, counted at once

abbrev pub sized : (packets bytes checksum : ℕ) → TurnSize
sized packets bytes checksum = record { packets = packets; bytes = bytes; checksum = checksum }

-- a full packet has five bytes more than its data field
pub full-bytes : (length : PacketLength) → bytes_of length ≡ room_of length + 5
full-bytes P24 = refl
full-bytes P48 = refl
full-bytes P72 = refl
full-bytes P96 = refl

pub sum-append : (xs ys : List ℕ) → sum (xs ++ ys) ≡ sum xs + sum ys
sum-append xs ys = sum_by-append (λ (y : ℕ). y) xs ys

sum-replicate : (n x : ℕ) → sum (replicate n x) ≡ n * x
sum-replicate zero x = omega arith
sum-replicate (suc n) x =
    let first = sum_by-cons (λ (y : ℕ). y) x (replicate n x) in
    omega (arith, first, sum-replicate n x)

-- the packets of a group: all but the last are full
full-but-last : (n room rest : ℕ) → n * room < rest
    → packet_lengths (suc n) room rest
    ≡ replicate n (room + 5) ++ packet_length room (rest - n * room) ∷ []
full-but-last zero room rest lt = ap (λ m. packet_length room m ∷ []) (omega arith)
full-but-last (suc n) room rest lt =
    let long : nat_le rest room ≡ false = grind (arith, nat_tests, lt) in
    let less : rest - room - n * room ≡ rest - suc n * room = omega arith in
    ap (λ b. ((if b then shortest_room rest else room) + 5) ∷ packet_lengths (suc n) room (rest - room)) long
    ∙ ap (λ l. (room + 5) ∷ l) (full-but-last n room (rest - room) (omega (arith, lt))
    ∙ ap (λ m. replicate n (room + 5) ++ packet_length room m ∷ []) less)

pub group-bytes : (n room group : ℕ) → 0 < room → div_ceil group room ≡ suc n
    → sum (group_lengths room group) ≡ n * (room + 5) + packet_length room (group - n * room)
group-bytes n room group some is =
    let within : n * room < group =
    let bound = (div_ceil_times group room some).1 in grind (arith, is, bound) in
    let last : ℕ = packet_length room (group - n * room) in
    let both = sum-append (replicate n (room + 5)) (last ∷ []) in
    ap (λ m. sum (packet_lengths m room group)) is
    ∙ ap sum (full-but-last n room group within)
    ∙ omega (arith, both, sum-replicate n (room + 5))

-- what is summed of the packets of an entity: all groups but the last have a full segment
module _ (f : List ℕ → ℕ) (more : (xs ys : List ℕ) → f (xs ++ ys) ≡ f xs + f ys) where
  segments-but-last : (n room size rest : ℕ) → n * size < rest → rest ≤ n * size + size
      → f (segment_lengths (suc n) room size rest)
      ≡ n * f (group_lengths room (size + 11)) + f (group_lengths room (rest - n * size + 11))
  segments-but-last zero room size rest lt le =
      let least : min size rest ≡ rest - 0 * size = omega (arith, le) in
      let all = ap f (append-nil (group_lengths room (min size rest + 11)))
      ∙ ap (λ m. f (group_lengths room (m + 11))) least in
      omega (arith, all)
  segments-but-last (suc n) room size rest lt le =
      let least : min size rest ≡ size = omega (arith, lt) in
      let less : rest - size - n * size ≡ rest - suc n * size = omega arith in
      let first = more (group_lengths room (min size rest + 11))
      (segment_lengths (suc n) room size (rest - size)) in
      let one = ap (λ m. f (group_lengths room (m + 11))) least in
      let others = segments-but-last n room size (rest - size) (omega (arith, lt))
      (omega (arith, lt, le)) in
      let last = ap (λ m. f (group_lengths room (m + 11))) less in
      omega (arith, first, one, others, last)

  pub entity-sum : (n room size entity : ℕ) → 0 < size → div_ceil entity size ≡ suc n
      → f (entity_lengths room size entity)
      ≡ n * f (group_lengths room (size + 11)) + f (group_lengths room (entity - n * size + 11))
  entity-sum n room size entity some is =
      let bound = div_ceil_times entity size some in
      let less = bound.1 in
      let all = bound.0 in
      ap (λ m. f (segment_lengths m room size entity)) is
      ∙ segments-but-last n room size entity (grind (arith, is, less)) (grind (arith, is, all))

-- one entity more
pub entity-behind : (f : List ℕ → ℕ) → ((xs ys : List ℕ) → f (xs ++ ys) ≡ f xs + f ys)
    → (room size : ℕ) (before : List ℕ) (len : ℕ)
    → f (turn_lengths room size (before ++ len ∷ []))
    ≡ f (turn_lengths room size before) + f (entity_lengths room size len)
entity-behind f more room size before len =
    ap f (flat_map-append (entity_lengths room size) before (len ∷ [])
    ∙ ap (λ l. turn_lengths room size before ++ l) (append-nil (entity_lengths room size len)))
    ∙ more (turn_lengths room size before) (entity_lengths room size len)

pub same-size : (p p' b b' c c' : ℕ) → p ≡ p' → b ≡ b' → c ≡ c'
    → sized p b c ≡ sized p' b' c'
same-size p p' b b' c c' ps bs cs = cc
