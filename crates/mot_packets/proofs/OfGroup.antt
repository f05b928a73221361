-- The packets of a group can be written, and so they read back.
use Rattle.std.proofs.Common.{◌≡◌, ap, ◌*◌, get_or, ◌∙◌, ℕ, suc, zero, ◌+◌, ◌%◌, ◌<◌, ◌≤◌, List}
use Rattle.std.proofs.Common.{Bool, true, false, inl, inr, Some, refl, length, map, take, drop}
use Rattle.std.proofs.Common.{arith, length-take}
use Rattle.std.proofs.lemmas.Bool.{leb-true}
use Rattle.std.specs.Int.{div_ceil}
use Rattle.std.specs.Prelude.{nat_le, if◌then◌else◌}
use Rattle.mot_numbers.specs.PacketLength.{IsLength, room_of, shortest_room}
use Rattle.mot_numbers.specs.Reading.{read_each}
use Rattle.mot_numbers.specs.declared.packet_length.PacketLength.{PacketLength}
use Rattle.mot_numbers.specs.declared.packet_length.PacketLength.TheVariants.{P24, P48, P72, P96}
use Rattle.mot_packets.specs.Cut.{piece_at, pieces_from, pieces_of}
use Rattle.mot_packets.specs.Packet.{read_packet}
use Rattle.mot_packets.specs.Written.{IsPacket, bytes_of_packet, packets_of_group}
use Rattle.mot_packets.proofs.HeaderWord.{IsLength-room_of}
use Rattle.mot_packets.proofs.ReadBack.{read_packet-bytes_of_packet}

-- a data length that holds n bytes, and belongs to a packet
record Holds (n room : ℕ) : Type 0 where
  of_packet : IsLength (room + 5)
  holds : n ≤ room

Holds-shortest_by : (n : ℕ) (a b c : Bool) → nat_le n 19 ≡ a → nat_le n 43 ≡ b → nat_le n 67 ≡ c
    → n ≤ 91 →
    Holds n (if a then 19 else (if b then 43 else (if c then 67 else 91)))
Holds-shortest_by n true b c e f g h = record { of_packet = inl refl; holds = leb-true n 19 e }
Holds-shortest_by n false true c e f g h =
    record { of_packet = inr (inl refl); holds = leb-true n 43 f }
Holds-shortest_by n false false true e f g h =
    record { of_packet = inr (inr (inl refl)); holds = leb-true n 67 g }
Holds-shortest_by n false false false e f g h =
    record { of_packet = inr (inr (inr refl)); holds = h }

Holds-shortest_room : (n : ℕ) → n ≤ 91 → Holds n (shortest_room n)
Holds-shortest_room n h =
    Holds-shortest_by n (nat_le n 19) (nat_le n 43) (nat_le n 67) refl refl refl h

Holds-piece : (useful rest room : ℕ) (last : Bool) → nat_le rest room ≡ last → useful ≤ rest
    → useful ≤ room →
    room ≤ 91 → IsLength (room + 5) → Holds useful (if last then shortest_room rest else room)
Holds-piece useful rest room true e u v h r =
    let fits : rest ≤ room = leb-true rest room e in
    let shortest : Holds rest (shortest_room rest) = Holds-shortest_room rest (omega arith) in
    record { of_packet = shortest.of_packet; holds = omega (arith, shortest.holds) }
Holds-piece useful rest room false e u v h r = record { of_packet = r; holds = v }

room_of-le : (size : PacketLength) → room_of size ≤ 91
room_of-le P24 = omega arith
room_of-le P48 = omega arith
room_of-le P72 = omega arith
room_of-le P96 = omega arith

-- a piece of a group is a packet that can be written
pub IsPacket-piece_at : (size : PacketLength) (address index at : ℕ) (group : List ℕ) → 0 < address
    → address < 1024 →
    index < 4 → IsPacket (piece_at (room_of size) address index group at)
IsPacket-piece_at size address index at group low high i =
    let room : ℕ = room_of size in
    let rest : List ℕ = drop at group in
    let useful : length (take room rest) ≤ length rest = omega (arith, length-take room rest) in
    let useful' : length (take room rest) ≤ room = omega (arith, length-take room rest) in
    let holds = Holds-piece (length (take room rest)) (length rest) room (nat_le (length rest) room)
    refl useful useful'
    (room_of-le size) (IsLength-room_of size) in
    record { room = holds.of_packet; index = i; address = (low, high); useful = holds.holds }

read_each-pieces_from : (size : PacketLength) (address index n at : ℕ) (group : List ℕ)
    → 0 < address →
    address < 1024 →
    read_each read_packet (map bytes_of_packet
    (pieces_from n (room_of size) address index group at))
    ≡ Some (pieces_from n (room_of size) address index group at)
read_each-pieces_from size address index zero at group low high = refl
read_each-pieces_from size address index (suc n) at group low high =
    rw (
      read_packet-bytes_of_packet (piece_at (room_of size) address (index % 4) group at)
          (IsPacket-piece_at size address (index % 4) at group low high (omega arith)),
      read_each-pieces_from size address (index + 1) n (at + room_of size) group low high,
    ) refl

-- the packets of a group read back as its pieces
pub read_each-packets_of_group : (size : PacketLength) (address index : ℕ) (group : List ℕ)
    → 0 < address →
    address < 1024 →
    read_each read_packet (packets_of_group (room_of size) address index group)
    ≡ Some (pieces_of (room_of size) address index group)
read_each-packets_of_group size address index group low high =
    read_each-pieces_from size address index (div_ceil (length group) (room_of size)) 0 group low
    high

-- ---- how many they are, and each by its number

length-from : (room address n index at : ℕ) (group : List ℕ) →
    length (map bytes_of_packet (pieces_from n room address index group at)) ≡ n
length-from room address zero index at group = refl
length-from room address (suc n) index at group =
    ap suc (length-from room address n (index + 1) (at + room) group)

-- a group is cut into as many packets as its bytes fill, rounded up
pub length-packets_of_group : (room address index : ℕ) (group : List ℕ) →
    length (packets_of_group room address index group) ≡ div_ceil (length group) room
length-packets_of_group room address index group =
    length-from room address (div_ceil (length group) room) index 0 group

get_or-from : (room address n i index at : ℕ) (group other : List ℕ) → i < n →
    get_or (map bytes_of_packet (pieces_from n room address index group at)) i other
    ≡ bytes_of_packet (piece_at room address ((index + i) % 4) group (at + i * room))
get_or-from room address zero i index at group other l = absurd (omega arith)
get_or-from room address (suc n) zero index at group other l =
    let same : index ≡ index + 0 = omega arith in
    let here : at ≡ at + 0 * room = omega arith in
    ap (λ k. bytes_of_packet (piece_at room address (k % 4) group at)) same
    ∙ ap (λ k. bytes_of_packet (piece_at room address ((index + 0) % 4) group k)) here
get_or-from room address (suc n) (suc i) index at group other l =
    let next : (index + 1) + i ≡ index + suc i = omega arith in
    let further : (at + room) + i * room ≡ at + suc i * room = omega arith in
    get_or-from room address n i (index + 1) (at + room) group other (omega arith)
    ∙ ap (λ k. bytes_of_packet (piece_at room address (k % 4) group (at + room + i * room))) next
    ∙ ap (λ k. bytes_of_packet (piece_at room address ((index + suc i) % 4) group k)) further

-- the packet of a number, counted from 0
pub get_or-packets_of_group : (room address index i : ℕ) (group other : List ℕ) →
    i < div_ceil (length group) room →
    get_or (packets_of_group room address index group) i other
    ≡ bytes_of_packet (piece_at room address ((index + i) % 4) group (i * room))
get_or-packets_of_group room address index i group other l =
    let start : 0 + i * room ≡ i * room = omega arith in
    get_or-from room address (div_ceil (length group) room) i index 0 group other l
    ∙ ap (λ k. bytes_of_packet (piece_at room address ((index + i) % 4) group k)) start
