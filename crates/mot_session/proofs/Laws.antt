-- What holds of every raw reply; and, for the crates above, of answers on every disk, and of some
-- first bytes that were written.

-- what a command is answered, and a line that was parsed, told of what is kept in memory
pub use Rattle.mot_session.proofs.Anyhow.{anyhow-accepted, anyhow-refused, answers-parsed}
-- lines that were served one after the other
pub use Rattle.mot_session.proofs.Each.{each-on, server_on, some-on}
-- some first bytes that were written
pub use Rattle.mot_session.proofs.Fronts.{WritesFront-after, WritesFront-all, WritesFront-before}
pub use Rattle.mot_session.proofs.Fronts.{Writes-after, Writes-kept}
use Rattle.std.proofs.Common.{◌≡◌, ℕ, ◌-◌, ◌<◌, ◌≤◌, List, [], ◌∷◌, length, Some, sym, ap, subst}
use Rattle.std.proofs.Common.{inl, inr, arith}
use Rattle.mot_groups.specs.Group.{GroupFields, IsGroup, bytes_of_group}
use Rattle.mot_groups.proofs.Laws.{read_group-bytes_of_group}
use Rattle.mot_numbers.specs.Geometry.{packet_room}
use Rattle.mot_numbers.specs.PacketLength.{kind_number, IsLength, room_of}
use Rattle.mot_numbers.specs.declared.group_kind.GroupKind.{GroupKind}
use Rattle.mot_numbers.specs.declared.group_kind.GroupKind.TheVariants.{Body, Directory}
use Rattle.mot_numbers.specs.declared.numbers.TheConstants.{MAX_SEGMENT}
use Rattle.mot_numbers.specs.declared.packet_length.PacketLength.{PacketLength}
use Rattle.mot_numbers.specs.declared.packet_length.PacketLength.TheVariants.{P24, P48, P72, P96}
use Rattle.mot_packets.specs.Gather.{gather}
use Rattle.mot_packets.specs.Written.{packets_of_group}
use Rattle.mot_packets.proofs.Laws.{read_each-packets_of_group, gather-of_pieces}
use Rattle.mot_session.specs.Laws.{RawRepliesRead}
use Rattle.mot_session.specs.Session.{raw_group}

-- a packet's length, by its bytes
length_of : (n : ℕ) → IsLength n → (size : PacketLength) × (room_of size ≡ n - 5)
length_of n (inl e) = (P24, sym (ap (λ k. k - 5) e))
length_of n (inr (inl e)) = (P48, sym (ap (λ k. k - 5) e))
length_of n (inr (inr (inl e))) = (P72, sym (ap (λ k. k - 5) e))
length_of n (inr (inr (inr e))) = (P96, sym (ap (λ k. k - 5) e))

room_some : (size : PacketLength) → 0 < room_of size
room_some P24 = omega arith
room_some P48 = omega arith
room_some P72 = omega arith
room_some P96 = omega arith

kind_small : (kind : GroupKind) → kind_number kind < 16
kind_small Body = omega arith
kind_small Directory = omega arith

some_bytes : (group : GroupFields) → 0 < length (bytes_of_group group)
unfolding bytes_of_group
some_bytes group = omega arith

is_group : (kind : GroupKind) (tid : ℕ) (body : List ℕ) → 1 ≤ tid → tid ≤ 65535 → 0 < length body
    → length body ≤ MAX_SEGMENT → IsGroup (raw_group kind tid body)
is_group kind tid body low high some short = record {
  kind = kind_small kind;
  index = omega arith;
  tid = (omega arith, omega arith);
  number = omega arith;
  some = some;
  fits = omega arith;
}

-- the packets of a group gather to it
gathered : (room address : ℕ) (group : List ℕ) (size : PacketLength) → room_of size ≡ room
    → 1 ≤ address
    → address ≤ 1023 → 0 < length group → gather (packets_of_group room address 0 group)
    ≡ Some (group ∷ [])
gathered room address group size e low high some =
    subst (λ r. gather (packets_of_group r address 0 group) ≡ Some (group ∷ [])) e
    (gather-of_pieces (room_of size) address 0 group
    (packets_of_group (room_of size) address 0 group)
    (room_some size) some
    (read_each-packets_of_group size address 0 group (omega arith) (omega arith)))

-- the packets of a raw reply read as the segment that was asked for
pub raw_packets-read : RawRepliesRead
raw_packets-read g kind tid body v low high some short =
    let size = length_of g.packet v.8 in
    let group : GroupFields = raw_group kind tid body in (
      bytes_of_group group,
      gathered (packet_room g) g.address (bytes_of_group group) size.0 size.1 v.6 v.7
          (some_bytes group),
      read_group-bytes_of_group group (is_group kind tid body low high some short),
    )
