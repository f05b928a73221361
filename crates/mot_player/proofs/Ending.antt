-- Each request brings the end of the turn nearer.
use Rattle.std.proofs.Common.{◌≡◌, ℕ, ◌+◌, ◌-◌, ◌<◌, false, List, length, Option, Some, arith}
use Rattle.std.proofs.lemmas.Option.{none-some, same_Some}
use Rattle.std.specs.Prelude.{IfSome}
use Rattle.std.specs.Option.{option_map_or}
use Rattle.mot_groups.specs.Group.{Segment}
use Rattle.mot_groups.proofs.Laws.{length-bytes_of_group}
use Rattle.mot_player.specs.Laws.{IsPlace, bytes_due, group_bytes_of}
use Rattle.mot_player.specs.Place.{Place, Sent, UnderWay, first_sent, left_with, next_sent}
use Rattle.mot_player.specs.Place.{packet_sent, request}

-- how many bytes come where so much is under way
abbrev bytes_due_with : Place → Option UnderWay → ℕ
bytes_due_with place u =
    option_map_or (λ (v : UnderWay). length v.group - v.sent) u 0
    + group_bytes_of (left_with place u)

-- behind a packet that does not end the turn, fewer bytes are due
pub packet-less : (place : Place) (group : List ℕ) (at : ℕ) → 0 < place.room → at < length group →
    (packet_sent place group at).ends_turn ≡ false →
    bytes_due (packet_sent place group at).place < length group - at + group_bytes_of place.waiting
packet-less place group at r l e = grind arith

first-less : (place : Place) (segments : List Segment) (s : Sent) → 0 < place.room →
    first_sent place segments ≡ Some s → s.ends_turn ≡ false
    → bytes_due s.place < group_bytes_of segments
first-less place segments s r e f =
    grind (arith, none-some, same_Some, length-bytes_of_group, packet-less)

next-less : (place : Place) (u : Option UnderWay) (s : Sent) → 0 < place.room →
    IfSome u (λ (w : UnderWay). w.sent < length w.group) → next_sent place u ≡ Some s →
    s.ends_turn ≡ false → bytes_due s.place < bytes_due_with place u
next-less place u s r h e f = grind (arith, first-less, same_Some, packet-less)

-- each request brings the end of the turn nearer
pub turns-end : (place : Place) (s : Sent) → IsPlace place → request place ≡ Some s →
    s.ends_turn ≡ false → bytes_due s.place < bytes_due place
unfolding request
turns-end place s p e f = next-less place place.under_way s p.room p.under_way e f
