-- The packets of a group, one by one.
use Rattle.std.proofs.Common.{◌≡◌, ℕ, ◌+◌, ◌*◌, ◌%◌, ◌<◌, List, ◌++◌, length, take, sym, ap, ◌∙◌}
use Rattle.std.proofs.Common.{arith}
use Rattle.std.specs.Int.{div_ceil}
use Rattle.std.specs.List.{flat_map}
use Rattle.mot_lines.specs.Text.{packet_line}
use Rattle.mot_numbers.specs.Geometry.{packet_room}
use Rattle.mot_numbers.specs.declared.geometry.Geometry.{Geometry}
use Rattle.mot_packets.specs.Cut.{piece_at}
use Rattle.mot_packets.specs.Written.{bytes_of_packet}
use Rattle.mot_packets.proofs.Laws.{length-packets_of_group, get_or-packets_of_group}
use Rattle.mot_session.specs.Session.{packets_at}
use Rattle.mot_session.proofs.Joined.{lines-more}

-- one more packet's line
pub packets-more : (g : Geometry) (group packet : List ℕ) (number : ℕ)
    → number < div_ceil (length group) (packet_room g)
    → packet ≡ bytes_of_packet
    (piece_at (packet_room g) g.address (number % 4) group (number * packet_room g))
    → flat_map packet_line (take (number + 1) (packets_at g group))
    ≡ flat_map packet_line (take number (packets_at g group)) ++ packet_line packet
packets-more g group packet number below e =
    let room : ℕ = packet_room g in
    let inside : number < length (packets_at g group) =
    rw (length-packets_of_group room g.address 0 group) below in
    let index : 0 + number ≡ number = omega arith in
    let there = get_or-packets_of_group room g.address 0 number group packet below
    ∙ ap (λ k. bytes_of_packet (piece_at room g.address (k % 4) group (number * room))) index in
    lines-more packet_line (packets_at g group) number packet inside (e ∙ sym there)
