use Rattle.std.proofs.Common.{◌≡◌, ◌∙◌, ◌+◌, ◌*◌, ◌-◌, ℕ, suc, ap, arith, sym}
use Rattle.std.specs.Int.{div_ceil}
use Rattle.std.proofs.lemmas.Grind.{div_ceil_times}
use Rattle.mot_numbers.proofs.Laws.{room_of-some}
use Rattle.mot_numbers.specs.PacketLength.{room_of}
use Rattle.mot_listening.specs.Entities.{packet_length}
use Rattle.mot_listening.proofs.Counted.{count-lengths, full-bytes, group-bytes}
use Rattle.mot_listening.proofs.turn.group_size.Goals as goal

pub returns-clause-packets : goal.returns-clause-packets
returns-clause-packets c =
    let room = room_of c.args.full_length in
    c.packet_count-count.ensures.count
    ∙ sym (count-lengths (div_ceil c.args.len room) room c.args.len)

pub returns-clause-bytes : goal.returns-clause-bytes
returns-clause-bytes c =
    let room : ℕ = room_of c.args.full_length in
    let len : ℕ = c.args.len in
    let n : ℕ = c.saturating_sub-others.result in
    let some = room_of-some c.args.full_length in
    let is : div_ceil len room ≡ suc n =
    let count = c.packet_count-count.ensures.count in
    let less = c.saturating_sub-others.ensures in
    let all = (div_ceil_times len room some).0 in
    let more = c.requires.0 in grind (arith, count, less, all, more) in
    let full : c.bytes.result ≡ room + 5 = c.bytes.ensures ∙ full-bytes c.args.full_length in
    let rest : c.saturating_sub-rest.result ≡ len - n * room =
    c.saturating_sub-rest.ensures ∙ ap (λ r. len - n * r) c.room.ensures in
    ap (λ b. n * b + c.packet_for-last.result) full
    ∙ ap (λ l. n * (room + 5) + l) (c.packet_for-last.ensures ∙ ap (packet_length room) rest)
    ∙ sym (group-bytes n room len some is)
