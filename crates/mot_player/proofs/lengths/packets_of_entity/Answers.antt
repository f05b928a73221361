use Rattle.std.proofs.Common.{◌≡◌, ℕ, ◌<◌, arith, sym, ◌∙◌}
use Rattle.mot_numbers.specs.PacketLength.{room_of}
use Rattle.mot_player.proofs.PacketCounts.{packets-entity}
use Rattle.mot_player.proofs.lengths.packets_of_entity.Goals as goal

pub returns-clause-value : goal.returns-clause-value
returns-clause-value c = λ kind tid bytes len.
    let size : ℕ = c.args.segment_size in
    let some : 0 < size = let low = c.get.ensures.range.0 in omega (arith, low) in
    let size_is : c.from-size.result ≡ size = c.from-size.ensures ∙ c.get.ensures.value in
    rw (
      c.packet_count-packets_of_full.ensures.count,
      c.packet_count.ensures.count,
      c.segment_count-full.ensures.count,
      size_is,
    )
    (sym (packets-entity (room_of c.args.full_length) size kind tid c.args.len bytes some
    c.requires.some len))
