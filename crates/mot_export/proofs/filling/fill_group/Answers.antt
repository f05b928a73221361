use Rattle.std.proofs.Common.{◌∙◌, ◌+◌, ◌-◌, ap, arith}
use Rattle.std.specs.List.{fold}
use Rattle.mot_numbers.specs.PacketLength.{room_of}
use Rattle.mot_export.specs.Filling.{with_packet}
use Rattle.mot_listening.specs.Entities.{packet_lengths}
use Rattle.mot_listening.proofs.Laws.{packet-more}
use Rattle.mot_export.proofs.filling.fill_group.Goals as goal

pub loop-preserved : goal.loop-preserved
loop-preserved c =
    let size = c.args.size in
    let room = room_of c.args.full_length in
    let count = c.packet_count-count.result in
    let is = c.loop.invariant in
    let end = fold (with_packet size) c.args.frames.now (packet_lengths count room c.args.len) in
    record {
      filled =
          ap (λ n. fold (with_packet size) c.fill.new.self
          (packet_lengths (count - (c.loop.counter + 1)) room n))
          (c.saturating_sub-rest.ensures ∙ ap (λ r. c.loop.rest - r) c.room-room.ensures)
          ∙ packet-more (with_packet size) room end count c.loop.counter c.loop.rest c.packet_for.result
          c.loop.frames c.fill.new.self c.loop-test.true is.filled c.packet_for.ensures
          c.fill.ensures.filled;
      few = let so_far = is.few in let one = c.fill.ensures.few in omega (arith, so_far, one);
    }
