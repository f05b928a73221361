use Rattle.std.proofs.Common.{◌≡◌, ◌+◌, ◌*◌, ◌-◌, ◌≤◌}
use Rattle.std.specs.List.{fold}
use Rattle.mot_numbers.specs.PacketLength.{room_of}
use Rattle.mot_export.specs.Filling.{with_packet}
use Rattle.mot_export.specs.Inner.Filled.{AreRight}
use Rattle.mot_listening.specs.Entities.{segment_lengths}
use Rattle.mot_export.proofs.filling.fill_entity.Given as goal

-- what is left to fill makes of these frames what all of it makes of the first
abbrev pub invariant-loop : goal.invariant-loop
invariant-loop l = record {
  right : AreRight l.steps;
  same : (l.steps.size ≡ l.initial.steps.size) × (l.steps.full_length ≡ l.initial.steps.full_length);
  filled : (let size = l.initial.steps.size in let room = room_of l.initial.steps.full_length in
      fold (with_packet size) l.frames
      (segment_lengths (l.count - l.counter) room l.fn.segment_size l.rest)
      ≡ fold (with_packet size) l.initial.frames
      (segment_lengths l.count room l.fn.segment_size l.len));
  few : l.frames.begun ≤ l.initial.frames.begun + l.counter * 1048576;
}
