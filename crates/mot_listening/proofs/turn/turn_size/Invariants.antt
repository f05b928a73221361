use Rattle.std.proofs.Common.{◌≡◌, ◌+◌, ◌*◌, ◌≤◌, ◌∷◌, length, map, take}
use Rattle.std.specs.List.{sum}
use Rattle.mot_base.specs.Checksum.{crc_of}
use Rattle.mot_numbers.specs.PacketLength.{room_of}
use Rattle.mot_objects.specs.declared.object.Object.{Object}
use Rattle.mot_listening.specs.Entities.{turn_lengths}
use Rattle.mot_listening.proofs.turn.turn_size.Given as goal

-- the size of the directory and of the bodies so far
abbrev pub invariant-loop-object : goal.invariant-loop-object
invariant-loop-object l =
    let entities = length l.directory.items
    ∷ map (λ (o : Object). o.length) (take l.object-index l.carousel.objects.items) in
    let lengths = turn_lengths (room_of l.full_length) l.segment_size entities in
    record {
      packets : l.turn.packets ≡ length lengths;
      bytes : l.turn.bytes ≡ sum lengths;
      checksum : l.turn.checksum ≡ crc_of l.directory.items;
      few : (l.turn.packets ≤ (l.object-index + 1) * 1125899906842624)
          × (l.turn.bytes ≤ (l.object-index + 1) * 1125899906842624);
    }
