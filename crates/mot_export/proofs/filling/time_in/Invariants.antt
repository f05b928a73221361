use Rattle.std.proofs.Common.{◌≡◌, ◌+◌, ◌*◌, ◌≤◌, ◌∷◌, map, take}
use Rattle.mot_numbers.specs.PacketLength.{room_of}
use Rattle.mot_objects.specs.declared.object.Object.{Object}
use Rattle.mot_export.specs.Filling.{frames_of}
use Rattle.mot_export.specs.Inner.Filled.{AreRight}
use Rattle.mot_listening.specs.Entities.{turn_lengths}
use Rattle.mot_export.proofs.filling.time_in.Given as goal

-- the frames of the directory and of the bodies so far
abbrev pub invariant-loop-object : goal.invariant-loop-object
invariant-loop-object l = record {
  filled : l.frames ≡ frames_of (3 * l.rate) (turn_lengths (room_of l.fn.full_length) l.segment_size
      (l.directory ∷ map (λ (o : Object). o.length) (take l.object-index l.carousel.objects.items)));
  right : AreRight l.steps;
  same : (l.steps.size ≡ 3 * l.rate) × (l.steps.full_length ≡ l.fn.full_length);
  few : l.frames.begun ≤ (l.object-index + 1) * 1099511627776;
}
