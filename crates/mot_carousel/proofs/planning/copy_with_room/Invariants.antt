use Rattle.std.proofs.Common.{◌≡◌, ◌+◌, take, length, vec_capacity}
use Rattle.mot_carousel.proofs.planning.copy_with_room.Given as goal

abbrev pub invariant-loop-object : goal.invariant-loop-object
invariant-loop-object l = record {
  items : l.copy.items ≡ take l.object-index l.objects;
  room : vec_capacity l.copy ≡ length l.objects + 1;
}
