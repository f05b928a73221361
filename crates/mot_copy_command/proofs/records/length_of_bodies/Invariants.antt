use Rattle.std.proofs.Common.{◌≡◌, ◌*◌, ◌≤◌, take}
use Rattle.mot_copy_command.specs.Inner.Steps.{bytes_of_bodies}
use Rattle.mot_copy_command.proofs.records.length_of_bodies.Given as goal

abbrev pub invariant-loop-object : goal.invariant-loop-object
invariant-loop-object l = record {
  sum : l.sum ≡ bytes_of_bodies (take l.object-index l.objects);
  most : l.sum ≤ 262144 * l.object-index;
}
