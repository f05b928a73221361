use Rattle.std.proofs.Common.{◌≡◌, ◌+◌, take, length, vec_len, vec_capacity}
use Rattle.mot_repository.specs.Copy.{packed_catalogue, packed_objects, renumbered}
use Rattle.mot_copy_command.specs.Inner.Steps.{bytes_of_bodies}
use Rattle.mot_repository.specs.Records.{records_of_objects}
use Rattle.mot_copy_command.proofs.records.packed_records.Given as goal

abbrev pub invariant-loop-place : goal.invariant-loop-place
invariant-loop-place l = record {
  items : l.records.items ≡ records_of_objects (packed_catalogue l.carousel (l.ids, l.directory))
      (packed_objects 0 (take l.place (renumbered l.ids l.carousel.objects.items)));
  start : l.start ≡ bytes_of_bodies (take l.place (renumbered l.ids l.carousel.objects.items));
  count : vec_len l.records ≡ l.place;
  room : vec_capacity l.records ≡ length l.carousel.objects.items + 1;
}
