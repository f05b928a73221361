use Rattle.std.proofs.Common.{◌≡◌, ◌+◌, take, length, vec_len, vec_capacity}
use Rattle.mot_repository.specs.Inner.Extents.{objects_in, catalogue_with}
use Rattle.mot_repository.specs.Records.{records_of_objects}
use Rattle.mot_repository.proofs.records.records_of.Given as goal

abbrev pub invariant-loop-place : goal.invariant-loop-place
invariant-loop-place l = record {
  items : l.records.items ≡ records_of_objects (catalogue_with l.carousel l.inventory.extents.items)
      (objects_in (take l.place l.carousel.objects.items) (take l.place l.inventory.extents.items));
  count : vec_len l.records ≡ l.place;
  room : vec_capacity l.records ≡ length l.carousel.objects.items + 1;
}
