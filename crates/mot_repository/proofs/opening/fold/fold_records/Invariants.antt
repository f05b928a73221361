use Rattle.std.proofs.Common.{◌≡◌, ◌≤◌, length, take, drop, vec_capacity, All, Ok, true}
use Rattle.mot_journal.specs.Image.{catalogue_of, fold_from}
use Rattle.mot_journal.specs.Catalogue.{is_consistent}
use Rattle.mot_repository.specs.Inner.Extents.{catalogue_with}
use Rattle.mot_repository.specs.Inner.Bounds.{AreWithin}
use Rattle.mot_repository.specs.Inner.Prepared.{IsTyped}
use Rattle.mot_repository.proofs.opening.fold.fold_records.Given as goal

-- the records that are left, folded over what it is by now, give what all of them give
abbrev pub invariant-loop-entry : goal.invariant-loop-entry
invariant-loop-entry l = record {
  slot_is : l.slot ≡ length l.yielded;
  room : l.limit ≤ vec_capacity l.folded.carousel.objects;
  room_of_extents : l.limit ≤ vec_capacity l.folded.extents;
  consistent : is_consistent (catalogue_with l.folded.carousel l.folded.extents.items) ≡ true;
  bounded : AreWithin l.bounds l.folded.carousel.objects.items l.folded.extents.items;
  typed : All IsTyped l.yielded;
  so_far : catalogue_of l.limit (take l.slot l.fn.records.items)
      ≡ Ok (catalogue_with l.folded.carousel l.folded.extents.items);
  folds : catalogue_of l.limit l.fn.records.items
      ≡ fold_from l.limit l.slot (catalogue_with l.folded.carousel l.folded.extents.items)
      (drop l.slot l.fn.records.items);
}
