use Rattle.std.proofs.Common.{◌≡◌, true, length}
use Rattle.std.specs.List.{AllByRecursion}
use Rattle.mot_folder.specs.Inner.Knowing.{is_there}
use Rattle.mot_folder.specs.Known.{Among}
use Rattle.mot_folder.specs.declared.known.Known.{Known}
use Rattle.mot_folder.proofs.known.forget.Given as goal

abbrev pub invariant-loop-one : goal.invariant-loop-one
invariant-loop-one l = record {
  all : AllByRecursion (Among l.fn.known.items) l.all.items;
  kept : AllByRecursion (λ (k : Known). Among l.fn.known.items k
      × (is_there l.carousel.objects.items k ≡ true)) l.known.items;
}

abbrev pub decreases-loop-one : goal.decreases-loop-one
decreases-loop-one l = length l.all.items
