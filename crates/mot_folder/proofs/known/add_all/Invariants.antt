use Rattle.std.proofs.Common.{◌⊎◌}
use Rattle.std.specs.List.{AllByRecursion}
use Rattle.mot_folder.specs.Inner.Knowing.{IsAdded}
use Rattle.mot_folder.specs.Known.{Among}
use Rattle.mot_folder.specs.declared.known.Known.{Known}
use Rattle.mot_folder.proofs.known.add_all.Given as goal

abbrev pub invariant-loop-file : goal.invariant-loop-file
invariant-loop-file l =
    AllByRecursion (λ (k : Known). Among l.initial.known.items k
    ⊎ IsAdded l.initial.read l.initial.refused.names.items l.initial.carousel.objects.items k) l.known.items
