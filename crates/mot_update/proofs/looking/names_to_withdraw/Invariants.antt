use Rattle.std.proofs.Common.{◌≡◌, take}
use Rattle.mot_update.specs.Looking.{unknown_names}
use Rattle.mot_update.proofs.looking.names_to_withdraw.Given as goal

abbrev pub invariant-loop-object : goal.invariant-loop-object
invariant-loop-object g l =
    l.names.items ≡ unknown_names (g.S.Source.names l.source)
    (take l.object-index l.carousel.objects.items)
