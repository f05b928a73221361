use Rattle.std.proofs.Common.{sym, ◌∙◌}
use Rattle.mot_repository.proofs.Bounds.{name_unused}
use Rattle.mot_repository.proofs.opening.fold.place_of_name.Goals as goal

pub returns-then-not-has_flag-clause-place : goal.returns-then-not-has_flag-clause-place
returns-then-not-has_flag-clause-place c =
    name_unused c.args.bounds.now.names c.args.name.now c.args.objects.now c.requires
    (sym c.has_flag.ensures ∙ c.if-not-has_flag.true)
