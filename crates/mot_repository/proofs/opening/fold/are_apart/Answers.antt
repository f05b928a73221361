use Rattle.std.proofs.Common.{sym, ◌∙◌}
use Rattle.mot_repository.proofs.Apart.{met_before, met_behind}
use Rattle.mot_repository.proofs.Bounds.{start_above}
use Rattle.mot_repository.proofs.opening.fold.are_apart.Goals as goal

pub returns-then-is_clear : goal.returns-then-is_clear
returns-then-is_clear c =
    c.is_clear-then-is_clear.ensures
    ∙ met_behind c.args.extents.now c.args.place c.requires.within c.requires.others
    c.from-start.result c.from-start.ensures
    (sym c.is_clear.ensures ∙ c.if-is_clear.true)

pub returns-else-is_clear : goal.returns-else-is_clear
returns-else-is_clear c =
    c.if-is_clear.false
    ∙ met_before c.args.extents.now c.args.place c.requires.within c.requires.others
    c.from-start.result c.from-start.ensures
    (sym c.is_clear.ensures ∙ c.if-is_clear.false)

pub returns-then-start-greatest : goal.returns-then-start-greatest
returns-then-start-greatest c =
    start_above c.args.extents.now c.args.place c.args.greatest c.from-start.result
    c.requires.within c.requires.others c.requires.bounded c.from-start.ensures
    c.if-start-greatest.true
