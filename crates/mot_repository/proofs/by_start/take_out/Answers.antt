use Rattle.std.proofs.Common.{sym, ap, ◌∙◌, ◌+◌}
use Rattle.std.specs.Prelude.{sum_by, position}
use Rattle.mot_repository.specs.Inner.Extents.{is_extent}
use Rattle.mot_repository.proofs.ByStart.{sum-taken, counted-somewhere}
use Rattle.mot_repository.proofs.by_start.take_out.Goals as goal

pub returns-in-Some : goal.returns-in-Some
returns-in-Some c = λ f.
    ap (λ l. sum_by f l + f c.args.extent) c.remove.ensures.items
    ∙ sum-taken c.args.extents.now.items c.args.extent c.in-Some.place
    (ap (position (is_extent c.args.extent)) (sym c.deref.ensures.value)
    ∙ sym c.place_of_extent.ensures ∙ c.in-Some.is) f

pub returns-in_default : goal.returns-in_default
returns-in_default c = λ f.
    absurd (counted-somewhere c.args.extents.now.items c.args.extent
    (ap (position (is_extent c.args.extent)) (sym c.deref.ensures.value)
    ∙ sym c.place_of_extent.ensures ∙ c.in_default.is) c.requires)
