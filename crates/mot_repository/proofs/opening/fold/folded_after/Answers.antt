use Rattle.std.proofs.Common.{refl, sym, ap, ◌∙◌, true}
use Rattle.std.specs.Prelude.{nat_eq}
use Rattle.std.specs.List.{list_any}
use Rattle.mot_journal.specs.Catalogue.{Catalogue}
use Rattle.mot_objects.specs.declared.object.Object.{Object}
use Rattle.mot_repository.specs.Inner.Extents.{catalogue_with}
use Rattle.mot_repository.proofs.Apart.{goes_on, breaks, has_directory}
use Rattle.mot_repository.proofs.opening.fold.folded_after.Goals as goal

pub returns-then-is_id_used-clause-after : goal.returns-then-is_id_used-clause-after
returns-then-is_id_used-clause-after c =
    let now : Catalogue = catalogue_with c.args.folded.carousel c.args.folded.extents.items in
    breaks c.args.limit now c.args.entry c.apply.new.objects.items c.apply.new.extents.items
    c.apply.ensures.paired true refl c.in_ok-apply.ensures.applied
    (ap (list_any (λ (o : Object). nat_eq c.args.entry.directory o.tid)) (sym c.deref.ensures.value)
    ∙ sym c.is_id_used.ensures ∙ c.if-is_id_used.true)

pub returns-clause-after : goal.returns-clause-after
returns-clause-after c =
    let now : Catalogue = catalogue_with c.args.folded.carousel c.args.folded.extents.items in
    goes_on c.args.limit now c.args.entry c.apply.new.objects.items c.apply.new.extents.items
    c.apply.ensures.paired true refl c.in_ok-apply.ensures.applied
    (ap (list_any (λ (o : Object). nat_eq c.args.entry.directory o.tid)) (sym c.deref.ensures.value)
    ∙ sym c.is_id_used.ensures ∙ c.if-is_id_used.false)

pub returns-then-is_id_used-clause-fault : goal.returns-then-is_id_used-clause-fault
returns-then-is_id_used-clause-fault c =
    let now : Catalogue = catalogue_with c.args.folded.carousel c.args.folded.extents.items in
    has_directory c.args.limit now c.args.entry c.apply.new.objects.items c.apply.new.extents.items
    c.apply.ensures.paired true refl c.in_ok-apply.ensures.applied c.get-id.result
    c.get-id.ensures.value
    (ap (list_any (λ (o : Object). nat_eq c.args.entry.directory o.tid)) (sym c.deref.ensures.value)
    ∙ sym c.is_id_used.ensures ∙ c.if-is_id_used.true)
