use Rattle.std.proofs.Common.{List, Result, Ok, Err, sym, ap, ◌∙◌}
use Rattle.std.proofs.lemmas.Result.{IfErr-weaker}
use Rattle.std.specs.Prelude.{OnOk}
use Rattle.mot_repository.proofs.ListFaults.{missing_is_action, setting_is_action}
use Rattle.mot_journal.specs.Catalogue.{Placed, objects_after}
use Rattle.mot_repository.specs.Inner.Extents.{objects_in}
use Rattle.mot_repository.specs.Inner.Fold.{if_consistent}
use Rattle.mot_repository.proofs.Apart.{consistent_without}
use Rattle.mot_repository.proofs.opening.fold.apply.Goals as goal

-- what holds holds of what is Ok
on_ok_always : {A E P : Type 0} (r : Result A E) → P → OnOk r P
on_ok_always (Ok x) p = p
on_ok_always (Err e) p = tt

pub returns-in-Remove-clause-applied : goal.returns-in-Remove-clause-applied
returns-in-Remove-clause-applied c =
    let objects : List Placed = objects_in c.args.objects.now.items c.args.extents.now.items in
    c.remove_object.ensures.done ∙ consistent_without c.in-Remove.tid objects c.requires.consistent
    ∙ ap (λ a. if_consistent (objects_after c.args.limit objects a)) (sym c.in-Remove.is)

pub returns-in-Remove-clause-bounded : goal.returns-in-Remove-clause-bounded
returns-in-Remove-clause-bounded c =
    on_ok_always c.remove_object.result
    (c.remove_object.ensures.bounded c.args.bounds.now c.requires.bounded)

pub returns-in-Remove-clause-fault : goal.returns-in-Remove-clause-fault
returns-in-Remove-clause-fault c =
    missing_is_action c.args.limit (objects_in c.args.objects.now.items c.args.extents.now.items)
    (objects_in c.remove_object.new.objects.items c.remove_object.new.extents.items)
    c.args.action c.in-Remove.tid c.remove_object.result c.in-Remove.is
    c.remove_object.ensures.fault c.remove_object.ensures.done

pub returns-in-Set-clause-fault : goal.returns-in-Set-clause-fault
returns-in-Set-clause-fault c =
    IfErr-weaker c.set_object.result _ _
    (λ f is. setting_is_action c.args.limit
    (objects_in c.args.objects.now.items c.args.extents.now.items) c.args.action f
    c.in-Set.tid c.in-Set.version c.in-Set.content c.in-Set.start c.in-Set.length c.in-Set.name
    c.in-Set.mime c.in-Set.is is)
    c.set_object.ensures.fault
