use Rattle.std.proofs.Common.{◌≡◌, Some, sym, ap, inl, inr, ◌∙◌, length}
use Rattle.std.proofs.lemmas.Result.{IfOk-weaker}
use Rattle.mot_objects.specs.declared.object.Object.{Object}
use Rattle.mot_repository.specs.Inner.Prepared.{kept_object_named, kept_set, kept_remove}
use Rattle.mot_repository.proofs.Extents.{first-place, nowhere-place, kept_object_named-first}
use Rattle.mot_repository.proofs.Extents.{kept_object_named-nowhere}
use Rattle.mot_repository.proofs.records.action_of_change.Goals as goal

pub returns-in-Some : goal.returns-in-Some
returns-in-Some c =
    let name = c.in-Withdraw.name in
    let o : Object = c.index.result.now in
    rw c.in-Withdraw.is (sym (ap kept_remove (kept_object_named-first name o
    (first-place name c.in-Some.place c.args.old.now.objects.items
    (sym c.place_of.ensures.place ∙ c.in-Some.is))
    c.index.ensures)))

pub returns-in-None : goal.returns-in-None
returns-in-None c =
    let name = c.in-Withdraw.name in
    rw c.in-Withdraw.is (sym (ap kept_remove (kept_object_named-nowhere name
    (nowhere-place name c.args.old.now.objects.items
    (sym c.place_of.ensures.place ∙ c.in-None.is)))))

pub returns-in-Some-place_of : goal.returns-in-Some-place_of
returns-in-Some-place_of c =
    let name = c.in-Put.name in
    let o : Object = c.index-in-Some-place_of.result.now in
    let named : kept_object_named name c.args.next.now.objects.items ≡ Some o =
    kept_object_named-first name o
    (first-place name c.in-Some-place_of.place c.args.next.now.objects.items
    (sym c.place_of-in-Put.ensures.place ∙ c.in-Some-place_of.is))
    c.index-in-Some-place_of.ensures in
    let set = IfOk-weaker c.set_action.result _ _ (λ a is. is
    ∙ ap (λ n. kept_set c.args.start n (Some o)) c.length.ensures
    ∙ sym (ap (kept_set c.args.start (length c.in-Put.body)) named)) c.set_action.ensures in
    elim c.in-Put.is [ inl is ↦ rw is.2 set | inr is ↦ rw is.2 set ]

pub returns-in-None-place_of : goal.returns-in-None-place_of
returns-in-None-place_of c =
    let name = c.in-Put.name in
    let none = sym (ap (kept_set c.args.start (length c.in-Put.body))
    (kept_object_named-nowhere name
    (nowhere-place name c.args.next.now.objects.items
    (sym c.place_of-in-Put.ensures.place ∙ c.in-None-place_of.is)))) in
    elim c.in-Put.is [ inl is ↦ rw is.2 none | inr is ↦ rw is.2 none ]
