use Rattle.std.proofs.Common.{◌≡◌, ℕ, Option, List, [], ◌∷◌, ◌++◌, length, set}
use Rattle.std.proofs.Common.{sym, ap, ◌∙◌}
use Rattle.std.specs.Option.{option_map_or}
use Rattle.std.specs.Prelude.{remove}
use Rattle.mot_objects.specs.declared.object.Object.{Object}
use Rattle.mot_carousel.specs.Gap.{AreReordered}
use Rattle.mot_repository.proofs.ByStart.{come, gone, exchanged, counted-reordered, paired-within}
use Rattle.mot_repository.proofs.Extents.{place-names}
use Rattle.mot_repository.proofs.prepared.placing.extents_after.Goals as goal
use Rattle.mot_repository.proofs.prepared.placing.extents_after.Goals.{in-Period}
use Rattle.mot_repository.proofs.prepared.placing.extents_after.Goals.{in-Replace+in_default}
use Rattle.mot_repository.proofs.prepared.placing.extents_after.Goals.{in-Withdraw+in-Some-place_of}
use Rattle.mot_repository.proofs.prepared.placing.extents_after.Goals.{in-Withdraw+in_default-place_of}
use Rattle.mot_repository.proofs.prepared.placing.extents_after.Goals.{
  in-Put+in_ok-insert_by_start-in-Put+in_ok-push-in-Put,
}
use Rattle.mot_repository.proofs.prepared.placing.extents_after.Goals.{
  in-Replace+in-Some+in_ok-insert_by_start-in-Replace,
}

pub returns-clause-extents : goal.returns-clause-extents
returns-clause-extents c =
    let start = c.args.start in
    let os : List Object = c.args.inventory.now.carousel.objects.items in
    let es : List (ℕ × ℕ) = c.args.inventory.now.extents.items in
    let copy : c.in_ok-extents.extents.items ≡ es =
    c.in_ok-extents.ensures.items ∙ c.deref.ensures.value in
    let with_new : ℕ × ℕ → Option ℕ → List (ℕ × ℕ) = λ x p. option_map_or (λ i. set es i x) p es in
    let without : Option ℕ → List (ℕ × ℕ) = λ p. option_map_or (remove es) p es in
    elim c.match-command.branch [
      | in-Put+in_ok-insert_by_start-in-Put+in_ok-push-in-Put w ↦ rw (w.extents-is, w.in-Put.is)
          (w.in_ok-push-in-Put.ensures.items
          ∙ ap (λ n. c.in_ok-extents.extents.items ++ (start, n) ∷ [])
          (w.get.ensures.value ∙ w.length.ensures)
          ∙ ap (λ l. l ++ (start, length w.in-Put.body) ∷ []) copy)
      | in-Replace+in-Some+in_ok-insert_by_start-in-Replace w ↦ rw (w.extents-is, w.in-Replace.is)
          (ap (λ l. set l w.in-Some.place (start, w.get-in-Some.result)) copy
          ∙ ap (λ n. set es w.in-Some.place (start, n))
          (w.get-in-Some.ensures.value ∙ w.length-in-Some.ensures)
          ∙ sym (ap (with_new (start, length w.in-Replace.body))
          (place-names w.in-Replace.name os ∙ sym w.place_of.ensures.place ∙ w.in-Some.is)))
      | in-Replace+in_default w ↦ rw (w.extents-is, w.in-Replace.is)
          (copy ∙ sym (ap (with_new (start, length w.in-Replace.body))
          (place-names w.in-Replace.name os ∙ sym w.place_of.ensures.place ∙ w.in_default.is)))
      | in-Withdraw+in-Some-place_of w ↦ rw (w.extents-is, w.in-Withdraw.is) (w.remove.ensures.items
          ∙ ap (λ l. remove l w.in-Some-place_of.place) copy
          ∙ sym (ap without (place-names w.in-Withdraw.name os
          ∙ sym w.place_of-in-Withdraw.ensures.place ∙ w.in-Some-place_of.is)))
      | in-Withdraw+in_default-place_of w ↦ rw (w.extents-is, w.in-Withdraw.is) (copy
          ∙ sym (ap without (place-names w.in-Withdraw.name os
          ∙ sym w.place_of-in-Withdraw.ensures.place ∙ w.in_default-place_of.is)))
      | in-Period w ↦ rw (w.extents-is, w.in-Period.is) copy
    ]

pub returns-clause-reordered : goal.returns-clause-reordered
returns-clause-reordered c =
    let es : List (ℕ × ℕ) = c.in_ok-extents.extents.items in
    let bs : List (ℕ × ℕ) = c.in_ok-by_start.by_start.items in
    let copy : es ≡ c.args.inventory.now.extents.items =
    c.in_ok-extents.ensures.items ∙ c.deref.ensures.value in
    let other : bs ≡ c.args.inventory.now.by_start.items =
    c.in_ok-by_start.ensures.items ∙ c.deref-2.ensures.value in
    let same : AreReordered es bs = rw (copy, other) c.args.inventory.now.reordered in
    let there = λ (place : ℕ). paired-within c.args.inventory.now.carousel
    c.args.inventory.now.extents.items es place c.args.inventory.now.paired copy in
    elim c.match-command.branch [
      | in-Put+in_ok-insert_by_start-in-Put+in_ok-push-in-Put w ↦
          rw (w.extents-is, w.by_start-is, w.in_ok-push-in-Put.ensures.items)
          (come es bs w.insert_by_start.new.extents.items (c.args.start, w.get.result) same
          w.in_ok-insert_by_start-in-Put.ensures)
      | in-Replace+in-Some+in_ok-insert_by_start-in-Replace w ↦ rw (w.extents-is, w.by_start-is)
          (exchanged es bs w.take_out.new.extents.items w.insert_by_start-in-Some.new.extents.items
          w.in-Some.place w.index.result.now (c.args.start, w.get-in-Some.result) same
          (there w.in-Some.place w.in-Some.ensures.within)
          w.index.ensures w.take_out.ensures w.in_ok-insert_by_start-in-Replace.ensures)
      | in-Replace+in_default w ↦ rw (w.extents-is, w.by_start-is) same
      | in-Withdraw+in-Some-place_of w ↦
          rw (w.extents-is, w.by_start-is, w.remove.ensures.items)
          (gone es bs w.take_out-in-Some-place_of.new.extents.items w.in-Some-place_of.place
          w.index-in-Some-place_of.result.now same
          (there w.in-Some-place_of.place w.in-Some-place_of.ensures.within)
          w.index-in-Some-place_of.ensures w.take_out-in-Some-place_of.ensures)
      | in-Withdraw+in_default-place_of w ↦ rw (w.extents-is, w.by_start-is) same
      | in-Period w ↦ rw (w.extents-is, w.by_start-is) same
    ]

pub take_out-requires : goal.take_out-requires
take_out-requires c =
    counted-reordered c.in_ok-extents.extents.items c.in_ok-by_start.by_start.items
    c.in-Some.place c.index.result.now
    (rw (
      c.in_ok-extents.ensures.items ∙ c.deref.ensures.value,
      c.in_ok-by_start.ensures.items ∙ c.deref-2.ensures.value,
    ) c.args.inventory.now.reordered)
    (paired-within c.args.inventory.now.carousel c.args.inventory.now.extents.items
    c.in_ok-extents.extents.items c.in-Some.place c.args.inventory.now.paired
    (c.in_ok-extents.ensures.items ∙ c.deref.ensures.value) c.in-Some.ensures.within)
    c.index.ensures

pub take_out-requires-in-Some-place_of : goal.take_out-requires-in-Some-place_of
take_out-requires-in-Some-place_of c =
    counted-reordered c.in_ok-extents.extents.items c.in_ok-by_start.by_start.items
    c.in-Some-place_of.place c.index-in-Some-place_of.result.now
    (rw (
      c.in_ok-extents.ensures.items ∙ c.deref.ensures.value,
      c.in_ok-by_start.ensures.items ∙ c.deref-2.ensures.value,
    ) c.args.inventory.now.reordered)
    (paired-within c.args.inventory.now.carousel c.args.inventory.now.extents.items
    c.in_ok-extents.extents.items c.in-Some-place_of.place c.args.inventory.now.paired
    (c.in_ok-extents.ensures.items ∙ c.deref.ensures.value) c.in-Some-place_of.ensures.within)
    c.index-in-Some-place_of.ensures
