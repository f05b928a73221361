use Rattle.std.proofs.Common.{◌≡◌, ◌≤◌, ◌++◌, ◌∷◌, [], List, length, get_or, take, ap, ◌∙◌, sym}
use Rattle.std.proofs.Common.{Vec, Global, arith, add-one}
use Rattle.std.proofs.lemmas.List.{take_all}
use Rattle.mot_journal.specs.Catalogue.{Catalogue}
use Rattle.mot_journal.specs.declared.record.Record.{Record}
use Rattle.mot_repository.specs.Inner.Extents.{objects_in, catalogue_with}
use Rattle.mot_repository.specs.Records.{records_of_objects}
use Rattle.mot_repository.proofs.Extents.{record_with, set_of_object, records_of_objects-next}
use Rattle.mot_repository.proofs.Extents.{records-none, records-some, is_zero, isnt_zero}
use Rattle.mot_repository.proofs.Listing.{same_count}
use Rattle.mot_repository.proofs.records.records_of.Goals as goal
use Rattle.mot_repository.proofs.records.records_of.Goals.{then-is_empty, else-is_empty}

pub loop-place-preserved : goal.loop-place-preserved
loop-place-preserved c =
    let old = c.args.inventory.now in
    let kept : Catalogue = catalogue_with old.carousel old.extents.items in
    let k = c.loop-place.place in
    let so_far : List Record =
    records_of_objects kept (objects_in (take k old.carousel.objects.items)
    (take k old.extents.items)) in
    let next : c.record_with.result
    ≡ record_with kept (set_of_object c.object-item.result c.index.result.now.0) =
    c.record_with.ensures ∙ ap (record_with kept) c.in_ok-action.ensures in
    let more = records_of_objects-next kept old.carousel.objects.items old.extents.items k
    c.object-item.result
    c.index.result.now old.paired (omega arith)
    (c.object-item.is ∙ ap (λ l. get_or l k c.object-item.result)
    c.deref-object-items.ensures.value) c.index.ensures in
    record {
      items = rw add-one (c.push_reserved.ensures.items
          ∙ ap (λ l. l ++ c.record_with.result ∷ []) c.loop-place.invariant.items
          ∙ ap (λ r. so_far ++ r ∷ []) next ∙ more);
      count = omega arith;
      room = omega arith;
    }

pub returns : goal.returns
returns c =
    let old = c.args.inventory.now in
    let os = old.carousel.objects.items in
    let es = old.extents.items in
    let kept : Catalogue = catalogue_with old.carousel es in
    let k = c.loop-place.place in
    let rs = c.loop-place.records.items in
    let n = c.loop-place.records.len in
    let size : n ≡ length rs = c.loop-place.records.ok.0 in
    let end : length os ≤ k = rw c.deref-object-items.ensures.value at c.loop-place-test.false in
    let end2 : length es ≤ k = let same = same_count os es old.paired in omega (arith, same, end) in
    let whole : rs ≡ records_of_objects kept (objects_in os es) =
    c.loop-place.invariant.items
    ∙ ap (λ l. records_of_objects kept (objects_in l (take k es))) (take_all k os end)
    ∙ ap (λ l. records_of_objects kept (objects_in os l)) (take_all k es end2) in
    elim c.if-is_empty.branch [
      | then-is_empty w ↦
          ap (λ (v : Vec Record Global). v.items) w.records-is
          ∙ w.push_reserved-then-is_empty.ensures.items
          ∙ ap (λ r. rs ++ r ∷ []) w.record_with-then-is_empty.ensures
          ∙ records-none kept.period kept.directory kept.cursor kept.objects rs whole
          (sym size ∙ is_zero c.is_empty.result n c.is_empty.ensures w.if-is_empty.true)
      | else-is_empty w ↦
          ap (λ (v : Vec Record Global). v.items) w.records-is
          ∙ records-some kept.period kept.directory kept.cursor kept.objects rs whole
          (λ e. isnt_zero c.is_empty.result n c.is_empty.ensures w.if-is_empty.false (size ∙ e))
    ]

pub index-requires : goal.index-requires
index-requires c =
    let old = c.args.inventory.now in
    let same = same_count old.carousel.objects.items old.extents.items old.paired in
    omega (arith, same)
