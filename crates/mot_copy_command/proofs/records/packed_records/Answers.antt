use Rattle.std.proofs.Common.{◌≡◌, ◌<◌, ◌+◌, ◌++◌, ◌∷◌, [], List, length, get_or, take, ap, ◌∙◌}
use Rattle.std.proofs.Common.{arith, add-one, ◌≤◌, sym, Vec, Global}
use Rattle.std.proofs.lemmas.List.{take_all}
use Rattle.std.proofs.lemmas.List.Sums.{sum_by_more, sum_by_more_le}
use Rattle.mot_journal.specs.declared.record.Record.{Record}
use Rattle.mot_objects.specs.declared.object.Object.{Object}
use Rattle.mot_repository.specs.Copy.{packed_catalogue, packed_objects, renumbered}
use Rattle.mot_copy_command.specs.Inner.Steps.{bytes_of_bodies}
use Rattle.mot_repository.specs.Records.{records_of_objects}
use Rattle.mot_repository.proofs.Laws.{packed-next, numbered, renumbered-at, renumbered-bytes}
use Rattle.mot_repository.proofs.Laws.{renumbered-length, record_with, set_of_object, records-none}
use Rattle.mot_repository.proofs.Laws.{records-some, is_zero, isnt_zero}
use Rattle.mot_copy_command.proofs.records.packed_records.Goals as goal
use Rattle.mot_copy_command.proofs.records.packed_records.Goals.{After-index-ids-place}
use Rattle.mot_copy_command.proofs.records.packed_records.Goals.{then-is_empty, else-is_empty}

-- the object of the copy at this place
abbrev made : After-index-ids-place → Object
made c = numbered c.index-ids-place.result c.object-item.result

-- it is the next one
record IsNext (c : After-index-ids-place) : Type 0 where
  lt : c.loop-place.place
      < length (renumbered c.args.ids.now c.args.carousel.now.objects.items)
  at : made c ≡ get_or (renumbered c.args.ids.now c.args.carousel.now.objects.items)
      c.loop-place.place (made c)

next : (c : After-index-ids-place) → IsNext c
next c =
    let os = c.args.carousel.now.objects.items in
    let k = c.loop-place.place in
    let o = c.object-item.result in
    let lt : k < length os = rw c.deref-object-items.ensures.value at c.loop-place-test.true in
    let item : o ≡ get_or os k o =
    c.object-item.is ∙ ap (λ l. get_or l k o) c.deref-object-items.ensures.value in
    let count = renumbered-length c.args.ids.now os c.requires.ids in
    record {
      lt = omega (arith, lt, count);
      at = renumbered-at c.args.ids.now os k c.index-ids-place.result o c.requires.ids lt
          c.index-ids-place.is item;
    }

pub loop-place-preserved : goal.loop-place-preserved
loop-place-preserved c =
    let carousel = c.args.carousel.now in
    let os = renumbered c.args.ids.now carousel.objects.items in
    let kept = packed_catalogue carousel (c.args.ids.now, c.args.directory) in
    let k = c.loop-place.place in
    let before = (goal.at.loop-place-preserved c).After-index-ids-place in
    let o = made before in
    let is = next before in
    let so_far : List Record = records_of_objects kept (packed_objects 0 (take k os)) in
    let start : c.loop-place.start ≡ 0 + bytes_of_bodies (take k os) =
    let s = c.loop-place.invariant.start in omega (arith, s) in
    let record_is : c.record_of_copy.result
    ≡ record_with kept (set_of_object o (0 + bytes_of_bodies (take k os))) =
    c.record_of_copy.ensures ∙ ap (record_with kept) c.in_ok-action.ensures
    ∙ ap (λ n. record_with kept (set_of_object o n)) start in
    let more = packed-next kept 0 os k o is.lt is.at in
    let sum = sum_by_more (λ (x : Object). x.length) os k o is.lt in
    let size : o.length ≡ (get_or os k o).length = ap (λ (x : Object). x.length) is.at in
    let got = c.get-start.ensures.value in
    record {
      items = rw add-one (c.push_reserved.ensures.items
          ∙ ap (λ l. l ++ c.record_of_copy.result ∷ []) c.loop-place.invariant.items
          ∙ ap (λ r. so_far ++ r ∷ []) record_is ∙ more);
      start = omega (arith, start, sum, size, got);
      count = omega arith;
      room = omega arith;
    }

pub overflow_add-start : goal.overflow_add-start
overflow_add-start c =
    let objects = c.args.carousel.now.objects.items in
    let os = renumbered c.args.ids.now objects in
    let k = c.loop-place.place in
    let before = (goal.at.overflow_add-start c).After-index-ids-place in
    let o = made before in
    let is = next before in
    let size : o.length ≡ (get_or os k o).length = ap (λ (x : Object). x.length) is.at in
    let fit = sum_by_more_le (λ (x : Object). x.length) os k o is.lt in
    let all = renumbered-bytes c.args.ids.now objects c.requires.ids in
    let so_far = c.loop-place.invariant.start in
    let got = c.get-start.ensures.value in
    let few = c.requires.bodies in
    omega (arith, fit, all, size, so_far, got, few)

pub returns : goal.returns
returns c =
    let carousel = c.args.carousel.now in
    let os = renumbered c.args.ids.now carousel.objects.items in
    let kept = packed_catalogue carousel (c.args.ids.now, c.args.directory) in
    let k = c.loop-place.place in
    let rs = c.loop-place.records.items in
    let n = c.loop-place.records.len in
    let size : n ≡ length rs = c.loop-place.records.ok.0 in
    let past : length carousel.objects.items ≤ k =
    rw c.deref-object-items.ensures.value at c.loop-place-test.false in
    let count = renumbered-length c.args.ids.now carousel.objects.items c.requires.ids in
    let end : length os ≤ k = omega (arith, past, count) in
    let whole : rs ≡ records_of_objects kept (packed_objects 0 os) =
    c.loop-place.invariant.items
    ∙ ap (λ l. records_of_objects kept (packed_objects 0 l)) (take_all k os end) in
    elim c.if-is_empty.branch [
      | then-is_empty w ↦
          ap (λ (v : Vec Record Global). v.items) w.records-is
          ∙ w.push_reserved-then-is_empty.ensures.items
          ∙ ap (λ r. rs ++ r ∷ []) w.record_of_copy-then-is_empty.ensures
          ∙ records-none kept.period kept.directory kept.cursor kept.objects rs whole
          (sym size ∙ is_zero c.is_empty.result n c.is_empty.ensures w.if-is_empty.true)
      | else-is_empty w ↦
          ap (λ (v : Vec Record Global). v.items) w.records-is
          ∙ records-some kept.period kept.directory kept.cursor kept.objects rs whole
          (λ e. isnt_zero c.is_empty.result n c.is_empty.ensures w.if-is_empty.false (size ∙ e))
    ]
