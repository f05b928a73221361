use Rattle.std.proofs.Common.{All, ◌≡◌, List, length, inr, refl, sym, subst, ◌∙◌, arith, rules}
use Rattle.std.proofs.Common.{Result, Err, ap}
use Rattle.std.proofs.lemmas.Iterator.Consumers.{YieldsList-turn, YieldsList-end}
use Rattle.std.proofs.lemmas.Iterator.Adapters.{YieldsList-from_vec}
use Rattle.std.proofs.lemmas.List.{length_push, map-id}
use Rattle.std.proofs.lemmas.List.Elements.{All-push}
use Rattle.mot_journal.specs.declared.record.Record.{Record}
use Rattle.mot_journal.specs.Catalogue.{Catalogue, is_consistent, new_catalogue}
use Rattle.mot_repository.specs.Inner.Extents.{catalogue_with}
use Rattle.mot_repository.specs.Inner.Prepared.{IsTyped}
use Rattle.mot_repository.proofs.Folding.{is_step}
use Rattle.mot_repository.proofs.FoldSteps.{IsNext, is_next, fold_goes_on, fold_breaks, fold_ends}
use Rattle.mot_repository.proofs.FoldSteps.{breaks_there, folds_so_far, fold_none, folded}
use Rattle.mot_repository.specs.Inner.Faults.{IsFoldReason}
use Rattle.mot_journal.specs.declared.reason.Fault.{Fault}
use Rattle.mot_numbers.specs.declared.refusal.Refusal.{Refusal}
use Rattle.mot_numbers.specs.declared.refusal.Refusal.TheVariants.{Damaged}
use Rattle.std.specs.Prelude.{IfSome}
use Rattle.mot_repository.proofs.opening.fold.fold_records.Goals as goal
use Rattle.mot_repository.proofs.opening.fold.fold_records.Goals.{In-Some}

-- a fold that is refused
abbrev refused : Refusal → Result Catalogue Refusal
refused refusal = Err refusal

-- the record that is folded next
turn_is : (c : In-Some) → IsNext c.args.records.items c.loop-entry.slot c.in-Some.entry
turn_is c =
    let records : List Record = c.args.records.items in
    let turn = YieldsList-turn
    (YieldsList-from_vec {s = c.into_iter-entry-iterator.result} records (search rules)
    (search rules))
    c.loop-entry.yielded c.loop-entry.entry-iterator c.loop-entry.yielded_by c.next.result
    c.next.new.self c.in-Some.entry c.in-Some.is c.next.ensures.steps in
    is_next records c.loop-entry.slot (length c.loop-entry.yielded) c.in-Some.entry
    c.loop-entry.invariant.slot_is turn

pub returns-in-Err-clause-refused : goal.returns-in-Err-clause-refused
returns-in-Err-clause-refused c =
    let now : Catalogue = catalogue_with c.loop-entry.folded.carousel
    c.loop-entry.folded.extents.items in
    let is : c.of.result.refusal ≡ Damaged c.loop-entry.slot =
    ap (λ (f : Fault). f.refusal) c.of.ensures in
    inr (
      c.loop-entry.slot,
      is,
      c.loop-entry.invariant.folds
          ∙ fold_breaks c.args.geometry.now.objects c.loop-entry.slot now c.args.records.items
          c.in-Some.entry (turn_is (goal.at.returns-in-Err-clause-refused c).In-Some)
          c.in-Err.ensures.after
          ∙ ap refused (sym is),
    )

pub returns-in-Err-clause-so : goal.returns-in-Err-clause-so
returns-in-Err-clause-so c =
    let now : Catalogue = catalogue_with c.loop-entry.folded.carousel
    c.loop-entry.folded.extents.items in
    subst (λ (f : Fault). IfSome f.reason (IsFoldReason c.args.geometry.now.objects
    c.args.records.items)) (sym c.of.ensures)
    (breaks_there c.args.geometry.now.objects c.loop-entry.slot now c.args.records.items
    c.in-Some.entry (turn_is (goal.at.returns-in-Err-clause-so c).In-Some)
    c.loop-entry.invariant.so_far c.in-Err.fault c.in-Err.ensures.fault)

pub loop-entry-preserved : goal.loop-entry-preserved
loop-entry-preserved c =
    let records : List Record = c.args.records.items in
    let now : Catalogue = catalogue_with c.loop-entry.folded.carousel
    c.loop-entry.folded.extents.items in
    let then : Catalogue = catalogue_with c.in-Ok.next.carousel
    c.in-Ok.next.extents.items in
    let next : IsNext records c.loop-entry.slot c.in-Some.entry =
    turn_is (goal.at.loop-entry-preserved c).In-Some in
    let count : c.loop-entry.slot ≡ length c.loop-entry.yielded = c.loop-entry.invariant.slot_is in
    record {
      slot_is = omega (arith, count, length_push c.loop-entry.yielded c.in-Some.entry);
      room = c.in-Ok.ensures.room;
      room_of_extents = c.in-Ok.ensures.room_of_extents;
      consistent = (is_step c.args.geometry.now.objects now c.in-Some.entry then
          c.in-Ok.ensures.after).consistent;
      bounded = c.in-Ok.ensures.bounded;
      typed = All-push IsTyped c.loop-entry.yielded c.in-Some.entry c.loop-entry.invariant.typed
          c.know_fields.ensures;
      so_far = folds_so_far c.args.geometry.now.objects c.loop-entry.slot now records
          c.in-Some.entry next c.loop-entry.invariant.so_far then c.in-Ok.ensures.after;
      folds = c.loop-entry.invariant.folds
          ∙ fold_goes_on c.args.geometry.now.objects c.loop-entry.slot now records c.in-Some.entry
          next then c.in-Ok.ensures.after;
    }

pub returns-clause-folded : goal.returns-clause-folded
returns-clause-folded c =
    let records : List Record = c.args.records.items in
    let now : Catalogue = catalogue_with c.loop-entry.folded.carousel
    c.loop-entry.folded.extents.items in
    let end = YieldsList-end
    (YieldsList-from_vec {s = c.into_iter-entry-iterator.result} records (search rules)
    (search rules))
    c.loop-entry.yielded c.loop-entry.entry-iterator c.loop-entry.yielded_by c.next.result
    c.next.new.self c.in-None.is c.next.ensures.steps in
    c.loop-entry.invariant.folds
    ∙ fold_ends c.args.geometry.now.objects c.loop-entry.slot now records
    (c.loop-entry.invariant.slot_is ∙ end.1)

pub returns-clause-typed : goal.returns-clause-typed
returns-clause-typed c =
    let records : List Record = c.args.records.items in
    let end = YieldsList-end
    (YieldsList-from_vec {s = c.into_iter-entry-iterator.result} records (search rules)
    (search rules))
    c.loop-entry.yielded c.loop-entry.entry-iterator c.loop-entry.yielded_by c.next.result
    c.next.new.self c.in-None.is c.next.ensures.steps in
    subst (All IsTyped) (sym (map-id c.loop-entry.yielded) ∙ end.0) c.loop-entry.invariant.typed

pub loop-entry-init : goal.loop-entry-init
loop-entry-init c = record {
  slot_is = refl;
  room = c.in_ok-folded.ensures.room;
  room_of_extents = c.in_ok-folded.ensures.room_of_extents;
  consistent = ap is_consistent c.in_ok-folded.ensures.new;
  bounded = search rules;
  typed = search rules;
  so_far = fold_none c.args.geometry.now.objects 0 new_catalogue
      ∙ ap folded (sym c.in_ok-folded.ensures.new);
  folds = search rules;
}
