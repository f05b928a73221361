use Rattle.std.proofs.Common.{◌≡◌, ◌<◌, ◌++◌, [], ◌∷◌, true, Some, Result, Err, sym, ◌∙◌, ap, subst}
use Rattle.std.proofs.Common.{arith, inl, length, length-append, refl}
use Rattle.std.specs.List.{All}
use Rattle.std.proofs.lemmas.List.Elements.{All-nil, All-cons, All-append}
use Rattle.mot_journal.specs.declared.record.Record.{Record}
use Rattle.mot_journal.specs.Slot.{slot_count, is_sound, read_slot}
use Rattle.mot_journal.specs.Image.{DiskRecords}
use Rattle.mot_journal.specs.Inner.Reading.{IsSlotReason}
use Rattle.mot_journal.specs.Inner.Reading.IsHalfRefusal.{damaged, no_memory}
use Rattle.mot_journal.specs.Reason.{HasReason}
use Rattle.mot_journal.proofs.Loads.{field_told}
use Rattle.std.specs.Prelude.{IfSome}
use Rattle.mot_journal.specs.declared.reason.Fault.{Fault}
use Rattle.mot_numbers.specs.declared.refusal.Refusal.{Refusal}
use Rattle.mot_numbers.specs.declared.refusal.Refusal.TheVariants.{Damaged}
use Rattle.mot_journal.proofs.Slots.{has_shut, has_all, has_fault, reads_more, open_more}
use Rattle.mot_journal.proofs.Slots.{read_is_sound, open_is, shut_is, ok-same}
use Rattle.mot_journal.proofs.loading.records_of_half.Goals as goal

abbrev failed : Refusal → Result DiskRecords Refusal
failed refusal = Err refusal

pub returns-then-slot-clause-ok : goal.returns-then-slot-clause-ok
returns-then-slot-clause-ok c =
    let lt : c.loop-place.place < slot_count c.args.layout c.args.geometry.now = omega arith in
    has_shut c.args.geometry.now c.args.layout c.args.half.now c.requires.layout c.loop-place.place
    lt c.slot_at-slot.result.now c.slot_at-slot.ensures.value
    c.loop-place.records.items c.loop-place.invariant.reads c.loop-place.invariant.are_open
    (shut_is c.slot_at-slot.result.now c.if-slot.true)

pub returns-in-Err-Field-clause-refused : goal.returns-in-Err-Field-clause-refused
returns-in-Err-Field-clause-refused c =
    let lt : c.loop-place.place < slot_count c.args.layout c.args.geometry.now = omega arith in
    let fault = rw c.in-Err-Field.field-0-is at c.in-Err-Field.ensures.fault in
    let is : c.of.result.refusal ≡ Damaged c.loop-place.place =
    ap (λ (f : Fault). f.refusal) c.of.ensures in
    damaged c.loop-place.place is (λ h.
    has_fault c.args.geometry.now c.args.layout c.args.half.now c.requires.layout c.loop-place.place
    lt c.slot_at-slot.result.now c.slot_at-slot.ensures.value
    c.loop-place.records.items c.loop-place.invariant.reads c.loop-place.invariant.are_open
    (open_is c.slot_at-slot.result.now c.if-slot.false)
    (sym fault.0) h ∙ ap failed (sym is))

pub loop-place-preserved : goal.loop-place-preserved
loop-place-preserved c =
    let g = c.args.geometry.now in
    let layout = c.args.layout in
    let slot = c.slot_at-slot.result.now in
    let lt : c.loop-place.place < slot_count layout g = omega arith in
    let read : Some c.in-Ok.entry ≡ read_slot g layout slot = sym c.in-Ok.ensures.read in
    let pushed : c.push_reserved.new.self.items
    ≡ c.loop-place.records.items ++ c.in-Ok.entry ∷ [] = grind arith in
    let reads = reads_more g layout c.args.half.now c.loop-place.place lt slot
    c.slot_at-slot.ensures.value c.loop-place.records.items c.in-Ok.entry
    c.loop-place.invariant.reads read in
    let one = All-cons (λ (r : Record). is_sound g layout r ≡ true) c.in-Ok.entry []
    (read_is_sound g layout slot c.in-Ok.entry (sym read))
    (All-nil (λ (r : Record). is_sound g layout r ≡ true)) in
    record {
      reads = reads ∙ ok-same _ _ (sym pushed);
      are_open = open_more g layout c.args.half.now c.loop-place.place lt slot
          c.slot_at-slot.ensures.value c.loop-place.invariant.are_open
          (open_is slot c.if-slot.false);
      count = let more = length-append c.loop-place.records.items (c.in-Ok.entry ∷ []) in
          let before = c.loop-place.invariant.count in
          omega (arith, more, before, ap length pushed);
      sound = subst (λ l. All (λ (r : Record). is_sound g layout r ≡ true) l) (sym pushed)
          (All-append (λ (r : Record). is_sound g layout r ≡ true) c.loop-place.records.items
          (c.in-Ok.entry ∷ []) c.loop-place.invariant.sound one);
      room = omega (arith, c.push_reserved.ensures.capacity, c.loop-place.invariant.room);
    }

pub returns-clause-ok : goal.returns-clause-ok
returns-clause-ok c =
    let end : slot_count c.args.layout c.args.geometry.now ≡ c.loop-place.place = omega arith in
    has_all c.args.geometry.now c.args.layout c.args.half.now c.requires.layout c.loop-place.place
    end
    c.loop-place.records.items c.loop-place.invariant.reads c.loop-place.invariant.are_open

pub returns-in-Err-Field-clause-reason : goal.returns-in-Err-Field-clause-reason
returns-in-Err-Field-clause-reason c =
    subst (λ (f : Fault). HasReason f.refusal f.reason) (sym c.of.ensures) refl

pub returns-in-Err-Field-clause-so : goal.returns-in-Err-Field-clause-so
returns-in-Err-Field-clause-so c =
    let g = c.args.geometry.now in
    let half = c.args.half.now in
    let fault = rw c.in-Err-Field.field-0-is at c.in-Err-Field.ensures.fault in
    subst (λ (f : Fault). IfSome f.reason (IsSlotReason g half)) (sym c.of.ensures)
    (rw c.in-Err-Field.field-0-is (field_told g c.args.layout half c.slot_at-slot.result.now
    c.loop-place.place c.in-Err-Field.fault c.requires.layout c.slot_at-slot.ensures.value fault.1))

pub returns-in-Err-OutOfMemory-clause-refused : goal.returns-in-Err-OutOfMemory-clause-refused
returns-in-Err-OutOfMemory-clause-refused c =
    no_memory (ap (λ (f : Fault). f.refusal) c.plain.ensures)

pub returns-in-Err-OutOfMemory-clause-reason : goal.returns-in-Err-OutOfMemory-clause-reason
returns-in-Err-OutOfMemory-clause-reason c =
    subst (λ (f : Fault). HasReason f.refusal f.reason) (sym c.plain.ensures) (inl refl)

pub returns-in-Err-OutOfMemory-clause-so : goal.returns-in-Err-OutOfMemory-clause-so
returns-in-Err-OutOfMemory-clause-so c =
    subst (λ (f : Fault). IfSome f.reason (IsSlotReason c.args.geometry.now c.args.half.now))
    (sym c.plain.ensures) tt

pub read_record-requires : goal.read_record-requires
read_record-requires c = omega arith

pub push_reserved-requires : goal.push_reserved-requires
push_reserved-requires c = omega arith
