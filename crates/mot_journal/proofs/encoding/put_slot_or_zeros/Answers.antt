use Rattle.std.proofs.Common.{◌≡◌, ◌-◌, true, ◌++◌, length, replicate, Some, None, refl}
use Rattle.std.proofs.Common.{sym, ◌∙◌, ap, subst, arith}
use Rattle.std.specs.Prelude.{slice_get}
use Rattle.std.proofs.lemmas.Bool.{ltb-true, ltb-false}
use Rattle.std.proofs.lemmas.List.{length-replicate}
use Rattle.std.proofs.lemmas.Option.{slice_get_read, slice_get_past}
use Rattle.mot_journal.specs.Slot.{slot_size, read_slot, is_sound, AreSound}
use Rattle.mot_journal.specs.Inner.Steps.{slot_from, IsReadable}
use Rattle.mot_journal.proofs.encoding.put_slot_or_zeros.Goals as goal
use Rattle.mot_journal.proofs.encoding.put_slot_or_zeros.Goals.{After-put_slot, After-fill}
use Rattle.mot_numbers.specs.declared.geometry.Geometry.{Geometry}

-- the record that was found
found : (c : After-put_slot) → slice_get c.args.given.now c.args.number ≡ Some c.in-Some.entry.now
found c =
    slice_get_read c.args.given.now (length c.args.given.now) c.args.number c.in-Some.entry.now refl
    (ltb-true _ _ (sym c.in-Some.ensures.lookup.0)) c.in-Some.ensures.lookup.1

-- it is sound where all are
sound_one : (c : After-put_slot) (g : Geometry) → AreSound g c.args.layout c.args.given.now
    → is_sound g c.args.layout c.in-Some.entry.now ≡ true
sound_one c g sound =
    subst (λ r. is_sound g c.args.layout r ≡ true) (sym c.in-Some.ensures.lookup.1)
    (sound c.args.number c.in-Some.entry.now (ltb-true _ _ (sym c.in-Some.ensures.lookup.0)))

pub returns-in-Some-clause-value : goal.returns-in-Some-clause-value
returns-in-Some-clause-value c =
    c.put_slot.ensures.written ∙ ap (slot_from c.args.layout) (sym (found c))

pub returns-in-Some-clause-reads : goal.returns-in-Some-clause-reads
returns-in-Some-clause-reads c = λ g sound.
    subst (λ r. IsReadable g c.args.layout r) (sym (found c))
    (ap (read_slot g c.args.layout) (sym c.put_slot.ensures.written)
    ∙ c.put_slot.ensures.reads g (sound_one c g sound))

pub returns-in-Some-clause-size : goal.returns-in-Some-clause-size
returns-in-Some-clause-size c = λ g sound. c.put_slot.ensures.size g (sound_one c g sound)

-- there is no record of that number
none : (c : After-fill) → slice_get c.args.given.now c.args.number ≡ None
none c =
    slice_get_past c.args.given.now c.args.number
    (ltb-false _ _ (sym c.in-None.ensures.lookup.0))

-- the slot has zeros alone
zeros : (c : After-fill) → c.fill.new.slot.items ≡ replicate (slot_size c.args.layout) 0
zeros c =
    let size : c.slot_size.result - 0 ≡ slot_size c.args.layout =
    omega (arith, c.slot_size.ensures) in
    c.fill.ensures
    ∙ ap (λ l. l ++ replicate (c.slot_size.result - length l) 0) c.new.ensures
    ∙ ap (λ n. replicate n 0) size

pub returns-in-None-clause-value : goal.returns-in-None-clause-value
returns-in-None-clause-value c = zeros c ∙ ap (slot_from c.args.layout) (sym (none c))

pub returns-in-None-clause-reads : goal.returns-in-None-clause-reads
returns-in-None-clause-reads c = λ g sound.
    subst (λ r. IsReadable g c.args.layout r) (sym (none c)) tt

pub returns-in-None-clause-size : goal.returns-in-None-clause-size
returns-in-None-clause-size c = λ g sound.
    ap length (zeros c) ∙ length-replicate (slot_size c.args.layout) 0
