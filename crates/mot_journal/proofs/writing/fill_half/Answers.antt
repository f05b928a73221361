use Rattle.std.proofs.Common.{◌≡◌, ℕ, ◌+◌, ◌*◌, ◌<◌, ◌≤◌, length, slice_range}
use Rattle.std.proofs.Common.{sym, ◌∙◌, ap, subst, arith}
use Rattle.std.proofs.lemmas.Result.{IfOk-from_err}
use Rattle.disk_model.specs.Disk.{WritesWithin}
use Rattle.disk_model.proofs.Laws.{keeps_all_on}
use Rattle.mot_journal.specs.Slot.{slot_size}
use Rattle.mot_journal.proofs.Calls.{as_run, calm, calm_run, fails_of}
use Rattle.mot_journal.proofs.Fill.{one_more, slot_more, slot_ends, range_whole}
use Rattle.mot_journal.proofs.writing.fill_half.Goals as goal
use Rattle.mot_numbers.specs.Geometry.{half_start, half_size}

-- one call more than so many, of fewer than the whole
within : (old mid new i n : ℕ) → i < n → mid ≡ old + i → new ≡ mid + 1 → new ≤ old + n
within old mid new i n less e f = omega arith

pub write-requires : goal.write-requires
write-requires g c =
    let geometry = c.args.geometry.now in
    let ends = slot_ends geometry c.args.half c.args.layout c.loop-number.number
    c.requires.two_halves (subst (λ n. c.loop-number.number < n) c.slot_count-number-end.ensures
    c.loop-number-test.true) in
    let size : length c.deref.result.now ≡ slot_size c.args.layout =
    ap length c.deref.ensures.0 ∙ c.put_slot_or_zeros.ensures.size geometry c.requires.sound in
    omega (
      arith,
      c.place_of_slot-place.ensures.value,
      ends.1,
      size,
      c.requires.long_enough,
      c.loop-number.invariant.keeps.frame.len,
    )

pub returns-in_err-write-clause-range : goal.returns-in_err-write-clause-range
returns-in_err-write-clause-range g c = λ honest.
    let state = g.D.Disk.state in
    let geometry = c.args.geometry.now in
    let so_far = c.loop-number.invariant in
    let honest1 = so_far.keeps.honest honest in
    let ends = slot_ends geometry c.args.half c.args.layout c.loop-number.number
    c.requires.two_halves (subst (λ n. c.loop-number.number < n) c.slot_count-number-end.ensures
    c.loop-number-test.true) in
    let size : length c.deref.result.now ≡ slot_size c.args.layout =
    ap length c.deref.ensures.0 ∙ c.put_slot_or_zeros.ensures.size geometry c.requires.sound in
    one_more (half_start geometry c.args.half) (half_size geometry) (state c.args.disk.now)
    (state c.loop-number.disk)
    (state c.write.new.self) _ _ (g.met.D.Disk.sound c.loop-number.disk honest1)
    (so_far.range honest)
    (c.write.ensures.range honest1) (omega (arith, c.place_of_slot-place.ensures.value))
    (omega (arith, c.place_of_slot-place.ensures.value, ends.0, size))

pub loop-number-preserved : goal.loop-number-preserved
loop-number-preserved g c =
    let state = g.D.Disk.state in
    let geometry = c.args.geometry.now in
    let half = c.args.half in
    let layout = c.args.layout in
    let number = c.loop-number.number in
    let so_far = c.loop-number.invariant in
    let ends = slot_ends geometry half layout number c.requires.two_halves
    (subst (λ n. c.loop-number.number < n) c.slot_count-number-end.ensures
    c.loop-number-test.true) in
    let size : length c.deref.result.now ≡ slot_size layout =
    ap length c.deref.ensures.0 ∙ c.put_slot_or_zeros.ensures.size geometry c.requires.sound in
    let at : c.place_of_slot-place.result ≡ half_start geometry half + number * slot_size layout =
    c.place_of_slot-place.ensures.value in
    record {
      keeps = keeps_all_on (state c.args.disk.now) (state c.loop-number.disk)
          (state c.write.new.self) so_far.keeps c.write.ensures.keeps;
      calm = calm c.in_ok-write.ensures.cause ∙ so_far.calm;
      cost = omega (arith, c.write.ensures.called, so_far.cost);
      range = λ honest.
          let honest1 = so_far.keeps.honest honest in
          one_more (half_start geometry half) (half_size geometry) (state c.args.disk.now)
          (state c.loop-number.disk)
          (state c.write.new.self) _ _ (g.met.D.Disk.sound c.loop-number.disk honest1)
          (so_far.range honest)
          (c.write.ensures.range honest1) (omega (arith, at)) (omega (arith, at, ends.0, size));
      slots = λ honest.
          let honest1 = so_far.keeps.honest honest in
          let new = (state c.write.new.self).bytes in
          let place = half_start geometry half + number * slot_size layout in
          let writes = subst (λ n.
          WritesWithin place n (state c.loop-number.disk) (state c.write.new.self)) size
          (subst (λ p. WritesWithin p (length c.deref.result.now) (state c.loop-number.disk)
          (state c.write.new.self)) at (c.write.ensures.range honest1)) in
          let bytes = subst (λ n. slice_range new place (place + n) ≡ c.deref.result.now) size
          (subst (λ p. slice_range new p (p + length c.deref.result.now) ≡ c.deref.result.now) at
          (c.in_ok-write.ensures.bytes honest1)) in
          slot_more geometry half layout c.args.given.now number (state c.loop-number.disk).bytes
          new (so_far.slots honest) writes.bytes
          (sym (range_whole place (slot_size layout) new) ∙ bytes ∙ c.deref.ensures.0
          ∙ c.put_slot_or_zeros.ensures.value)
          (c.put_slot_or_zeros.ensures.reads geometry c.requires.sound);
    }

pub returns-in_err-write-clause-keeps : goal.returns-in_err-write-clause-keeps
returns-in_err-write-clause-keeps g c =
    let state = g.D.Disk.state in
    keeps_all_on (state c.args.disk.now) (state c.loop-number.disk) (state c.write.new.self)
    c.loop-number.invariant.keeps c.write.ensures.keeps

pub returns-in_err-write-clause-cause : goal.returns-in_err-write-clause-cause
returns-in_err-write-clause-cause g c =
    fails_of {mid = g.D.Disk.state c.loop-number.disk} c.from_residual.result
    c.from_residual.ensures.0 c.loop-number.invariant.calm (as_run c.in_err-write.ensures.cause)

pub returns-in_err-write-clause-cost : goal.returns-in_err-write-clause-cost
returns-in_err-write-clause-cost g c = record {
  at_most = within _ _ _ _ _
      (subst (λ n. c.loop-number.number < n) c.slot_count-number-end.ensures
      c.loop-number-test.true)
      c.loop-number.invariant.cost c.write.ensures.called;
  exact = IfOk-from_err c.from_residual.result _ c.from_residual.ensures.0;
}

pub returns-in_err-write-clause-slots : goal.returns-in_err-write-clause-slots
returns-in_err-write-clause-slots g c = λ honest.
    IfOk-from_err c.from_residual.result _ c.from_residual.ensures.0

pub returns-clause-keeps : goal.returns-clause-keeps
returns-clause-keeps g c = c.loop-number.invariant.keeps

pub returns-clause-cause : goal.returns-clause-cause
returns-clause-cause g c = calm_run c.loop-number.invariant.calm

pub returns-clause-range : goal.returns-clause-range
returns-clause-range g c = c.loop-number.invariant.range

pub new-slot-requires : goal.new-slot-requires
new-slot-requires g c = omega arith

pub deref-requires : goal.deref-requires
deref-requires g c = omega arith
