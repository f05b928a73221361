use Rattle.std.proofs.Common.{◌+◌, ◌*◌, ◌/◌, ◌<◌, ℕ, Bool, not, ◌==◌, List, length, drop, get_or}
use Rattle.std.proofs.Common.{refl, sym, ◌∙◌, ap, arith, if◌then◌else◌}
use Rattle.mot_journal.specs.Image.{slots_in}
use Rattle.mot_journal.specs.Inner.Steps.{scan}
use Rattle.mot_journal.proofs.NextSlot.{slot_longer_than_gate}
use Rattle.mot_journal.proofs.Scan.{none, next_gate, scan_ends}
use Rattle.mot_journal.proofs.gates.last_gate.Goals as goal

pub loop-number-init : goal.loop-number-init
loop-number-init c = refl

pub returns-then-is_open-is_shut : goal.returns-then-is_open-is_shut
returns-then-is_open-is_shut c =
    let bytes : List ℕ = c.args.slots.now in
    let size : ℕ = c.slot_size-size.result in
    let slots : List (List ℕ) = slots_in size (length bytes / size) bytes in
    let number : ℕ = c.loop-number.number in
    let is_open : Bool = get_or bytes (number * size) 0 == 0xA5 in
    let some : 0 < size = omega
    (arith, slot_longer_than_gate c.args.layout, c.slot_size-size.ensures) in
    sym (c.loop-number.invariant
    ∙ next_gate size (length bytes / size) bytes c.loop-number.is_shut number some
    c.loop-number-test.true
    ∙ ap (λ (b : Bool). if b then none else scan (not is_open) (drop (number + 1) slots))
    c.if-is_open-is_shut.true)
    ∙ ap (λ s. scan c.args.was_shut (slots_in s (length bytes / s) bytes)) c.slot_size-size.ensures

pub loop-number-preserved : goal.loop-number-preserved
loop-number-preserved c =
    let bytes : List ℕ = c.args.slots.now in
    let size : ℕ = c.slot_size-size.result in
    let slots : List (List ℕ) = slots_in size (length bytes / size) bytes in
    let number : ℕ = c.loop-number.number in
    let is_open : Bool = get_or bytes (number * size) 0 == 0xA5 in
    let some : 0 < size = omega
    (arith, slot_longer_than_gate c.args.layout, c.slot_size-size.ensures) in
    c.loop-number.invariant
    ∙ next_gate size (length bytes / size) bytes c.loop-number.is_shut number some
    c.loop-number-test.true
    ∙ ap (λ (b : Bool). if b then none else scan (not is_open) (drop (number + 1) slots))
    c.if-is_open-is_shut.false

pub returns : goal.returns
returns c =
    let bytes : List ℕ = c.args.slots.now in
    let size : ℕ = c.slot_size-size.result in
    sym (c.loop-number.invariant
    ∙ scan_ends size (length bytes / size) bytes c.loop-number.is_shut c.loop-number.number
    (omega (arith, c.loop-number-test.false)))
    ∙ ap (λ s. scan c.args.was_shut (slots_in s (length bytes / s) bytes)) c.slot_size-size.ensures
