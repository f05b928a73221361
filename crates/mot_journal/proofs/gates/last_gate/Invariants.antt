use Rattle.std.proofs.Common.{◌≡◌, ◌/◌, drop, length}
use Rattle.mot_journal.specs.Image.{slots_in}
use Rattle.mot_journal.specs.Inner.Steps.{scan}
use Rattle.mot_journal.proofs.gates.last_gate.Given as goal

abbrev pub invariant-loop-number : goal.invariant-loop-number
invariant-loop-number l =
    let slots = slots_in l.size (length l.slots / l.size) l.slots in
    scan l.was_shut slots ≡ scan l.is_shut (drop l.number slots)
