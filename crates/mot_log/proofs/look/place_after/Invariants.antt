use Rattle.std.proofs.Common.{◌≡◌, false, take}
use Rattle.std.specs.List.{list_any}
use Rattle.mot_events.specs.contracts.event.LookEventPartialEq.TheImpl.{ghosts}
use Rattle.mot_log.proofs.look.place_after.Given as goal

abbrev pub invariant-loop-at : goal.invariant-loop-at
invariant-loop-at l = list_any (ghosts.eq l.event) (take l.at l.before) ≡ false
