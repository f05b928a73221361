use Rattle.std.proofs.Common.{◌≡◌, fold, take}
use Rattle.mot_log.specs.Look.{counted_result, new_events}
use Rattle.mot_events.specs.contracts.event.LookEventPartialEq.TheImpl.{ghosts}
use Rattle.mot_log.proofs.log.EventLog.tell_new.Given as goal

abbrev pub invariant-loop-event : goal.invariant-loop-event
invariant-loop-event g l = l.self.counters
    ≡ fold counted_result l.initial.self.counters
    (new_events ghosts.eq l.before (take l.event-index l.events))
