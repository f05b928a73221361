use Rattle.std.proofs.Common.{◌≡◌, false, take}
use Rattle.std.specs.List.{list_any}
use Rattle.mot_events.specs.Events.{is_of_folder}
use Rattle.mot_events.specs.declared.event.LookEvent.{LookEvent}
use Rattle.mot_events.proofs.listed.is_listed.Given as goal

abbrev pub invariant-loop-event : goal.invariant-loop-event
invariant-loop-event l =
    list_any (λ (e : LookEvent). is_of_folder e.outcome) (take l.event-index l.events) ≡ false
