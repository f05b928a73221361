-- Which events of a look are new, and what is counted of them.
use Rattle.std.specs.Prelude.{Bool, List, fold, not}
use Rattle.std.specs.List.{filter, list_any}
use Rattle.mot_log.specs.Counters.{counted}
use Rattle.mot_log.specs.EventClass.{class_of_result}
use Rattle.mot_log.specs.declared.counters.Counters.{Counters}
use Rattle.mot_events.specs.declared.event.LookEvent.{LookEvent}
use Rattle.mot_log.specs.declared.tally.EventClass.TheVariants.{Look}

-- the events of a look that the one before it had not, by a test whether two are the same
abbrev pub new_events : (same : LookEvent → LookEvent → Bool) → (before events : List LookEvent)
    → List LookEvent
new_events same before events =
    filter (λ (e : LookEvent). not (list_any (same e) before)) events

-- what is counted of it
abbrev pub counted_result : Counters → LookEvent → Counters
counted_result c e = counted c (class_of_result e.outcome)

-- and of a whole look
abbrev pub counted_look : Counters → List LookEvent → Counters
counted_look c events = fold counted_result (counted c Look) events
