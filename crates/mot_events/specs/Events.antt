-- The words of events, what a look met of a name, and whether it went by the folder's list.
use Rattle.std.specs.Prelude.{ℕ, Bool, true, false, not, List, codes}
use Rattle.std.specs.List.{list_any}
use Rattle.mot_events.specs.declared.event.LookStep.{LookStep}
use Rattle.mot_events.specs.declared.event.LookStep.TheVariants as step
use Rattle.mot_events.specs.declared.event.LookEvent.{LookEvent}
use Rattle.mot_events.specs.declared.event.LookResult.{LookResult}
use Rattle.mot_events.specs.declared.event.LookResult.TheVariants as outcome
use Rattle.mot_events.specs.declared.event.Skip.{Skip}
use Rattle.mot_events.specs.declared.event.Skip.TheVariants as skip

abbrev pub step_word : LookStep → List ℕ
step_word step.Put = codes "put"
step_word step.Replace = codes "replace"
step_word step.Withdraw = codes "withdraw"
step_word step.Read = codes "read"
step_word step.Look = codes "look"

abbrev pub skip_word : Skip → List ℕ
skip_word skip.Suffix = codes "suffix"
skip_word skip.Folder = codes "folder"
skip_word skip.Link = codes "link"
skip_word skip.Special = codes "special"
skip_word skip.NotUtf8 = codes "not UTF-8"

-- what a look met of this name
abbrev pub event_of : List ℕ → LookResult → LookEvent
event_of name outcome = record { name = name; outcome = outcome }

-- the whole look went wrong: the folder was not listed, has no object, or too few
abbrev pub is_look : LookStep → Bool
is_look step.Look = true
is_look other = false

abbrev pub is_of_folder : LookResult → Bool
is_of_folder (outcome.Refused step refusal why) = is_look step
is_of_folder outcome.Kept = true
is_of_folder (outcome.KeptMost going all) = true
is_of_folder other = false

-- the last look went by the folder's list
abbrev pub is_listed : List LookEvent → Bool
is_listed events = not (list_any (λ (e : LookEvent). is_of_folder e.outcome) events)
