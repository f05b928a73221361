-- Why objects are not stored, and which of them wait, while a look goes on.
use Rattle.std.specs.Prelude.{◌&&◌, ◌+◌, ◌==◌, ◌≡◌, ℕ, Bool, true, false, not, List, if◌then◌else◌}
use Rattle.std.specs.Prelude.{[], min, nat_lt}
use Rattle.std.specs.List.{list_any}
use Rattle.std.specs.Str.{is_utf8}
use Rattle.mot_events.specs.declared.event.LookEvent.{LookEvent}
use Rattle.mot_events.specs.declared.event.Why.{Why}
use Rattle.mot_events.specs.declared.event.Why.TheVariants.{Bytes, Control, NotUtf8, Objects}
use Rattle.mot_events.specs.declared.event.Why.TheVariants.{Space, Unsaid}
use Rattle.mot_folder.specs.Log.{ReportTells, TellsOne, has_to_wait}
use Rattle.mot_folder.specs.declared.report.Report.{Report}
use Rattle.mot_folder.specs.declared.report.Sizes.{Sizes}
use Rattle.mot_numbers.specs.declared.refusal.Refusal.{Refusal}
use Rattle.mot_numbers.specs.declared.refusal.Refusal.TheVariants.{NoRoom, TooManyObjects}
use Rattle.mot_playout.specs.declared.running.Attempt.{Attempt}
use Rattle.mot_playout.specs.declared.running.Attempt.TheVariants.{Accepted, Refused}
use Rattle.mot_update.specs.declared.settling.SettleOutcome.{SettleOutcome}
use Rattle.mot_update.specs.declared.settling.SettleOutcome.TheVariants as settled

-- why an object of these sizes was not stored
abbrev pub why_refused : Sizes → Refusal → Why
why_refused sizes NoRoom = Bytes sizes.length
why_refused sizes TooManyObjects = Objects sizes.most
why_refused sizes other = Unsaid

abbrev pub why_not_stored : Sizes → Attempt → Why
why_not_stored sizes (Accepted done) = Unsaid
why_not_stored sizes (Refused refusal) = why_refused sizes refusal

-- why a file's name is no object's: what it has
abbrev pub why_nameless : List ℕ → Why
why_nameless name = if not (is_utf8 name) then NotUtf8
    else if list_any (λ b. b == 32) name then Space else Control

-- nothing of an earlier look is kept
pub record BeginsAnew (report : Report) : Type 0 where
  pub none : report.events.items ≡ []
  pub fine : report.any_refused ≡ false
  pub whole : report.any_left_out ≡ false
  pub memory : report.any_without_memory ≡ false
  pub left : report.any_left ≡ false
  pub room : report.any_without_room ≡ false
  pub skipped : report.skipped ≡ 0

-- if an event said that memory ran out, one still does
abbrev pub StaysShort : Report → Report → Type 0
StaysShort old new = old.any_without_memory ≡ true → new.any_without_memory ≡ true

-- what was told stays
abbrev pub TellsNoMore : Report → Report → Type 0
TellsNoMore old new =
    (entries : List LookEvent) → ReportTells old entries → ReportTells new entries

-- this is told, but for what is only counted
abbrev pub TellsUnless : (counted : Bool) → Report → Report → LookEvent → Type 0
TellsUnless true old new e = TellsNoMore old new
TellsUnless false old new e = TellsOne old new e

-- where so many wait, a further object that has to is only counted
abbrev pub is_counted : (waiting : ℕ) → Attempt → Bool
is_counted waiting came = has_to_wait came && nat_lt 0 waiting

-- how many wait then
abbrev pub and_waiting : (waiting : ℕ) → (waits : Bool) → ℕ
and_waiting waiting waits = if waits then min (waiting + 1) 4294967295 else waiting

abbrev pub and_settled : (waiting : ℕ) → SettleOutcome → ℕ
and_settled waiting settled.Right = waiting
and_settled waiting (settled.Put came) = and_waiting waiting (has_to_wait came)
and_settled waiting (settled.Replaced came) = and_waiting waiting (has_to_wait came)
