-- What is told of a look at a folder: an event for each command, and each file that was not taken.
use Rattle.std.specs.Prelude.{◌≡◌, ◌&&◌, ◌||◌, ℕ, Bool, true, false, not, List, [], ◌∷◌, ◌++◌, map}
use Rattle.std.specs.Prelude.{None, Option, Some, filter, if◌then◌else◌, length, min}
use Rattle.std.specs.List.{AllByRecursion, flat_map, list_any}
use Rattle.mot_events.specs.Events.{event_of}
use Rattle.mot_events.specs.declared.event.LookStep.{LookStep}
use Rattle.mot_events.specs.declared.event.LookStep.TheVariants as step
use Rattle.mot_events.specs.declared.event.LookEvent.{LookEvent}
use Rattle.mot_events.specs.declared.event.LookResult.{LookResult}
use Rattle.mot_events.specs.declared.event.LookResult.TheVariants as outcome
use Rattle.mot_events.specs.declared.event.Why.{Why}
use Rattle.mot_events.specs.declared.event.Why.TheVariants.{Unsaid}
use Rattle.mot_folder.specs.Listed.{nameless}
use Rattle.mot_folder.specs.declared.report.Report.{Report}
use Rattle.mot_folder.specs.Taken.{AreTaken}
use Rattle.mot_numbers.specs.declared.refusal.Refusal.{Refusal}
use Rattle.mot_numbers.specs.declared.refusal.Refusal.TheVariants.{TooManyObjects}
use Rattle.mot_playout.specs.declared.running.Attempt.{Attempt}
use Rattle.mot_playout.specs.declared.running.Attempt.TheVariants.{Accepted, Refused}
use Rattle.mot_shelf.specs.Given.{Given}
use Rattle.mot_suffixes.specs.Images.{other_image}
use Rattle.mot_suffixes.specs.Types.{SuffixType}
use Rattle.mot_suffixes.specs.declared.images.OtherImage.{OtherImage}
use Rattle.mot_update.specs.Told.{Answer, Put, Replaced, Withdrew, came_of, was_accepted}
use Rattle.mot_update.specs.Updating.{is_known}
use Rattle.mot_objects.specs.declared.command.Item.{Item}

-- what came of a command, with the reason of a refusal
abbrev pub result_for : LookStep → Attempt → Why → LookResult
result_for what (Accepted done) why = outcome.Done what done
result_for what (Refused refusal) why = outcome.Refused what refusal why

-- the same of the object of this name, with no reason
abbrev pub answered : LookStep → List ℕ → Attempt → LookEvent
answered what name came = event_of name (result_for what came Unsaid)

-- the folder of this path is not listed
abbrev pub unlisted_for : List ℕ → Refusal → Why → LookEvent
unlisted_for path refusal why = event_of path (outcome.Refused step.Look refusal why)

-- the same, whatever the reason of a refusal
abbrev pub without_why : LookResult → LookResult
without_why (outcome.Refused what refusal why) = outcome.Refused what refusal Unsaid
without_why other = other

abbrev pub unreasoned : LookEvent → LookEvent
unreasoned e = event_of e.name (without_why e.outcome)

-- what is told of a command
abbrev pub event_of_answer : Answer → LookEvent
event_of_answer (Withdrew name came) = answered step.Withdraw name came
event_of_answer (Put name came) = answered step.Put name came
event_of_answer (Replaced name came) = answered step.Replace name came

abbrev pub is_reading : LookStep → Bool
is_reading step.Read = true
is_reading other = false

-- it is told of a file that was not taken
abbrev pub is_of_file : LookResult → Bool
is_of_file (outcome.Refused what refusal why) = is_reading what
is_of_file outcome.Young = true
is_of_file outcome.Changed = true
is_of_file other = false

-- it is a note beside, or of a name that is left out: nothing was done
abbrev pub is_note : LookResult → Bool
is_note (outcome.Skipped skip) = true
is_note (outcome.Going unknown all) = true
is_note (outcome.Gap gap) = true
is_note (outcome.Waiting most files) = true
is_note outcome.Listed = true
is_note other = false

-- it is noted of an object that its bytes are of another image type than its suffix says
abbrev pub is_of_image : LookResult → Bool
is_of_image (outcome.OtherImage other) = true
is_of_image other = false

abbrev pub is_read : LookEvent → Bool
is_read e = is_of_file e.outcome

-- it is told of a command, or of the whole look
abbrev pub is_of_look : LookEvent → Bool
is_of_look e = not (is_of_file e.outcome || is_note e.outcome || is_of_image e.outcome)

-- these of them, whatever the reasons of refusals
abbrev pub of_look : List LookEvent → List LookEvent
of_look entries = map unreasoned (filter is_of_look entries)

-- the report tells exactly these, in order, where there was memory for all of them
abbrev pub ReportTells : Report → List LookEvent → Type 0
ReportTells report entries = report.any_left_out ≡ false → report.events.items ≡ entries

-- what was told goes on by one
abbrev pub TellsOne : Report → Report → LookEvent → Type 0
TellsOne old new e = (entries : List LookEvent) → ReportTells old entries
    → ReportTells new (entries ++ e ∷ [])

-- the names of the files that were not taken, as they are told
abbrev pub names_read : List LookEvent → List (List ℕ)
names_read entries = map (λ (e : LookEvent). e.name) (filter is_read entries)

-- those of them that note an image type
abbrev pub images_noted : List LookEvent → List LookEvent
images_noted entries = filter (λ (e : LookEvent). is_of_image e.outcome) entries

-- what is noted of an object of this name: nothing, or that it is such
abbrev pub image_note : List ℕ → Option OtherImage → List LookEvent
image_note name None = []
image_note name (Some other) = event_of name (outcome.OtherImage other) ∷ []

-- what is noted of a wanted object: exactly where its suffix says an image type that its bytes do
-- not begin as
abbrev pub image_notes : Item → List LookEvent
image_notes w = image_note w.name (other_image w.content w.body)

abbrev pub all_image_notes : List Item → List LookEvent
all_image_notes wanted = flat_map image_notes wanted

-- the object of a command has to wait, since there are as many as there may be
abbrev pub is_too_many : Refusal → Bool
is_too_many TooManyObjects = true
is_too_many other = false

abbrev pub has_to_wait : Attempt → Bool
has_to_wait (Accepted done) = false
has_to_wait (Refused refusal) = is_too_many refusal

abbrev pub is_waiting : Answer → Bool
is_waiting (Withdrew name came) = false
is_waiting (Put name came) = has_to_wait came
is_waiting (Replaced name came) = has_to_wait came

-- of the answers those that are told: of the objects that wait only the first is
abbrev pub told_behind : (waits : Bool) → List Answer → List Answer
told_behind waits [] = []
told_behind waits (answer ∷ answers) =
    if waits && is_waiting answer then told_behind waits answers
    else answer ∷ told_behind (waits || is_waiting answer) answers

abbrev pub told_of : List Answer → List Answer
told_of answers = told_behind false answers

-- how many objects wait, as they are counted
abbrev pub waiting_in : List Answer → ℕ
waiting_in answers = min (length (filter is_waiting answers)) 4294967295

-- the command was refused
abbrev pub not_accepted : Answer → Bool
not_accepted answer = not (was_accepted (came_of answer))

-- an object was put or replaced only if its file was made to last before
abbrev pub IsKept : (kept : List (List ℕ)) → Answer → Type 0
IsKept kept (Withdrew name came) = Unit {0}
IsKept kept (Put name came) = was_accepted came ≡ true → is_known kept name ≡ true
IsKept kept (Replaced name came) = was_accepted came ≡ true → is_known kept name ≡ true

abbrev pub AreKept : (kept : List (List ℕ)) → List Answer → Type 0
AreKept kept answers = AllByRecursion (IsKept kept) answers

-- It tells these answers, and beside them only files that were not taken, and notes; and so many
-- objects wait, of which only the first is told. Of these names each is that of an object that was
-- given, with the bytes that the folder gave, or of a file that was passed over, or of one of these
-- files; before that the files are told that have no name of an object. Of each object that was given its image type is noted where
-- its bytes do not begin as its suffix says.
pub record TellsOf (types : List SuffixType) (given : Given) (report : Report) (waiting : ℕ)
    (names : List (List ℕ)) (answers : List Answer) (wanted : List Item) : Type 0 where
  pub entries : List LookEvent
  pub told : ReportTells report entries
  pub are : of_look entries ≡ map event_of_answer (told_of answers)
  pub waits : waiting ≡ waiting_in answers
  pub lasting : AreKept given.kept answers
  -- something was refused exactly if a command was, or a file is told
  pub any : report.any_refused ≡ (list_any not_accepted answers || list_any is_read entries)
  pub missed : List (List ℕ)
  pub read : names_read entries ≡ nameless given.files ++ missed
  pub taken : AreTaken types (report.any_without_memory ≡ true) names given.read given.unchanged
      given.missed wanted missed
  pub images : images_noted entries ≡ all_image_notes wanted

-- it tells these answers, and beside them only files that were not taken, and notes
pub record TellsAnswers (report : Report) (answers : List Answer) : Type 0 where
  pub entries : List LookEvent
  pub told : ReportTells report entries
  pub are : of_look entries ≡ map event_of_answer answers
  pub images : images_noted entries ≡ []
