-- What is done for files and names, in order, and printed of it.
use Rattle.std.specs.Prelude.{◌≡◌, ◌&&◌, ◌⊎◌, ℕ, Bool, true, List, [], ◌∷◌, Option, None, Some}
use Rattle.std.specs.Prelude.{Result, Ok, Err, IfOk, IsFalse, OnOk, is_ok, map}
use Rattle.std.specs.Borrow.{Bor}
use Rattle.std.specs.Io.KnownBytes.{Keeps}
use Rattle.clap.specs.Words.{Text}
use Rattle.disk_model.specs.Disk as model
use Rattle.disk_model.specs.Disk.{State, Throughout}
use Rattle.disk_store.specs.Beginning.{SinceOpened}
use Rattle.disk_store.specs.File.{file_state}
use Rattle.disk_store.specs.declared.file.start.Start.{Ghosts}
use Rattle.mot_commands.specs.Asking.{IsRequest, base_name}
use Rattle.mot_commands.specs.Serving.{OpensFor}
use Rattle.mot_commands.specs.declared.asking.Words.{Words}
use Rattle.mot_commands.specs.declared.asking.Words.TheVariants.{Files, Objects}
use Rattle.mot_endpoints.specs.Texts.{IsTyped}
use Rattle.mot_events.specs.Events.{event_of}
use Rattle.mot_events.specs.declared.event.LookEvent.{LookEvent}
use Rattle.mot_events.specs.declared.event.LookResult.{LookResult}
use Rattle.mot_events.specs.declared.event.LookResult.TheVariants as outcome
use Rattle.mot_events.specs.declared.event.LookStep.{LookStep}
use Rattle.mot_events.specs.declared.event.LookStep.TheVariants.{Put, Withdraw}
use Rattle.mot_events.specs.declared.event.Why.TheVariants.{Unsaid}
use Rattle.mot_files.specs.Call.{Call}
use Rattle.mot_journal.specs.Image.{Standing}
use Rattle.mot_lines.specs.Text.{done_line, refusal_line}
use Rattle.mot_log.specs.Text.{look_line}
use Rattle.mot_numbers.specs.declared.refusal.Refusal.{Refusal}
use Rattle.mot_objects.specs.declared.command.Command.{Command}
use Rattle.mot_objects.specs.declared.command.Done.{Done}
use Rattle.mot_outcome.specs.Outcome.{OnFile, Prints}
use Rattle.mot_outcome.specs.declared.used.UsedDisk.{UsedDisk}
use Rattle.mot_playout.specs.Runs.{ServerView}
use Rattle.mot_repository.specs.Answers.{IsAnswered}
use Rattle.mot_repository.specs.Outcome.{after_command}
use Rattle.mot_repository.specs.Repository.{Holds, IsBeforeOrAfter}
use Rattle.mot_suffixes.specs.Types.{SuffixType}

-- the reply to a command
abbrev pub reply_line : Result Done Refusal → List ℕ
reply_line (Ok done) = done_line done
reply_line (Err refusal) = refusal_line refusal

-- what came of a step
abbrev pub taken_result : LookStep → Result Done Refusal → LookResult
taken_result step (Ok done) = outcome.Done step done
taken_result step (Err refusal) = outcome.Refused step refusal Unsaid

-- what came of a word: a file is put, or an object withdrawn
abbrev pub taken_event : Words → (word : List ℕ) → Result Done Refusal → LookEvent
taken_event (Files types) path end = event_of (base_name path) (taken_result Put end)
taken_event Objects name end = event_of name (taken_result Withdraw end)

-- The line of a word tells that as the log does of a look. Where there was no memory for it, it is the
-- reply alone.
abbrev pub IsLineOf : Words → (word : List ℕ) → Result Done Refusal → (text : List ℕ) → Type 0
IsLineOf words word end text =
    (text ≡ look_line (taken_event words word end)) ⊎ (text ≡ reply_line end)

-- a server, the known bytes of what is printed to, and the calls that were made of the system
abbrev pub Progress : Type 0 → Type 0
Progress D = ServerView D × Option (List ℕ) × List Call

module _ {D : Type 0} (state : D → State) where
  -- What a server did for a command, and how it ended. On every disk that is right for what it keeps in
  -- memory, and a halted one does nothing. If it held what the disk stands for, a crash at any moment
  -- leaves that, or what the command makes of it; and once it is done, the latter.
  pub record Does (command : Command) (old new : ServerView D) (end : Result Done Refusal) :
      Type 0 where
    pub keeps : model.Keeps (state old.disk) (state new.disk)
    pub answered : IsAnswered old.view new.view (state old.disk) (state new.disk) command end
    pub going : OnOk end (IsFalse old.view.halted)
    pub any_moment : (s : Standing) → Holds old.view s (state old.disk)
        → Throughout (state old.disk) (state new.disk)
        (IsBeforeOrAfter old.view.journal.layout s command)
    pub stored : (s : Standing) → Holds old.view s (state old.disk)
        → IfOk end (λ done. (next : Standing)
        × (after_command old.view.journal.layout s command ≡ Ok (next, done))
        × Holds new.view next (state new.disk))

  -- the command was done so; or there was none, and nothing was done
  abbrev pub Executes : Result Command Refusal → (old new : ServerView D) → Result Done Refusal
      → Type 0
  Executes (Ok command) old new end = Does command old new end
  Executes (Err refusal) old new end = (new ≡ old) × (end ≡ Err refusal)

module _ {D : Type 0} (state : D → State) (words : Words) where
  -- A word was taken: what it asks for was done, and the reply printed, up to this ending. It tells
  -- whether the command is done.
  pub record Takes (word : List ℕ) (done : Bool) (ending : Option Refusal)
      (old new : Progress D) : Type 0 where
    pub request : Result Command Refusal
    pub asked : IsRequest words word old.0.view.carousel request old.2 new.2
    pub end : Result Done Refusal
    pub answered : Executes state request old.0 new.0 end
    pub text : List ℕ
    pub told : IsLineOf words word end text
    pub printed : Prints ending text old.1 new.1
    pub right : ending ≡ None → done ≡ is_ok end

  -- so was each of these, or some first ones up to this ending; all is whether each is done
  abbrev pub TakesEach : List (List ℕ) → (all : Bool) → Option Refusal
      → (old new : Progress D) → Type 0
  TakesEach [] all ending old new = (all ≡ true) × (ending ≡ None) × (new ≡ old)
  TakesEach (word ∷ others) all ending old new =
      ((done : Bool) × (rest : Bool) × (mid : Progress D) × Takes word done None old mid
      × TakesEach others rest ending mid new × (all ≡ (done && rest)))
      ⊎ ((refusal : Refusal) × (ending ≡ Some refusal) × Takes word all ending old new)

  -- nothing was printed or asked of the system, or a server was opened of a disk that was in a
  -- state start, and the words were taken
  abbrev pub Changes : List (List ℕ) → (all : Bool) → Option Refusal
      → (old new : Option (List ℕ)) → (before after : List Call) → (disk : D) → (start : State)
      → Type 0
  Changes list all ending old new before after disk =
      OpensFor state disk ending (Keeps old new × (after ≡ before))
      (λ first last. TakesEach list all ending (first, old, before) (last, new, after))

abbrev pub texts : List (Bor Text) → List Text
texts words = map (λ (word : Bor Text). word.now) words

module _ {S F : Type 0} {start : Ghosts S F} where
  -- A file was opened, and the words taken on its disk, up to this ending. The writer's known bytes
  -- were old and are new, and the calls of the system that were made before and after are these.
  abbrev pub ChangesFile : Words → (list : List Text) → (all : Bool) → Option Refusal
      → (old new : Option (List ℕ)) → (before after : List Call) → UsedDisk S F start → Type 0
  ChangesFile words list all ending old new before after = OnFile (λ disk beside. SinceOpened
      (λ first now. Changes file_state words list all ending old new before after disk first) disk)

  abbrev pub PutsFiles : (types : Option (Bor Text)) → (files : List Text) → (all : Bool)
      → Option Refusal → UsedDisk S F start → (old new : Option (List ℕ))
      → (before after : List Call) → Type 0
  PutsFiles types files all ending used old new before after = (table : List SuffixType)
      × IsTyped types table × ChangesFile (Files table) files all ending old new before after used

  abbrev pub WithdrawsFile : (names : List Text) → (all : Bool) → Option Refusal
      → UsedDisk S F start → (old new : Option (List ℕ)) → Type 0
  WithdrawsFile names all ending used old new = (before : List Call) × (after : List Call)
      × ChangesFile Objects names all ending old new before after used

  -- these are the calls of files that were put, whatever came of it
  abbrev pub PutReads : (types : Option (Bor Text)) → (files : List Text) → UsedDisk S F start
      → (before after : List Call) → Type 0
  PutReads types files used before after = (all : Bool) × (ending : Option Refusal)
      × (old : Option (List ℕ)) × (new : Option (List ℕ))
      × PutsFiles types files all ending used old new before after
