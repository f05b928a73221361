-- What a run of the program comes to, whatever its tasks are.
use Rattle.std.specs.declared.io.Error.{Error}
use Rattle.std.specs.Prelude.{ℕ, ◌≡◌, ◌++◌, ◌∷◌, [], Bool, true, List, Option, Some, None, ◌⊎◌, Err}
use Rattle.std.specs.Prelude.{IsErrAnd, IsSomeAnd, IsTrue, Ok, Result, false, option_map}
use Rattle.std.specs.Fmt.{decimal}
use Rattle.std.specs.Io.KnownBytes.{Appends, Keeps}
use Rattle.std.specs.Result.{result_unwrap_or}
use Rattle.clap.specs.Words.{Row, Text}
use Rattle.disk_store.specs.declared.file.start.Start.{Ghosts}
use Rattle.disk_store.specs.declared.file.FileDiskFrom.{FileDiskFrom}
use Rattle.mot_endpoints.specs.Opened.{IsReadAlike, TriesReads, AreMet, BeginsTo, Need, is_fault}
use Rattle.mot_files.specs.Call.{Call, opened_disk}
use Rattle.disk_store.specs.File.{fault_on, ram_state}
use Rattle.disk_store.specs.Second.{second_fault}
use Rattle.disk_store.specs.declared.file.fault.OpenFault.TheVariants.{System}
use Rattle.mot_endpoints.specs.declared.fault.Cause.{Cause}
use Rattle.mot_endpoints.specs.declared.fault.Cause.TheVariants.{Disk, NewDisk}
use Rattle.mot_endpoints.specs.declared.fault.NewDiskFault.TheVariants as new_fault
use Rattle.mot_numbers.specs.declared.refusal.Refusal.{Refusal}
use Rattle.mot_numbers.specs.declared.refusal.Refusal.TheVariants.{DeviceFault, OutOfMemory}
use Rattle.mot_numbers.specs.declared.refusal.Refusal.TheVariants.{WriteFault}
use Rattle.mot_outcome.specs.declared.exit.Exit.{Exit}
use Rattle.mot_outcome.specs.declared.used.TaskCalls.{TaskCalls}
use Rattle.mot_outcome.specs.declared.used.TaskEnd.{TaskEnd}
use Rattle.mot_outcome.specs.declared.used.UsedDisk.{UsedDisk}
use Rattle.mot_outcome.specs.declared.used.UsedDisk.TheVariants.{InMemory, OfCopy, OfFile}
use Rattle.mot_outcome.specs.declared.used.UsedDisk.TheVariants.{Untouched}
use Rattle.mot_playout.specs.Attempts.{fault_of}
use Rattle.mot_session.specs.Served.{WritesFront}
use Rattle.mot_cli.specs.Given.{AskFor, AskForHelp}
use Rattle.mot_cli.specs.Command.{motcar_app}

-- How printing a text ended: all of it was printed; or it was refused, and some first bytes were.
abbrev pub Prints : (ending : Option Refusal) → List ℕ → (old new : Option (List ℕ)) → Type 0
Prints None text old new = Appends old new text
Prints (Some refusal) text old new = (refusal ≡ WriteFault) × WritesFront text old new

-- a line of these bytes and a number in decimal digits
abbrev pub number_line : List ℕ → ℕ → List ℕ
number_line bytes number = (bytes ++ decimal number) ++ 10 ∷ []

-- why the first call on either of two files failed
abbrev pub cause_of_two : (from to : Option Error) → Option Cause
cause_of_two (Some error) to = Some (Disk (System error))
cause_of_two None to = option_map (λ error. NewDisk (new_fault.Disk (System error))) to

-- The disk that is handed out is of a file that held the bytes of `start` as it was opened. These
-- are words of contracts alone: what holds for each `start` holds for what the file really held.
module _ {S F : Type 0} {start : Ghosts S F} where
  -- no file was opened or made
  abbrev pub IsUntouched : UsedDisk S F start → Type 0
  IsUntouched (Untouched value) = Unit {0}
  IsUntouched used = ⊥

  -- why the first call on the file of the disk that failed did so; of a copy, that of the file that
  -- was copied comes first
  abbrev pub fault_in : UsedDisk S F start → Option Cause
  fault_in (OfFile disk beside) = option_map (λ error. Disk (System error)) (fault_on disk)
  fault_in (OfCopy from None) = option_map (λ error. Disk (System error)) (fault_on from)
  fault_in (OfCopy from (Some to)) = cause_of_two (fault_on from) (second_fault to)
  fault_in used = None

  -- a file was opened or made: its disk, and what was done beside it, have this fact
  abbrev pub OnFile : (FileDiskFrom S F start → TaskCalls → Type 0) → UsedDisk S F start → Type 0
  OnFile P (OfFile disk beside) = P disk beside
  OnFile P used = ⊥

  -- no file was opened or made, and nothing was printed
  pub record IsUntold (used : UsedDisk S F start) (old new : Option (List ℕ)) : Type 0 where
    pub untouched : IsUntouched used
    pub silent : Keeps old new

  -- A command was not begun, for such a refusal, and nothing was printed; or it was, and ended so.
  abbrev pub Finishes : (IsEarly : Refusal → Type 0)
      → (IsEnded : Option Refusal → UsedDisk S F start → Type 0) → TaskEnd S Unit F start
      → (old new : Option (List ℕ)) → Type 0
  Finishes IsEarly IsEnded finished old new =
      IsErrAnd finished.result (λ refusal. IsEarly refusal × IsUntold finished.disk old new)
      ⊎ IsEnded (fault_of finished.result) finished.disk

  -- It came to its end, which tells whether all of it is done; or it was not begun, for such a
  -- refusal; or this refusal ended it.
  abbrev pub Concludes : (IsEarly : Refusal → Type 0) → (IsEnded : Bool → Option Refusal → Type 0)
      → Result Bool Refusal → UsedDisk S F start → (old new : Option (List ℕ)) → Type 0
  Concludes IsEarly IsEnded (Ok all) used old new = IsEnded all None
  Concludes IsEarly IsEnded (Err r) used old new =
      (IsEarly r × IsUntold used old new) ⊎ IsEnded false (Some r)

  -- By these calls of a host a command had what it needs, its disk was opened at this path, and this was
  -- done. If no disk is handed out, it stopped at one of its needs, or tried in vain to open the disk.
  abbrev pub OpensAnd : List Need → Text → (Does : (old new : List Call) → Type 0)
      → (ending : Option Refusal) → UsedDisk S F start → (old new : List Call) → Type 0
  OpensAnd needs path Does ending (Untouched value) old new = IsSomeAnd ending (λ refusal.
      BeginsTo needs refusal old new ⊎ ((refusal ≡ DeviceFault) × ((then : List Call)
      × AreMet needs old then × (new ≡ then ++ opened_disk path false ∷ []))))
  OpensAnd needs path Does ending (InMemory disk value) old new = ⊥
  OpensAnd needs path Does ending (OfCopy from to) old new = ⊥
  OpensAnd needs path Does ending (OfFile disk beside) old new = (then : List Call)
      × AreMet needs old then × Does (then ++ opened_disk path true ∷ []) new

  -- the same, and nothing else was asked of the host
  abbrev pub Opens : List Need → Text → (ending : Option Refusal) → UsedDisk S F start
      → (old new : List Call) → Type 0
  Opens needs path = OpensAnd needs path (λ opened now. now ≡ opened)

  -- The same. But where the disk could not be opened, a command that looks tried to read its file; and
  -- if a disk in memory is handed out, two reads gave the bytes that this has.
  abbrev pub OpensOrReads : (looks : Bool) → List Need → Text → (ending : Option Refusal)
      → UsedDisk S F start → (old new : List Call) → Type 0
  OpensOrReads looks needs path ending (Untouched value) old new = IsSomeAnd ending (λ refusal.
      BeginsTo needs refusal old new ⊎ ((refusal ≡ DeviceFault) × ((then : List Call)
      × AreMet needs old then × TriesReads looks path (then ++ opened_disk path false ∷ []) new)))
  OpensOrReads looks needs path ending (InMemory copy value) old new =
      IsTrue looks × ((then : List Call) × AreMet needs old then
      × IsReadAlike path (ram_state copy).bytes (then ++ opened_disk path false ∷ []) new)
  OpensOrReads looks needs path ending used old new = Opens needs path ending used old new

-- Which calls a host made in a run that ended so: none, or those of the task that the words ask for, as
-- OfTask says of it. Where none was, the refusal is that of no file, or help was asked for. Which
-- words ask for which task IsTask says; before and after are the calls so far.
pub data UsesFiles {S F : Type 0} {start : Ghosts S F} {T : Type 0}
    (IsTask : Text → List Row → T → Type 0)
    (OfTask : T → UsedDisk S F start → (before after : List Call) → Type 0) (words : List Text)
    (exit : Exit S F start) (before after : List Call) : Type 0 where
  none : (IsSomeAnd exit.refusal (λ refusal. is_fault refusal ≡ true) → AskForHelp motcar_app words)
      → IsUntouched exit.disk → after ≡ before → UsesFiles IsTask OfTask words exit before after
  asked : (task : T) → AskFor motcar_app IsTask words task → OfTask task exit.disk before after
      → UsesFiles IsTask OfTask words exit before after

-- the status of a run that no refusal ended, where all was done or some file was refused; or that
-- this one ended
abbrev pub status_of : (all : Bool) → Option Refusal → ℕ
status_of true None = 0
status_of all refusal = 1

-- that of a run whose task came to this
abbrev pub status_in : Result Bool Refusal → ℕ
status_in result = status_of (result_unwrap_or result false) (fault_of result)

-- What a run came to. Which words ask for which task IsTask says, and which are wrong IsWrong. The
-- refusal of a number that no task takes is bad, those before a task is begun are Early, and how a
-- task ends that was begun Ends says. What the reader had left was unread and is left, and the
-- writer's known bytes were old and are new.
module _ {S F : Type 0} {start : Ghosts S F} {T : Type 0} (IsTask : Text → List Row → T → Type 0)
    (IsWrong : List Text → Type 0) (bad : Refusal) (Early : T → Refusal → Type 0)
    (Ends : T → (all : Bool) → Option Refusal → UsedDisk S F start
    → (unread left old new : Option (List ℕ)) → Type 0)
    (words : List Text) (exit : Exit S F start) (unread left old new : Option (List ℕ)) where
  -- it ends with this status and refusal, and nothing was read, printed, opened or made
  abbrev pub IsIdle : ℕ → Option Refusal → Type 0
  IsIdle status refusal = (exit.status ≡ status) × (exit.refusal ≡ refusal)
      × IsUntold exit.disk old new × Keeps unread left

  pub data ComesTo : Type 0 where
    -- it could not be told what the words ask for
    no_memory : IsIdle 1 (Some OutOfMemory) → ComesTo
    wrong : IsWrong words → IsIdle 2 None → ComesTo
    -- a number of theirs is out of its range, so that they ask for no task
    no_task : ((task : T) → AskFor motcar_app IsTask words task → ⊥) → IsIdle 1 (Some bad) → ComesTo
    -- they ask for help, which was printed, or some first bytes of it; no clause says what it tells
    helped : AskForHelp motcar_app words → exit.status ≡ status_of true exit.refusal
        → (text : List ℕ) → Prints exit.refusal text old new → IsUntouched exit.disk
        → Keeps unread left → ComesTo
    -- the task that they ask for was not begun; or it was, and ended so
    unbegun : (task : T) → AskFor motcar_app IsTask words task → (refusal : Refusal)
        → Early task refusal → IsIdle 1 (Some refusal) → ComesTo
    begun : (task : T) → AskFor motcar_app IsTask words task → (all : Bool)
        → exit.status ≡ status_of all exit.refusal
        → Ends task all exit.refusal exit.disk unread left old new → ComesTo
