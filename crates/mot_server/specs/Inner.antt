-- What a task came to, before it is told.
use Rattle.std.specs.Prelude.{ℕ, ◌≡◌, ◌⊎◌, Bool, true, false, List, Option, None, Some, Result, Ok}
use Rattle.std.specs.Prelude.{Err, IsErrAnd}
use Rattle.std.specs.Io.KnownBytes.{Keeps}
use Rattle.std.specs.Result.{result_unwrap_or}
use Rattle.disk_store.specs.declared.file.start.Start.{Ghosts}
use Rattle.mot_cli.specs.declared.task.NoTask.{NoTask}
use Rattle.mot_cli.specs.declared.task.NoTask.TheVariants.{Lacks, OutOfRange}
use Rattle.mot_cli.specs.declared.task.Task.{Task}
use Rattle.mot_numbers.specs.declared.refusal.Refusal.{Refusal}
use Rattle.mot_outcome.specs.Outcome.{IsUntold}
use Rattle.mot_outcome.specs.declared.exit.Exit.{Exit}
use Rattle.mot_outcome.specs.declared.used.UsedDisk.{UsedDisk}
use Rattle.mot_playout.specs.Attempts.{fault_of}
use Rattle.mot_server.specs.Program.{Ends, IsBeginningRefusal}

-- what came to its end is done whole
abbrev pub whole_result : Result Unit Refusal → Result Bool Refusal
whole_result (Ok done) = Ok true
whole_result (Err refusal) = Err refusal

module _ {S F : Type 0} {start : Ghosts S F} where
  -- It was not begun, and nothing was read or printed; or it was, and ended so. What the reader had
  -- left was unread and is left, and the writer's known bytes were old and are new.
  abbrev pub ComesOut : Task → Result Bool Refusal → UsedDisk S F start
      → (unread left old new : Option (List ℕ)) → Type 0
  ComesOut task result used unread left old new =
      IsErrAnd result (λ refusal. IsBeginningRefusal task refusal × IsUntold used old new
      × Keeps unread left)
      ⊎ Ends task (result_unwrap_or result false) (fault_of result) used unread left old new

  -- how a run ends that was not begun, since its words ask for no task
  abbrev pub TellsWhy : NoTask → Exit S F start → Type 0
  TellsWhy (Lacks option) exit = (exit.status ≡ 2) × (exit.refusal ≡ None)
  TellsWhy (OutOfRange refusal) exit = (exit.status ≡ 1) × (exit.refusal ≡ Some refusal)
