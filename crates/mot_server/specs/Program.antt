-- What the program does, whichever command its words name.
use Rattle.std.specs.Prelude.{ℕ, ◌≡◌, ◌≢◌, ◌⊎◌, Bool, true, List, [], Option, None, Some}
use Rattle.std.specs.Io.KnownBytes.{Keeps}
use Rattle.std.specs.Option.{option_map_or}
use Rattle.clap.specs.Words.{Text, subcommand_of}
use Rattle.disk_store.specs.declared.file.start.Start.{Ghosts}
use Rattle.mot_air.specs.Commands.{IsUnplayed, PlaysTask, needs_of}
use Rattle.mot_sync_command.specs.Syncing.{IsUnsynced, SyncsTask, synced_with}
use Rattle.mot_cli.specs.Command.{motcar_app}
use Rattle.mot_cli.specs.Task.{AskForNothing, IsTask, LackOption, bad_number}
use Rattle.mot_cli.specs.declared.task.Task.{Task}
use Rattle.mot_cli.specs.declared.task.Task.TheVariants.{Memory, Format, Copy, Play, Sync, Health}
use Rattle.mot_cli.specs.declared.task.Task.TheVariants.{PutFiles, WithdrawNames, OnDisk}
use Rattle.mot_commands.specs.Commands.{DoesOnFile, FormatsFile, FormatsFree, IsUnformatted}
use Rattle.mot_commands.specs.Commands.{IsUnmade, ServesMemory, only_looks}
use Rattle.mot_commands.specs.Changing.{PutReads, PutsFiles, WithdrawsFile, texts}
use Rattle.mot_commands.specs.Health.{AsksHealth, TellsHealth}
use Rattle.mot_copy_command.specs.Command.{CopiesFile, OpensTwo}
use Rattle.mot_endpoints.specs.Opened.{Need, if_given}
use Rattle.mot_endpoints.specs.Texts.{IsUntyped}
use Rattle.mot_files.specs.Call.{Call}
use Rattle.mot_numbers.specs.declared.refusal.Refusal.{Refusal}
use Rattle.mot_numbers.specs.declared.refusal.Refusal.TheVariants.{BadNumber, DeviceFault}
use Rattle.mot_numbers.specs.declared.refusal.Refusal.TheVariants.{OutOfMemory}
use Rattle.mot_outcome.specs.Outcome.{ComesTo, Opens, OpensAnd, OpensOrReads, UsesFiles}
use Rattle.mot_outcome.specs.declared.exit.Exit.{Exit}
use Rattle.mot_outcome.specs.declared.used.UsedDisk.{UsedDisk}

-- the refusal of a number that no task takes of the command that the words name
abbrev pub refused_number : List Text → Refusal
refused_number words =
    option_map_or (λ named. bad_number named.0) (subcommand_of motcar_app words) BadNumber

-- why a task is not begun
abbrev pub IsBeginningRefusal : Task → Refusal → Type 0
IsBeginningRefusal (Memory g) r = IsUnmade g r
IsBeginningRefusal (Format path g directory) r = IsUnformatted g r
IsBeginningRefusal (Play p) r = IsUnplayed p r
IsBeginningRefusal (Sync sync) r = IsUnsynced sync.types r
IsBeginningRefusal (Health h) r = r ≡ OutOfMemory
IsBeginningRefusal (PutFiles path files types) r = IsUntyped types r ⊎ (r ≡ DeviceFault)
IsBeginningRefusal task r = r ≡ DeviceFault

-- if no refusal ended a task, all of it is done
abbrev pub IsWhole : (all : Bool) → Option Refusal → Type 0
IsWhole all ending = ending ≡ None → all ≡ true

module _ {S F : Type 0} {start : Ghosts S F} where
  -- A task was begun, and ended so. What the reader had left was unread and is left, and the
  -- writer's known bytes were old and are new. Lines are read by `memory` and `serve` alone.
  abbrev pub Ends : Task → (all : Bool) → Option Refusal → UsedDisk S F start
      → (unread left old new : Option (List ℕ)) → Type 0
  Ends (Memory g) all ending used unread left old new =
      IsWhole all ending × ServesMemory g ending used unread left old new
  Ends (Format path g directory) all ending used unread left old new =
      IsWhole all ending × Keeps unread left × FormatsFile g directory ending used old new
  Ends (Copy copy) all ending used unread left old new =
      IsWhole all ending × Keeps unread left
      × CopiesFile copy.sizes copy.after ending used old new
  Ends (Play p) all ending used unread left old new =
      Keeps unread left × PlaysTask p all ending used old new
  Ends (Sync sync) all ending used unread left old new =
      Keeps unread left × SyncsTask sync all ending used old new
  Ends (Health h) all ending used unread left old new =
      Keeps unread left × TellsHealth ending used old new
  Ends (PutFiles path files types) all ending used unread left old new =
      Keeps unread left × ((before after : List Call)
      × PutsFiles types (texts files.now) all ending used old new before after)
  Ends (WithdrawNames path names) all ending used unread left old new =
      Keeps unread left × WithdrawsFile (texts names.now) all ending used old new
  Ends (OnDisk disk work) all ending used unread left old new =
      IsWhole all ending × DoesOnFile work ending used unread left old new

  -- which calls of its host a task made that ended so, with this exit status
  abbrev pub UsesFor : (status : ℕ) → (ending : Option Refusal) → Task → UsedDisk S F start
      → (old new : List Call) → Type 0
  UsesFor status ending (Memory g) used old new = new ≡ old
  UsesFor status ending (Format path g directory) used old new =
      FormatsFree ending path.now used old new
  UsesFor status ending (Copy copy) used old new =
      OpensTwo ending copy.disk.now copy.new.now used old new
  UsesFor status ending (Play p) used old new = Opens (needs_of p) p.disk.now ending used old new
  UsesFor status ending (Sync sync) used old new =
      OpensOrReads sync.dry_run (synced_with sync) sync.disk.now ending used old new
  UsesFor status ending (Health h) used old new = AsksHealth h status ending old new
  UsesFor status ending (PutFiles path files types) used old new =
      OpensAnd (if_given Need.types types) path.now (PutReads types (texts files.now) used) ending
      used old new
  UsesFor status ending (WithdrawNames path names) used old new =
      Opens [] path.now ending used old new
  UsesFor status ending (OnDisk disk work) used old new =
      OpensOrReads (only_looks work) [] disk.now ending used old new

  -- What a run of these words came to, whatever they ask for: the task was done, or ended by a
  -- refusal, or not begun; or they ask for help, or for nothing.
  abbrev pub RunsTo : List Text → Exit S F start → (unread left old new : Option (List ℕ)) → Type 0
  RunsTo words exit unread left old new =
      ComesTo IsTask AskForNothing (refused_number words) IsBeginningRefusal Ends words exit
      unread left old new

  -- which calls of its host it made: none, or just those of the task that the words ask for
  abbrev pub Uses : List Text → Exit S F start → (old new : List Call) → Type 0
  Uses words exit old new = UsesFiles IsTask (UsesFor exit.status exit.refusal) words exit old new

-- A run of these words ended with this status. Its exit is not handed out, nor what it came to:
-- there are some by which it did what it has to do, with no calls before.
pub record Ran {S F : Type 0} (start : Ghosts S F) (words : List Text) (status : ℕ)
    (unread left old new : Option (List ℕ)) : Type 0 where
  pub exit : Exit S F start
  pub calls : List Call
  pub answered : status ≡ exit.status
  pub ended : RunsTo words exit unread left old new
  pub lacking : LackOption words → exit.refusal ≢ Some BadNumber
  pub files : Uses words exit [] calls
