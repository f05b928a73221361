-- Whether a disk on air sends packets, by when its status was written last.
use Rattle.std.specs.Prelude.{◌≡◌, ◌-◌, ◌/◌, ◌++◌, ◌∷◌, [], ℕ, Bool, false, if◌then◌else◌, List}
use Rattle.std.specs.Prelude.{None, Ok, Option, Result, Some, nat_le, unwrap_or}
use Rattle.disk_store.specs.declared.file.start.Start.{Ghosts}
use Rattle.mot_cli.specs.declared.health.HealthTask.{HealthTask}
use Rattle.mot_commands.specs.declared.health.TheConstants.{MAX_AGE}
use Rattle.mot_files.specs.Call.{Call, followed, told_time}
use Rattle.mot_files.specs.Listing.{is_file_kind}
use Rattle.mot_files.specs.declared.system.Fault.{Fault}
use Rattle.mot_files.specs.declared.system.FileStat.{FileStat}
use Rattle.mot_files.specs.declared.system.Time.{Time}
use Rattle.mot_numbers.specs.declared.refusal.Refusal.{Refusal}
use Rattle.mot_outcome.specs.Outcome.{IsUntouched, Prints, status_of}
use Rattle.mot_outcome.specs.declared.used.UsedDisk.{UsedDisk}

-- how many whole seconds ago a regular file was written, if the system said so; none, if that is yet
-- to come
abbrev pub age_of : Result FileStat Fault → (now : Option Time) → Option ℕ
age_of (Ok seen) (Some now) =
    if is_file_kind seen.kind then Some ((now.nanos - seen.written.nanos) / 1000000000) else None
age_of seen now = None

-- so many at most
abbrev pub is_young : (most : ℕ) → (age : Option ℕ) → Bool
is_young most (Some age) = nat_le age most
is_young most None = false

-- The system was asked for the status and then for the time, and for nothing else. The exit status
-- is 0 exactly if that is well, and it could be printed.
pub record AsksHealth (h : HealthTask) (status : ℕ) (ending : Option Refusal)
    (old new : List Call) : Type 0 where
  pub seen : Result FileStat Fault
  pub now : Option Time
  pub calls : new ≡ old ++ followed h.status.now seen ∷ told_time now ∷ []
  pub well : status ≡ status_of (is_young (unwrap_or h.max_age MAX_AGE) (age_of seen now)) ending

-- a text was printed, or some first bytes of it; which, no clause says
abbrev pub TellsHealth : {S F : Type 0} {start : Ghosts S F} → (ending : Option Refusal)
    → UsedDisk S F start → (old new : Option (List ℕ)) → Type 0
TellsHealth ending used old new =
    IsUntouched used × ((text : List ℕ) × Prints ending text old new)
