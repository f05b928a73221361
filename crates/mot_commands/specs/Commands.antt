-- What the commands that serve, make, check and migrate a disk do.
use Rattle.std.specs.Prelude.{ℕ, ◌≡◌, ◌≢◌, ◌⊎◌, Bool, true, List, [], ◌∷◌, ◌++◌, Option, Some}
use Rattle.std.specs.Prelude.{IsTrue, Result, false}
use Rattle.std.specs.Io.KnownBytes.{Keeps}
use Rattle.clap.specs.Words.{Text}
use Rattle.disk_model.specs.Disk.{State}
use Rattle.disk_store.specs.Beginning.{HasFirstCalls, SinceMade, SinceOpened}
use Rattle.disk_store.specs.File.{file_state, ram_state}
use Rattle.disk_store.specs.declared.file.start.Start.{Ghosts}
use Rattle.disk_store.specs.declared.memory.ram.RamDisk.{RamDisk}
use Rattle.mot_cli.specs.declared.task.DiskTask.{DiskTask}
use Rattle.mot_cli.specs.declared.task.DiskTask.TheVariants.{Serve, Check, Migrate, ListObjects}
use Rattle.mot_cli.specs.declared.task.DiskTask.TheVariants.{GetBody, Export, Inspect}
use Rattle.mot_devices.specs.Looking.{OnlyLooks}
use Rattle.mot_devices.specs.Uses.{IsFree, IsUsed}
use Rattle.mot_devices.specs.declared.device_use.DeviceUse.{DeviceUse}
use Rattle.mot_export.specs.Exporting.{Exports}
use Rattle.mot_export.specs.Inspecting.{Inspects}
use Rattle.mot_files.specs.Call.{Call, made_disk, opened_disk, removed}
use Rattle.mot_files.specs.declared.system.Fault.{Fault}
use Rattle.mot_commands.specs.Report.{Checks, Formats, Migrates, Gets, Lists}
use Rattle.mot_commands.specs.Serving.{Serves}
use Rattle.mot_journal.specs.Journal.{IsNewDisk}
use Rattle.mot_numbers.specs.Geometry.{IsValid, length_of}
use Rattle.mot_numbers.specs.declared.geometry.Geometry.{Geometry}
use Rattle.mot_numbers.specs.declared.refusal.Refusal.{Refusal}
use Rattle.mot_numbers.specs.declared.refusal.Refusal.TheVariants.{BadGeometry, DeviceFault}
use Rattle.mot_numbers.specs.declared.refusal.Refusal.TheVariants.{OutOfMemory}
use Rattle.mot_outcome.specs.Outcome.{IsUntouched, OnFile}
use Rattle.mot_outcome.specs.declared.used.UsedDisk.{UsedDisk}
use Rattle.mot_outcome.specs.declared.used.UsedDisk.TheVariants.{InMemory}

-- In these what the reader had left was unread and is left, and the writer's known bytes were old
-- and are new; a task ended with this refusal or with none.

-- a disk was made in memory, new and of this geometry, and served
pub record ServesNew (g : Geometry) (ending : Option Refusal)
    (unread left old new : Option (List ℕ)) (disk : RamDisk) : Type 0 where
  pub valid : IsValid g
  pub first : RamDisk
  pub formatted : (image : List ℕ) → (ram_state first).MayLeave image → IsNewDisk g 1 image
  pub served : Serves ram_state disk ending unread left old new (ram_state first)

-- the geometry is out of its ranges
abbrev pub IsBadGeometry : Geometry → Refusal → Type 0
IsBadGeometry g refusal = (refusal ≡ BadGeometry) × (IsValid g → ⊥)

-- why a disk in memory is not served: there is no memory for it, or its geometry is bad
abbrev pub IsUnmade : Geometry → Refusal → Type 0
IsUnmade g r = (r ≡ OutOfMemory) ⊎ IsBadGeometry g r

-- why no file is opened or made: it can't be, or the geometry is bad
abbrev pub IsUnformatted : Geometry → Refusal → Type 0
IsUnformatted g r = (r ≡ DeviceFault) ⊎ IsBadGeometry g r

-- This was done with a disk that was in a state start, up to this ending. Lines are read to serve
-- them alone.
abbrev pub Does : {D : Type 0} (state : D → State) (disk : D) → DiskTask → Option Refusal
    → (unread left old new : Option (List ℕ)) → (start : State) → Type 0
Does state disk Serve ending unread left old new start =
    Serves state disk ending unread left old new start
Does state disk (Check form) ending unread left old new start =
    Keeps unread left × Checks form ending old new start (state disk)
Does state disk Migrate ending unread left old new start =
    Keeps unread left × Migrates ending old new start (state disk)
Does state disk (ListObjects form) ending unread left old new start =
    Keeps unread left × Lists form ending old new start (state disk)
Does state disk (GetBody name) ending unread left old new start =
    Keeps unread left × Gets name.now ending old new start (state disk)
Does state disk Export ending unread left old new start =
    Keeps unread left × Exports ending old new start (state disk)
Does state disk (Inspect rate form) ending unread left old new start =
    Keeps unread left × Inspects rate form ending old new start (state disk)

-- it changes nothing on a disk
abbrev pub only_looks : DiskTask → Bool
only_looks Serve = false
only_looks Migrate = false
only_looks work = true

module _ {S F : Type 0} {start : Ghosts S F} where
  -- a disk was made in memory, and served
  abbrev pub ServesMemory : Geometry → Option Refusal → UsedDisk S F start
      → (unread left old new : Option (List ℕ)) → Type 0
  ServesMemory g ending (InMemory disk value) unread left old new =
      ServesNew g ending unread left old new disk
  ServesMemory g ending used unread left old new = ⊥

  -- a file was opened or else made, so long, and a disk made of it
  abbrev pub FormatsFile : Geometry → (directory : ℕ) → Option Refusal → UsedDisk S F start
      → (old new : Option (List ℕ)) → Type 0
  FormatsFile g directory ending used old new = OnFile (λ disk beside.
      IsValid g × (SinceOpened (Formats g directory ending old new) disk
      ⊎ SinceMade (length_of g) (Formats g directory ending old new) disk)) used

  -- a file was opened, and this done with its disk; or this only looks, and was done with a copy
  abbrev pub DoesOnFile : DiskTask → Option Refusal → UsedDisk S F start
      → (unread left old new : Option (List ℕ)) → Type 0
  DoesOnFile work ending (InMemory copy value) unread left old new = IsTrue (only_looks work)
      × ((first : RamDisk) × Does ram_state copy work ending unread left old new (ram_state first))
  DoesOnFile work ending used unread left old new = OnFile (λ disk beside. SinceOpened
      (λ first now. Does file_state disk work ending unread left old new first) disk) used

  -- its calls are those of a file that was made, or that was opened
  abbrev pub IsBegun : (is_new : Bool) → UsedDisk S F start → Type 0
  IsBegun is_new = OnFile (λ disk beside. HasFirstCalls is_new disk)

  -- By these calls a new file is made at the path, or that is tried in vain. It is removed again exactly
  -- if it could not be formatted.
  pub data MakesFile (ending : Option Refusal) (path : Text) (used : UsedDisk S F start)
      (old new : List Call) : Type 0 where
    unmade : IsUntouched used → ending ≡ Some DeviceFault → new ≡ old ++ made_disk path false ∷ []
        → MakesFile ending path used old new
    made : IsBegun true used → ending ≢ Some DeviceFault → new ≡ old ++ made_disk path true ∷ []
        → MakesFile ending path used old new
    taken_away : (answer : Result (Unit {0}) Fault) → IsBegun true used → ending ≡ Some DeviceFault
        → new ≡ old ++ made_disk path true ∷ removed path answer ∷ []
        → MakesFile ending path used old new

  -- the file of its path is opened; or that is tried in vain, and only then it is made
  pub data OpensOrMakes (ending : Option Refusal) (path : Text) (used : UsedDisk S F start)
      (old new : List Call) : Type 0 where
    opened : IsBegun false used → new ≡ old ++ opened_disk path true ∷ []
        → OpensOrMakes ending path used old new
    unopened : MakesFile ending path used (old ++ opened_disk path false ∷ []) new
        → OpensOrMakes ending path used old new

  -- Which calls `format` makes of its host that ended so. Its path is looked at, by which nothing is
  -- changed: only if it is free, its file is opened or made.
  pub data FormatsFree (ending : Option Refusal) (path : Text) (used : UsedDisk S F start)
      (old new : List Call) : Type 0 where
    unasked : IsUntouched used → ending ≡ Some BadGeometry → new ≡ old
        → FormatsFree ending path used old new
    in_use : (found : DeviceUse) → IsUntouched used → ending ≡ Some DeviceFault
        → IsUsed path found old new → OnlyLooks old new → FormatsFree ending path used old new
    free : (looked : List Call) → OnlyLooks old looked → IsFree path old looked
        → OpensOrMakes ending path used looked new → FormatsFree ending path used old new
