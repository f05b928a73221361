-- What the command `copy` does.
use Rattle.std.specs.Prelude.{◌≡◌, ◌≢◌, ◌⊎◌, ℕ, true, List, [], ◌∷◌, ◌++◌, Option, Some, None, Result, false}
use Rattle.std.specs.Prelude.{IsSomeAnd}
use Rattle.std.specs.Io.KnownBytes.{Keeps}
use Rattle.clap.specs.Words.{Text}
use Rattle.disk_model.specs.Disk.{OnlySyncs, State}
use Rattle.disk_store.specs.Beginning.{SinceOpened}
use Rattle.disk_store.specs.Second.{HasSecondCalls, SinceSecondMade, SinceSecondOpened}
use Rattle.disk_store.specs.declared.file.SecondDisk.{SecondDisk}
use Rattle.disk_store.specs.declared.file.start.Start.{Ghosts}
use Rattle.mot_cli.specs.Options.{geometry_over}
use Rattle.mot_cli.specs.declared.options.Options.{Options}
use Rattle.mot_copy_command.specs.Copying.{Copies}
use Rattle.mot_devices.specs.Looking.{OnlyLooks}
use Rattle.mot_devices.specs.Uses.{IsFree, IsUsed}
use Rattle.mot_devices.specs.declared.device_use.DeviceUse.{DeviceUse}
use Rattle.mot_update.specs.Opening.{IsUnopened, OfStanding}
use Rattle.mot_files.specs.Call.{Call, made_disk, opened_disk, removed}
use Rattle.mot_files.specs.declared.system.Fault.{Fault}
use Rattle.mot_numbers.specs.Geometry.{IsValid, length_of}
use Rattle.mot_numbers.specs.declared.geometry.Geometry.{Geometry}
use Rattle.mot_numbers.specs.declared.refusal.Refusal.{Refusal}
use Rattle.mot_numbers.specs.declared.refusal.Refusal.TheVariants.{BadGeometry, DeviceFault}
use Rattle.mot_numbers.specs.declared.refusal.Refusal.TheVariants.{WriteFault}
use Rattle.mot_outcome.specs.declared.used.UsedDisk.{UsedDisk}
use Rattle.mot_outcome.specs.declared.used.UsedDisk.TheVariants.{OfCopy, Untouched}

-- In these sizes are those that are asked for, and ids the one after which the copy's go on, if one
-- is given. The disk that is copied was in a state start and is in a state now; the command ended
-- with this refusal or with none, and the writer's known bytes were old and are new.

-- Why the file of the copy was not opened or made: the disk was not opened, no disk has the sizes,
-- or that file is a device in use, or can't be opened or made.
pub data IsUncopied (sizes : Options) (refusal : Refusal) (start now : State) : Type 0 where
  unopened : IsUnopened refusal start now → IsUncopied sizes refusal start now
  bad_sizes : refusal ≡ BadGeometry
      → OfStanding (λ s. (g : Geometry) → geometry_over s.geometry sizes ≡ Some g → IsValid g → ⊥)
      start now → IsUncopied sizes refusal start now
  no_file : refusal ≡ DeviceFault → IsUncopied sizes refusal start now

-- the copying was refused, and not only the telling of it
abbrev pub IsRefused : Option Refusal → Type 0
IsRefused ending = (refusal : Refusal) × (ending ≡ Some refusal) × (refusal ≢ WriteFault)

-- the disk of the copy is the second of two files
module _ {S F : Type 0} {start : Ghosts S F} where
  -- the disk was only synced and read, and copied to this one; or there is none, for such a reason
  abbrev pub CopiesTo : Options → (ids : Option ℕ) → Option Refusal
      → Option (SecondDisk S F start) → (old new : Option (List ℕ)) → (start now : State) → Type 0
  CopiesTo sizes ids ending None old new start now =
      OnlySyncs start now × Keeps old new
      × ((refusal : Refusal) × (ending ≡ Some refusal) × IsUncopied sizes refusal start now)
  CopiesTo sizes ids ending (Some disk) old new start now =
      OnlySyncs start now × ((g : Geometry) × IsValid g
      × OfStanding (λ s. geometry_over s.geometry sizes ≡ Some g) start now
      × (SinceSecondOpened (Copies (λ P. OfStanding P start now) start.failures now.failures g ids ending
      old new) disk
      ⊎ SinceSecondMade (length_of g) (Copies (λ P. OfStanding P start now) start.failures now.failures g
      ids ending old new) disk))

  -- By these calls a new file is made for the copy, or that is tried in vain. It is removed again
  -- exactly if the copying was refused.
  pub data MakesCopy (ending : Option Refusal) (path : Text) (copy : Option (SecondDisk S F start))
      (old new : List Call) : Type 0 where
    unmade : copy ≡ None → ending ≡ Some DeviceFault → new ≡ old ++ made_disk path false ∷ []
        → MakesCopy ending path copy old new
    made : IsSomeAnd copy (HasSecondCalls true) → (IsRefused ending → ⊥)
        → new ≡ old ++ made_disk path true ∷ [] → MakesCopy ending path copy old new
    taken_away : (answer : Result (Unit {0}) Fault) → IsSomeAnd copy (HasSecondCalls true)
        → IsRefused ending → new ≡ old ++ made_disk path true ∷ removed path answer ∷ []
        → MakesCopy ending path copy old new

  -- the file of the copy is opened, and stays; or that is tried in vain, and only then it is made
  pub data OpensOrMakesCopy (ending : Option Refusal) (path : Text)
      (copy : Option (SecondDisk S F start)) (old new : List Call) : Type 0 where
    opened : IsSomeAnd copy (HasSecondCalls false) → new ≡ old ++ opened_disk path true ∷ []
        → OpensOrMakesCopy ending path copy old new
    unopened : MakesCopy ending path copy (old ++ opened_disk path false ∷ []) new
        → OpensOrMakesCopy ending path copy old new

  -- Its path is looked at, by which nothing is changed: only if it is free, the file is opened or made.
  pub data ComesToCopy (ending : Option Refusal) (path : Text)
      (copy : Option (SecondDisk S F start)) (old new : List Call) : Type 0 where
    unasked : copy ≡ None → new ≡ old → ComesToCopy ending path copy old new
    in_use : (found : DeviceUse) → copy ≡ None → ending ≡ Some DeviceFault
        → IsUsed path found old new → OnlyLooks old new → ComesToCopy ending path copy old new
    free : (looked : List Call) → OnlyLooks old looked → IsFree path old looked
        → OpensOrMakesCopy ending path copy looked new → ComesToCopy ending path copy old new

  -- a file was opened, and its disk copied
  abbrev pub CopiesFile : Options → (ids : Option ℕ) → Option Refusal → UsedDisk S F start
      → (old new : Option (List ℕ)) → Type 0
  CopiesFile sizes ids ending (OfCopy from to) old new =
      SinceOpened (CopiesTo sizes ids ending to old new) from
  CopiesFile sizes ids ending used old new = ⊥

  -- which calls it makes of its host: the disk is opened, and then that of the copy
  abbrev pub OpensTwo : Option Refusal → (path copy : Text) → UsedDisk S F start
      → (old new : List Call) → Type 0
  OpensTwo ending path copy (OfCopy from to) old new =
      ComesToCopy ending copy to (old ++ opened_disk path true ∷ []) new
  OpensTwo ending path copy (Untouched value) old new = (ending ≡ Some DeviceFault)
      × (new ≡ old ++ opened_disk path false ∷ [])
  OpensTwo ending path copy used old new = ⊥
