use Rattle.std.specs.Prelude.{◌≡◌, ◌≤◌, ℕ, Bool, false, List, [], ◌∷◌, ◌++◌, length, None, Option}
use Rattle.std.specs.Prelude.{Some, take}
use Rattle.mot_devices.specs.Looking.{IsUnread, last_read, Within}
use Rattle.mot_devices.specs.declared.reading.NotRead.{NotRead}
use Rattle.mot_devices.specs.declared.reading.NotRead.TheVariants.{NoMemory, Refused}
use Rattle.mot_files.specs.Call.{Call, failed_read, read_of}
use Rattle.mot_files.specs.Reading.{joined, reads}
use Rattle.mot_files.specs.declared.system.Handle.{Handle}
use Rattle.mot_files.specs.declared.system.How.{How}
use Rattle.mot_devices.specs.Tables.{HolderIs, IsSwap, short_bytes}
use Rattle.mot_devices.specs.declared.short_name.ShortName.{ShortName}
use Rattle.mot_devices.specs.declared.short_name.TheConstants.{LONGEST}

-- Reading what is open.

-- one read gave so many further bytes
pub record IsMore (handle : Handle) (count : ℕ) (before after : List ℕ) (old new : List Call) :
    Type 0 where
  pub chunk : List ℕ
  pub size : length chunk ≡ count
  pub added : after ≡ before ++ chunk
  pub calls : new ≡ old ++ read_of handle chunk ∷ []

-- reads gave these bytes, up to the end or to so many
pub record IsFirst (handle : Handle) (most : ℕ) (whole : Bool) (bytes : List ℕ)
    (old new : List Call) : Type 0 where
  pub chunks : List (List ℕ)
  pub given : bytes ≡ joined chunks
  pub enough : whole ≡ false → most ≤ length bytes
  pub calls : new ≡ old ++ reads handle chunks ++ last_read whole handle

-- a read of what is open was refused; or there was no memory for what it gave
abbrev pub IsRefusedRead : Handle → NotRead → (old new : List Call) → Type 0
IsRefusedRead handle (Refused fault) old new = new ≡ old ++ failed_read handle fault ∷ []
IsRefusedRead handle NoMemory old new = Unit {0}

-- reads gave bytes, up to one that was refused; or there was no memory for them
abbrev pub IsFailed : Handle → NotRead → (old new : List Call) → Type 0
IsFailed handle (Refused fault) old new = (chunks : List (List ℕ))
    × (new ≡ old ++ reads handle chunks ++ failed_read handle fault ∷ [])
IsFailed handle NoMemory old new = Unit {0}

-- what the path names was not read; or there was no memory for it
abbrev pub IsUnreadFor : (path : List ℕ) → How → NotRead → (old new : List Call) → Type 0
IsUnreadFor path way (Refused fault) old new = IsUnread path way old new
IsUnreadFor path way NoMemory old new = Unit {0}

-- What was found of a block device, look by look.

-- which device stands on the device of this number, if one does, as far as its name is told
abbrev pub TellsHolder : ℕ → Option ShortName → (old new : List Call) → Type 0
TellsHolder number None old new = HolderIs number None old new
TellsHolder number (Some name) old new = (device : List ℕ) × HolderIs number (Some device) old new
    × (short_bytes name ≡ take LONGEST device)

-- none of these devices is a swap, and nothing stands on the device of this number
pub record IsIdle (own others : List ℕ) (number : ℕ) (old new : List Call) : Type 0 where
  pub no_swap : Within (IsSwap own others false) old new
  pub unheld : Within (HolderIs number None) old new
