-- What a block device is used for, or the path of a file of a disk. Each relation goes from the
-- calls that were made before to those that were made once it was known.
use Rattle.std.specs.Prelude.{◌≡◌, ℕ, Bool, true, false, List, [], ◌∷◌, ◌++◌, Ok, Err, None, Some}
use Rattle.std.specs.Prelude.{Option, Result, codes, take}
use Rattle.std.specs.IoError.{error_kind}
use Rattle.std.specs.declared.io.Error.{Error}
use Rattle.std.specs.declared.io.ErrorKind.{ErrorKind}
use Rattle.mot_files.specs.Call.{Call, followed}
use Rattle.mot_files.specs.declared.system.Fault.{Fault}
use Rattle.mot_files.specs.declared.system.Fault.TheVariants.{Absent}
use Rattle.mot_files.specs.declared.system.How.TheVariants as how
use Rattle.mot_files.specs.declared.system.FileStat.{FileStat}
use Rattle.mot_devices.specs.Beside.{IsApart, IsFileOfDisk}
use Rattle.mot_devices.specs.Looking.{IsUnread, WasRead, Within}
use Rattle.mot_devices.specs.Mounts.{mount_in}
use Rattle.mot_devices.specs.Tables.{number_text, HasPartitions, HolderIs, IsSwap, short_bytes}
use Rattle.mot_devices.specs.Signatures.{signature_in}
use Rattle.mot_devices.specs.declared.device_use.DeviceUse.{DeviceUse}
use Rattle.mot_devices.specs.declared.short_name.ShortName.{ShortName}
use Rattle.mot_devices.specs.declared.short_name.TheConstants.{LONGEST}
use Rattle.mot_devices.specs.declared.signature.Signature.{Signature}
use Rattle.mot_devices.specs.declared.using.TheConstants.{HEAD, MOST}

-- what the system said of the path: it names no block device, or nothing
abbrev pub NamesNone : Result FileStat Fault → Type 0
NamesNone (Ok seen) = seen.block ≡ None
NamesNone (Err (Absent error)) = Unit {0}
NamesNone (Err fault) = ⊥

-- all of `/proc/self/mountinfo` was read, and by it neither the device of this number is mounted
-- nor one of the others; or one of them is, first at this place
pub record MountsAt (own others : List ℕ) (place : Option (List ℕ)) (old new : List Call) : Type 0
  where
    pub mounts : List ℕ
    pub read : WasRead (codes "/proc/self/mountinfo") how.Read MOST true mounts old new
    pub at : mount_in own others mounts ≡ place

-- the first bytes that the path gave have this signature, or none
pub record BeginsWith (path : List ℕ) (signature : Option Signature) (old new : List Call) : Type 0
  where
    pub head : List ℕ
    pub whole : Bool
    pub read : WasRead path how.Read HEAD whole head old new
    pub has : signature_in head ≡ signature

-- the device of this number, which the path names, is free: neither it nor a partition of it is
-- mounted or a swap, nothing stands on it, and it has no signature
pub record IsFreeDevice (path : List ℕ) (number : ℕ) (old new : List Call) : Type 0 where
  pub others : List ℕ
  pub partitions : Within (HasPartitions number others) old new
  pub unmounted : Within (MountsAt (number_text number) others None) old new
  pub no_swap : Within (IsSwap (number_text number) others false) old new
  pub unheld : Within (HolderIs number None) old new
  pub unsigned : Within (BeginsWith path None) old new

-- The path named no block device, and nothing but that was asked; or it names one that is free.
pub data IsFreeThere (path : List ℕ) (old new : List Call) : Type 0 where
  no_device : (answer : Result FileStat Fault) → NamesNone answer
      → new ≡ old ++ followed path answer ∷ [] → IsFreeThere path old new
  device : (seen : FileStat) (number : ℕ) → seen.block ≡ Some number
      → IsFreeDevice path number (old ++ followed path (Ok seen) ∷ []) new
      → IsFreeThere path old new

-- The path is not that of a file of a disk, and so it is free.
pub record IsFree (path : List ℕ) (old new : List Call) : Type 0 where
  pub inner : List Call
  pub apart : IsApart path old inner
  pub free : IsFreeThere path inner new

-- One of these devices is mounted: the place is told as far as its name is kept. Or what is mounted
-- is not known: the table was not read, or not to its end, or there was no memory for it.
pub data IsMounted (own others : List ℕ) (found : DeviceUse) (old new : List Call) : Type 0 where
  mounted : (place : List ℕ) (name : ShortName) → found ≡ DeviceUse.MountedAt name
      → short_bytes name ≡ take LONGEST place → MountsAt own others (Some place) old new
      → IsMounted own others found old new
  unread : (error : Error) → found ≡ DeviceUse.Unknown error
      → IsUnread (codes "/proc/self/mountinfo") how.Read old new → IsMounted own others found old new
  long : (error : Error) (mounts : List ℕ) → found ≡ DeviceUse.Unknown error
      → WasRead (codes "/proc/self/mountinfo") how.Read MOST false mounts old new
      → IsMounted own others found old new
  no_memory : (error : Error) → found ≡ DeviceUse.Unknown error
      → error_kind error ≡ ErrorKind.OutOfMemory → IsMounted own others found old new

-- One of these devices is a swap, or another one stands on the device of this number, whose name is
-- told as far as it is kept; or there was no memory to look.
pub data IsBusy (own others : List ℕ) (number : ℕ) (found : DeviceUse) (old new : List Call) :
    Type 0 where
  swap : found ≡ DeviceUse.Swap → Within (IsSwap own others true) old new
      → IsBusy own others number found old new
  held : (device : List ℕ) (name : ShortName) → found ≡ DeviceUse.HeldBy name
      → short_bytes name ≡ take LONGEST device → Within (HolderIs number (Some device)) old new
      → IsBusy own others number found old new
  no_memory : (error : Error) → found ≡ DeviceUse.Unseen error
      → error_kind error ≡ ErrorKind.OutOfMemory → IsBusy own others number found old new

-- the first bytes have a signature; or they were not read, or there was no memory for them
pub data IsSigned (path : List ℕ) (found : DeviceUse) (old new : List Call) : Type 0 where
  signed : (signature : Signature) → found ≡ DeviceUse.HasSignature signature
      → BeginsWith path (Some signature) old new → IsSigned path found old new
  unread : (error : Error) → found ≡ DeviceUse.Unseen error → IsUnread path how.Read old new
      → IsSigned path found old new
  no_memory : (error : Error) → found ≡ DeviceUse.Unseen error
      → error_kind error ≡ ErrorKind.OutOfMemory → IsSigned path found old new

-- what the device of this number, which the path names, is used for, or why that is not known
pub data IsUsedDevice (path : List ℕ) (number : ℕ) (found : DeviceUse) (old new : List Call) :
    Type 0 where
  mounted : (others : List ℕ) → Within (HasPartitions number others) old new
      → Within (IsMounted (number_text number) others found) old new
      → IsUsedDevice path number found old new
  busy : (others : List ℕ) → Within (HasPartitions number others) old new
      → Within (IsBusy (number_text number) others number found) old new
      → IsUsedDevice path number found old new
  signed : Within (IsSigned path found) old new → IsUsedDevice path number found old new
  no_memory : (error : Error) → found ≡ DeviceUse.Unseen error
      → error_kind error ≡ ErrorKind.OutOfMemory → IsUsedDevice path number found old new

-- The path named a block device, and that is used; or the system refused to say what it names,
-- though something is there.
pub data IsUsedThere (path : List ℕ) (found : DeviceUse) (old new : List Call) : Type 0 where
  device : (seen : FileStat) (number : ℕ) → seen.block ≡ Some number
      → IsUsedDevice path number found (old ++ followed path (Ok seen) ∷ []) new
      → IsUsedThere path found old new
  unseen : (fault : Fault) (error : Error) → found ≡ DeviceUse.Unseen error
      → (NamesNone (Err fault) → ⊥) → new ≡ old ++ followed path (Err fault) ∷ []
      → IsUsedThere path found old new

-- The path is that of a file of a disk, and nothing but that was asked; or it is used so.
pub data IsUsed (path : List ℕ) (found : DeviceUse) (old new : List Call) : Type 0 where
  of_disk : found ≡ DeviceUse.OfDisk → IsFileOfDisk path old new → IsUsed path found old new
  there : (inner : List Call) → IsApart path old inner → IsUsedThere path found inner new
      → IsUsed path found old new
