-- What was found of a device, look by look.
use Rattle.std.proofs.Common.{◌≡◌, List, None, Ok, OnOk, Err, Result, false, refl, subst, ℕ}
use Rattle.mot_devices.specs.Inner.{IsUnreadFor, IsIdle}
use Rattle.mot_devices.specs.Looking.{OnlyLooks, Within}
use Rattle.mot_devices.specs.Tables.{number_text, HasPartitions, HolderIs, IsSwap}
use Rattle.mot_devices.specs.Uses.{BeginsWith, IsBusy, IsFreeDevice, IsMounted, IsSigned}
use Rattle.mot_devices.specs.Uses.{IsUsedDevice, MountsAt}
use Rattle.mot_devices.specs.declared.device_use.DeviceUse.{DeviceUse}
use Rattle.mot_devices.specs.declared.reading.NotRead.{NotRead}
use Rattle.mot_devices.specs.declared.reading.NotRead.TheVariants.{NoMemory, Refused}
use Rattle.mot_devices.proofs.Looks.{looks_on, within, within_before, within_behind}
use Rattle.mot_files.specs.Call.{Call}
use Rattle.mot_files.specs.declared.system.How.TheVariants as how
use Rattle.std.specs.IoError.{error_kind}
use Rattle.std.specs.Prelude.{codes}
use Rattle.std.specs.declared.io.Error.{Error}
use Rattle.std.specs.declared.io.ErrorKind.{ErrorKind}

-- why a table or the first bytes were not read, as an answer
pub unlisted : (own others : List ℕ) (why : NotRead) (error : Error) (old new : List Call)
    → (why ≡ NoMemory → error_kind error ≡ ErrorKind.OutOfMemory)
    → IsUnreadFor (codes "/proc/self/mountinfo") how.Read why old new
    → IsMounted own others (DeviceUse.Unknown error) old new
unlisted own others (Refused fault) error old new memory is = IsMounted.unread error refl is
unlisted own others NoMemory error old new memory is = IsMounted.no_memory error refl (memory refl)

pub headless : (path : List ℕ) (why : NotRead) (error : Error) (old new : List Call)
    → (why ≡ NoMemory → error_kind error ≡ ErrorKind.OutOfMemory)
    → IsUnreadFor path how.Read why old new → IsSigned path (DeviceUse.Unseen error) old new
headless path (Refused fault) error old new memory is = IsSigned.unread error refl is
headless path NoMemory error old new memory is = IsSigned.no_memory error refl (memory refl)

-- its numbers were found
module _ (path : List ℕ) (number : ℕ) (own others : List ℕ) (a b : List Call)
    (same : own ≡ number_text number) (named : OnlyLooks a b)
    (partitions : HasPartitions number others a b) where
  partitions_still : (e : List Call) → OnlyLooks b e → Within (HasPartitions number others) a e
  partitions_still e on =
      within_before (HasPartitions number others) a b e
      (within (HasPartitions number others) a b partitions) on

  -- then what is mounted was read
  pub used_mounted : (c : List Call) (found : DeviceUse) → OnlyLooks b c
      → IsMounted own others found b c → IsUsedDevice path number found a c
  used_mounted c found on is =
      IsUsedDevice.mounted others (partitions_still c on)
      (within_behind (IsMounted (number_text number) others found) a b c named
      (within (IsMounted (number_text number) others found) b c
      (subst (λ (o : List ℕ). IsMounted o others found b c) same is)))

  module _ (c d : List Call) (mounted : OnlyLooks b c) (held : OnlyLooks c d) where
    -- then what holds it
    pub used_busy : (found : DeviceUse) → IsBusy own others number found c d
        → IsUsedDevice path number found a d
    used_busy found is =
        IsUsedDevice.busy others (partitions_still d (looks_on b c d mounted held))
        (within_behind (IsBusy (number_text number) others number found) a c d
        (looks_on a b c named mounted)
        (within (IsBusy (number_text number) others number found) c d
        (subst (λ (o : List ℕ). IsBusy o others number found c d) same is)))

    -- and last its first bytes
    module _ (e : List Call) (last : OnlyLooks d e) where
      before : OnlyLooks a d
      before = looks_on a b d named (looks_on b c d mounted held)

      pub used_signed : (found : DeviceUse) → IsSigned path found d e
          → IsUsedDevice path number found a e
      used_signed found is =
          IsUsedDevice.signed (within_behind (IsSigned path found) a d e before
          (within (IsSigned path found) d e is))

      free : MountsAt own others None b c → IsIdle own others number c d → BeginsWith path None d e
          → IsFreeDevice path number a e
      free unmounted idle unsigned = record {
        others = others;
        partitions = partitions_still e (looks_on b c e mounted (looks_on c d e held last));
        unmounted = within_behind _ a b e named (within_before _ b c e
            (within (MountsAt (number_text number) others None) b c
            (subst (λ (o : List ℕ). MountsAt o others None b c) same unmounted))
            (looks_on c d e held last));
        no_swap = within_behind _ a c e (looks_on a b c named mounted)
            (within_before (IsSwap (number_text number) others false) c d e
            (subst (λ (o : List ℕ). Within (IsSwap o others false) c d) same idle.no_swap) last);
        unheld = within_behind _ a c e (looks_on a b c named mounted)
            (within_before (HolderIs number None) c d e idle.unheld last);
        unsigned = within_behind _ a d e before (within (BeginsWith path None) d e unsigned);
      }

      pub free_ok : {E : Type 0} → MountsAt own others None b c → IsIdle own others number c d
          → (r : Result (Unit {0}) E) → OnOk r (BeginsWith path None d e)
          → OnOk r (IsFreeDevice path number a e)
      free_ok unmounted idle (Ok done) unsigned = free unmounted idle unsigned
      free_ok unmounted idle (Err why) unsigned = tt
