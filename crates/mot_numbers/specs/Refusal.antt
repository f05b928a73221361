-- Refusals: their numbers and names, and what comes after a result that may be one. Number 13 is
-- not used.
use Rattle.std.specs.Prelude.{◌≡◌, ◌⊎◌, ℕ, Bool, true, false, List, Result, Ok, Err, codes}
use Rattle.mot_numbers.specs.declared.refusal.Refusal.{Refusal}
use Rattle.mot_numbers.specs.declared.refusal.Refusal.TheVariants.{BadLine, BadName, BadType}
use Rattle.mot_numbers.specs.declared.refusal.Refusal.TheVariants.{BadMime}
use Rattle.mot_numbers.specs.declared.refusal.Refusal.TheVariants.{BadBody, EmptyBody, BodyTooLong}
use Rattle.mot_numbers.specs.declared.refusal.Refusal.TheVariants.{BadNumber, NameTaken, NoSuchName}
use Rattle.mot_numbers.specs.declared.refusal.Refusal.TheVariants.{TooManyObjects, NoRoom}
use Rattle.mot_numbers.specs.declared.refusal.Refusal.TheVariants.{OutOfMemory}
use Rattle.mot_numbers.specs.declared.refusal.Refusal.TheVariants.{DeviceFault, Halted}
use Rattle.mot_numbers.specs.declared.refusal.Refusal.TheVariants.{NotFormatted}
use Rattle.mot_numbers.specs.declared.refusal.Refusal.TheVariants.{AlreadyFormatted, DiskTooSmall}
use Rattle.mot_numbers.specs.declared.refusal.Refusal.TheVariants.{Damaged, BadGeometry, ReadFault}
use Rattle.mot_numbers.specs.declared.refusal.Refusal.TheVariants.{WriteFault}

-- the number and the name of each
abbrev pub told_as : Refusal → ℕ × List ℕ
told_as BadLine = (1, codes "BadLine")
told_as BadName = (2, codes "BadName")
told_as BadType = (3, codes "BadType")
told_as BadMime = (4, codes "BadMime")
told_as BadBody = (5, codes "BadBody")
told_as EmptyBody = (6, codes "EmptyBody")
told_as BodyTooLong = (7, codes "BodyTooLong")
told_as BadNumber = (8, codes "BadNumber")
told_as NameTaken = (9, codes "NameTaken")
told_as NoSuchName = (10, codes "NoSuchName")
told_as TooManyObjects = (11, codes "TooManyObjects")
told_as NoRoom = (12, codes "NoRoom")
told_as OutOfMemory = (14, codes "OutOfMemory")
told_as DeviceFault = (15, codes "DeviceFault")
told_as Halted = (16, codes "Halted")
told_as NotFormatted = (17, codes "NotFormatted")
told_as AlreadyFormatted = (18, codes "AlreadyFormatted")
told_as DiskTooSmall = (19, codes "DiskTooSmall")
told_as (Damaged slot) = (20, codes "Damaged")
told_as BadGeometry = (21, codes "BadGeometry")
told_as ReadFault = (22, codes "ReadFault")
told_as WriteFault = (23, codes "WriteFault")

abbrev pub number_of : Refusal → ℕ
number_of refusal = (told_as refusal).0

abbrev pub name_of : Refusal → List ℕ
name_of refusal = (told_as refusal).1

-- a fault of the disk
abbrev pub is_device_fault : Refusal → Bool
is_device_fault DeviceFault = true
is_device_fault refusal = false

-- the disk has not failed, unless this tells so: its counts of failures are those before and after
abbrev pub IsCalm : Refusal → (before now : ℕ) → Type 0
IsCalm refusal before now = (refusal ≡ DeviceFault) ⊎ (now ≡ before)

infixl 10 ◌>>=◌
-- what f makes of the value, or the refusal
abbrev pub ◌>>=◌ : {A B : Type 0} → Result A Refusal → (A → Result B Refusal) → Result B Refusal
(Ok x) >>= f = f x
(Err r) >>= f = Err r
