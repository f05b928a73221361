-- What making a copy of a disk does.
use Rattle.std.specs.Prelude.{◌≡◌, ◌⊎◌, ◌<◌, ◌≤◌, ℕ, List, length, Option, true, false, Result, Ok}
use Rattle.std.specs.Prelude.{Err, OnOk, IfErr}
use Rattle.disk_model.specs.Disk.{State, IsStill, IsUnchanged, KeepsLength, Throughout, Rises}
use Rattle.mot_copy_command.specs.declared.copying.NotCopied.{NotCopied}
use Rattle.mot_copy_command.specs.declared.copying.NotCopied.TheVariants.{Refused, Unreadable}
use Rattle.mot_journal.specs.Geometry.{has_magic}
use Rattle.mot_journal.specs.Image.{Standing, stands_for, rest_of, IsClean, IsInLayoutTwo}
use Rattle.mot_journal.specs.Image.{IsSecondHalfEmpty}
use Rattle.mot_numbers.specs.declared.geometry.Geometry.{Geometry}
use Rattle.mot_numbers.specs.Geometry.{IsValid, length_of}
use Rattle.mot_numbers.specs.declared.refusal.Refusal.{Refusal}
use Rattle.mot_numbers.specs.declared.refusal.Refusal.TheVariants.{AlreadyFormatted, BadGeometry}
use Rattle.mot_numbers.specs.declared.refusal.Refusal.TheVariants.{DeviceFault, DiskTooSmall}
use Rattle.mot_numbers.specs.declared.refusal.Refusal.TheVariants.{NoRoom, TooManyObjects}
use Rattle.mot_repository.specs.Copy.{copy_of, bytes_of_extents, IsNoCopy}
use Rattle.mot_repository.specs.Repository.{RepositoryView}

-- the image is the copy of what a disk stands for, clean and in layout 2, and its other half is
-- empty
pub record IsCopyOf (g : Geometry) (after : Option ℕ) (s : Standing) (image : List ℕ) : Type 0 where
  pub stands : stands_for image ≡ Ok (copy_of g after s (rest_of g image))
  pub clean : IsClean image
  pub layout : IsInLayoutTwo image
  pub other : IsSecondHalfEmpty g image

-- no magic, or the copy
abbrev pub NoneOrCopyOf : Geometry → Option ℕ → Standing → List ℕ → Type 0
NoneOrCopyOf g after s image = (has_magic image ≡ false) ⊎ IsCopyOf g after s image

-- its bytes after the data area are those of an image that a crash could leave at the start
abbrev pub HasRestOf : Geometry → State → List ℕ → Type 0
HasRestOf g start image = (d : List ℕ) × start.MayLeave d × (rest_of g image ≡ rest_of g d)

-- Why no copy is made. Nothing was written on the new disk but in the last two cases. The numbers
-- are those of failures of the old disk, before and after.
pub data IsNotCopied (view : RepositoryView) (g : Geometry) (failed failed' : ℕ) (old new : State)
    (why : NotCopied) : Type 0 where
  bad : why ≡ Refused BadGeometry → (IsValid g → ⊥) → IsUnchanged old new
      → IsNotCopied view g failed failed' old new why
  small : why ≡ Refused DiskTooSmall → old.len < length_of g → IsUnchanged old new
      → IsNotCopied view g failed failed' old new why
  no_copy : (refusal : Refusal) → why ≡ Refused refusal
      → IsNoCopy view g refusal → IsUnchanged old new
      → IsNotCopied view g failed failed' old new why
  already : why ≡ Refused AlreadyFormatted
      → (new.IsHonest → (has_magic old.bytes ≡ true) × IsStill old new)
      → IsNotCopied view g failed failed' old new why
  device : why ≡ Refused DeviceFault → Rises old.failures new.failures
      → IsNotCopied view g failed failed' old new why
  unreadable : why ≡ Unreadable → Rises failed failed'
      → IsNotCopied view g failed failed' old new why

-- A copy was made on a disk that has not the magic, or there is a reason why not.
pub record MakesCopy (view : RepositoryView) (g : Geometry) (failed failed' : ℕ) (old new : State)
    (result : Result Unit NotCopied) : Type 0 where
  pub keeps : KeepsLength old new
  pub refused : IfErr result (λ why. IsNotCopied view g failed failed' old new why)
  -- if the disk reads the magic, it is synced at most
  pub already : new.IsHonest → has_magic old.bytes ≡ true → IsStill old new
  pub not_over : new.IsHonest → OnOk result (has_magic old.bytes ≡ false)
  -- the bytes after the data area stay
  pub rest : new.IsHonest → Throughout old new (HasRestOf g old)

-- The sizes are looked at first, in this order: each of these refusals is answered wherever its
-- reason holds.
pub record RefusesSizes (view : RepositoryView) (g : Geometry) (len : ℕ)
    (result : Result Unit NotCopied) : Type 0 where
  pub bad : (IsValid g → ⊥) → result ≡ Err (Refused BadGeometry)
  pub small : IsValid g → len < length_of g → result ≡ Err (Refused DiskTooSmall)
  pub many : IsValid g → length_of g ≤ len → g.objects < length view.carousel.objects.items
      → result ≡ Err (Refused TooManyObjects)
  pub no_room : IsValid g → length_of g ≤ len → length view.carousel.objects.items ≤ g.objects
      → g.area < bytes_of_extents view.extents → result ≡ Err (Refused NoRoom)
