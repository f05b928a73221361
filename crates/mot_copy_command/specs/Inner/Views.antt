-- What only private contracts and proofs need.
use Rattle.std.specs.Prelude.{◌≡◌, ◌⊎◌, ℕ, List, Option, None, Some}
use Rattle.std.specs.Io.KnownBytes.{Keeps}
use Rattle.disk_model.specs.Disk.{State}
use Rattle.disk_store.specs.Second.{SinceSecondMade, SinceSecondOpened}
use Rattle.disk_store.specs.declared.file.SecondDisk.{SecondDisk}
use Rattle.disk_store.specs.declared.file.start.Start.{Ghosts}
use Rattle.mot_copy_command.specs.Copying.{Copies}
use Rattle.mot_journal.specs.Image.{Standing}
use Rattle.mot_numbers.specs.Geometry.{length_of}
use Rattle.mot_numbers.specs.declared.geometry.Geometry.{Geometry}
use Rattle.mot_numbers.specs.declared.refusal.Refusal.{Refusal}
use Rattle.mot_numbers.specs.declared.refusal.Refusal.TheVariants.{DeviceFault}
use Rattle.mot_repository.specs.Repository.{HasStanding, RepositoryView}

-- what an open repository stands for has this fact, if its disk is honest to the end
abbrev pub OfView : RepositoryView → (start now : State) → (Standing → Type 0) → Type 0
OfView view start now P = (s : Standing) → HasStanding view s start → now.IsHonest → P s

module _ {S F : Type 0} {start : Ghosts S F} where
  -- an open repository, whose disk was in a state start and is in a state now, was copied to this
  -- disk, or to none
  abbrev pub CopiesView : RepositoryView → Geometry → (ids : Option ℕ) → Option Refusal
      → Option (SecondDisk S F start) → (old new : Option (List ℕ)) → (start now : State) → Type 0
  CopiesView view g ids ending None old new start now =
      Keeps old new × (ending ≡ Some DeviceFault)
  CopiesView view g ids ending (Some disk) old new start now =
      SinceSecondOpened (Copies (OfView view start now) start.failures now.failures g ids ending old new)
      disk
      ⊎ SinceSecondMade (length_of g) (Copies (OfView view start now) start.failures now.failures g ids
      ending old new) disk
