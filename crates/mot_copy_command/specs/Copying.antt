-- How a copy of an open disk is made and told.
use Rattle.std.specs.Prelude.{◌≡◌, ℕ, List, Option, Some, codes, true, false}
use Rattle.std.specs.Io.KnownBytes.{Keeps}
use Rattle.disk_model.specs.Disk.{IsStill, KeepsLength, State, Throughout}
use Rattle.mot_copy_command.specs.Copied.{HasRestOf, IsCopyOf, IsNotCopied, NoneOrCopyOf}
use Rattle.mot_copy_command.specs.declared.copying.NotCopied.{NotCopied}
use Rattle.mot_copy_command.specs.declared.copying.NotCopied.TheVariants.{Refused, Unreadable}
use Rattle.mot_journal.specs.Geometry.{has_magic}
use Rattle.mot_journal.specs.Image.{Standing}
use Rattle.mot_numbers.specs.Geometry.{length_of}
use Rattle.mot_numbers.specs.declared.geometry.Geometry.{Geometry}
use Rattle.mot_numbers.specs.declared.refusal.Refusal.{Refusal}
use Rattle.mot_numbers.specs.declared.refusal.Refusal.TheVariants.{DeviceFault}
use Rattle.mot_outcome.specs.Outcome.{Prints, number_line}
use Rattle.mot_repository.specs.Repository.{Agrees, RepositoryView}

-- the refusal of a copy that was not made
abbrev pub refusal_of : NotCopied → Refusal
refusal_of (Refused refusal) = refusal
refusal_of Unreadable = DeviceFault

-- In these what the disk stands for that is copied has a fact by Of, and its counts of failures are
-- those before and after. The copy's disk was in a state start and is in a state now; it is asked to
-- have this geometry, and ids that go on after these. The copying ended with this refusal or with
-- none, and the writer's known bytes were old and are new.

-- It was refused for such a reason, and nothing printed; or each image that a crash may leave now is
-- the copy, and its length was printed, or some first bytes of that line.
pub data TellsCopy (Of : (Standing → Type 0) → Type 0) (before after : ℕ) (g : Geometry)
    (ids : Option ℕ) (ending : Option Refusal) (old new : Option (List ℕ)) (start now : State) :
    Type 0 where
  refused : (why : NotCopied) → ending ≡ Some (refusal_of why) → (view : RepositoryView)
      → Of (Agrees view) → IsNotCopied view g before after start now why → Keeps old new
      → TellsCopy Of before after g ids ending old new start now
  made : (now.IsHonest → Of (λ s. (image : List ℕ) → now.MayLeave image → IsCopyOf g ids s image))
      → Prints ending (number_line (codes "copied ") (length_of g)) old new
      → TellsCopy Of before after g ids ending old new start now

pub record Copies (Of : (Standing → Type 0) → Type 0) (before after : ℕ) (g : Geometry)
    (ids : Option ℕ) (ending : Option Refusal) (old new : Option (List ℕ)) (start now : State) :
    Type 0 where
  pub keeps : KeepsLength start now
  -- a disk that has the magic is synced at most
  pub over_a_disk : now.IsHonest → has_magic start.bytes ≡ true → IsStill start now
  -- the bytes behind the copy stay, at any moment
  pub behind : now.IsHonest → Throughout start now (HasRestOf g start)
  -- a crash at any moment leaves no magic, or the copy
  pub any_moment : now.IsHonest
      → ((image : List ℕ) → start.MayLeave image → has_magic image ≡ false)
      → Of (λ s. Throughout start now (NoneOrCopyOf g ids s))
  pub told : TellsCopy Of before after g ids ending old new start now
