-- A repository, its disk, and what both stand for.
use Rattle.std.specs.Prelude.{◌≡◌, ◌⊎◌, ℕ, zero, suc, Bool, List, [], ◌∷◌, Ok, IsFalse}
use Rattle.disk_model.specs.Disk.{State}
use Rattle.mot_journal.specs.declared.layout.Layout.{Layout}
use Rattle.mot_journal.specs.declared.record.Record.{Record}
use Rattle.mot_journal.specs.Journal.{JournalView, HoldsRecords, with_records}
use Rattle.mot_journal.specs.Image.{Standing, records_of, stands_for, IsClean}
use Rattle.mot_objects.specs.declared.carousel.Carousel.{Carousel}
use Rattle.mot_objects.specs.declared.command.Command.{Command}
use Rattle.mot_objects.specs.declared.command.Done.{Done}
use Rattle.mot_objects.specs.Carousel.{Object}
use Rattle.mot_objects.specs.Stands.{carousel_of, AreBodiesOf}
use Rattle.mot_repository.specs.Outcome.{after_command}

-- what a repository keeps in memory
pub record RepositoryView : Type 0 where
  -- where its journal stands: the geometry, the selected half, its layout, and how many of its
  -- gates are open
  pub journal : JournalView
  -- the carousel without its bodies, which lie on the disk
  pub carousel : Carousel
  -- for each object, where in the data area its body begins, and its length
  pub extents : List (ℕ × ℕ)
  -- a device fault has come in a change, and the disk was not opened again
  pub halted : Bool

-- the body of the object at this place
abbrev pub object_body : List Object → ℕ → List ℕ
object_body [] place = []
object_body (o ∷ objects) zero = o.body
object_body (o ∷ objects) (suc place) = object_body objects place

-- the image is clean and stands for this
pub record IsOf (s : Standing) (image : List ℕ) : Type 0 where
  pub stands : stands_for image ≡ Ok s
  pub clean : IsClean image

-- the bodies that stand beside the carousel in memory make it the one on the disk
pub record Agrees (view : RepositoryView) (s : Standing) : Type 0 where
  pub geometry : view.journal.geometry ≡ s.geometry
  pub extents : view.extents ≡ s.extents
  pub bodies : List (List ℕ)
  pub are_bodies : AreBodiesOf view.carousel bodies
  pub carousel : s.carousel ≡ carousel_of view.carousel bodies

-- The bytes that the disk reads stand for what the repository keeps, and have its records. They
-- need not be clean, nor does it matter what else a crash now may leave: calls that only read go by
-- this.
pub record HasStanding (view : RepositoryView) (s : Standing) (state : State) : Type 0 where
  pub agrees : Agrees view s
  pub records : List Record
  pub read : records_of state.bytes ≡ Ok (with_records view.journal records)
  pub stands : stands_for state.bytes ≡ Ok s

-- The one fact that every call of an open repository or server starts from and leaves: it is not
-- halted, the disk is honest, and each image that a crash now may leave is clean, has the same
-- records where the journal stands, and stands for what the repository keeps.
pub record Holds (view : RepositoryView) (s : Standing) (state : State) : Type 0 where
  pub going : IsFalse view.halted
  pub agrees : Agrees view s
  pub records : List Record
  pub journal : HoldsRecords view.journal records state
  pub each : (image : List ℕ) → state.MayLeave image → IsOf s image

-- it stands for what was there before the command, or for what the command makes of it
abbrev pub IsBeforeOrAfter : Layout → Standing → Command → List ℕ → Type 0
IsBeforeOrAfter layout s command image =
    IsOf s image
    ⊎ ((done : Done) × (next : Standing) × (after_command layout s command ≡ Ok (next, done))
    × IsOf next image)
