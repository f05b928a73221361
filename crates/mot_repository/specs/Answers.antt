-- What the calls of a repository answer, and what they leave in memory.
use Rattle.std.specs.Prelude.{◌≡◌, false, Result, Ok, Err, IsTrue, IsFalse}
use Rattle.disk_model.specs.Disk.{State, IsUnchanged, Rises}
use Rattle.mot_journal.specs.Image.{Standing}
use Rattle.mot_journal.specs.declared.layout.Layout.TheVariants.{Two}
use Rattle.mot_numbers.specs.declared.refusal.Refusal.{Refusal}
use Rattle.mot_numbers.specs.declared.refusal.Refusal.TheVariants.{OutOfMemory, DeviceFault, Halted}
use Rattle.mot_objects.specs.declared.carousel.Carousel.{Carousel}
use Rattle.mot_objects.specs.declared.command.Command.{Command}
use Rattle.mot_objects.specs.declared.command.Done.{Done}
use Rattle.mot_repository.specs.Outcome.{after_command, has_long_name}
use Rattle.mot_repository.specs.Repository.{RepositoryView, Agrees}
use Rattle.mot_repository.specs.declared.prepared.Prepared.{Prepared}

-- the carousel after a change that was worked out
abbrev pub carousel_after : Prepared → Carousel
carousel_after prepared = prepared.inventory.carousel

-- Why a command is refused before anything is written: the repository is halted; whatever the
-- bodies are, the command, whose name has room in layout 2, comes to this refusal; or memory is
-- wanted, but not for too long a name.
pub data IsRefusal (view : RepositoryView) (command : Command) (refusal : Refusal) : Type 0 where
  halted : IsTrue view.halted → refusal ≡ Halted → IsRefusal view command refusal
  by_rules : IsFalse view.halted → has_long_name Two command ≡ false
      → ((s : Standing) → Agrees view s
      → after_command view.journal.layout s command ≡ Err refusal)
      → IsRefusal view command refusal
  no_memory : IsFalse view.halted → has_long_name view.journal.layout command ≡ false
      → refusal ≡ OutOfMemory → IsRefusal view command refusal

-- how an accepted command changes what is kept in memory, whatever the bodies are
pub record IsChanged (old : RepositoryView) (command : Command) (done : Done)
    (new : RepositoryView) : Type 0 where
  pub geometry : new.journal.geometry ≡ old.journal.geometry
  pub layout : new.journal.layout ≡ old.journal.layout
  pub halted : new.halted ≡ old.halted
  pub becomes : (s : Standing) → Agrees old s → (next : Standing)
      × (after_command old.journal.layout s command ≡ Ok (next, done)) × Agrees new next

-- a change that answers a device fault leaves the carousel as it was, and the repository halted
pub record IsHalted (old new : RepositoryView) : Type 0 where
  pub geometry : new.journal.geometry ≡ old.journal.geometry
  pub layout : new.journal.layout ≡ old.journal.layout
  pub carousel : new.carousel ≡ old.carousel
  pub extents : new.extents ≡ old.extents
  pub halted : IsTrue new.halted

-- what a command is answered, and what that leaves in memory and on the disk
pub data IsAnswered (view view' : RepositoryView) (state state' : State) (command : Command)
    (r : Result Done Refusal) : Type 0 where
  accepted : (done : Done) → r ≡ Ok done → IsChanged view command done view'
      → IsAnswered view view' state state' command r
  refused : (refusal : Refusal) → r ≡ Err refusal → IsRefusal view command refusal → view' ≡ view
      → IsUnchanged state state' → IsAnswered view view' state state' command r
  failed : r ≡ Err DeviceFault → IsFalse view.halted → Rises state.failures state'.failures
      → IsHalted view view' → IsAnswered view view' state state' command r

-- why a journal is not rewritten into layout 2
pub data IsMigrationRefusal (view view' : RepositoryView) (state state' : State)
    (refusal : Refusal) : Type 0 where
  halted : IsTrue view.halted → refusal ≡ Halted → view' ≡ view → IsUnchanged state state'
      → IsMigrationRefusal view view' state state' refusal
  no_memory : IsFalse view.halted → refusal ≡ OutOfMemory → view' ≡ view
      → IsUnchanged state state' → IsMigrationRefusal view view' state state' refusal
  failed : IsFalse view.halted → refusal ≡ DeviceFault → Rises state.failures state'.failures
      → IsHalted view view' → IsMigrationRefusal view view' state state' refusal
