-- What a repository has ready for a command that was accepted.
use Rattle.std.specs.Prelude.{◌≡◌, ◌+◌, ◌≤◌, ℕ, true, length}
use Rattle.mot_journal.specs.Slot.{is_sound}
use Rattle.mot_numbers.specs.Geometry.{area_start, length_of}
use Rattle.mot_objects.specs.declared.command.Command.{Command}
use Rattle.mot_repository.specs.declared.prepared.Prepared.{Prepared}
use Rattle.mot_repository.specs.Inner.Extents.{catalogue_with, names_kept}
use Rattle.mot_repository.specs.Inner.Whole.{IsWhole}
use Rattle.mot_repository.specs.Inner.Prepared.{CanBeGiven, IsFull, IsPreparedFor}
use Rattle.mot_repository.specs.Outcome.{body_of, extents_after}
use Rattle.mot_repository.specs.Repository.{RepositoryView}

-- The change is that of the command, and can be written on any disk of the geometry: its records
-- are sound, and the body lies in the data area. What is kept after it has no fault either.
pub record IsPrepared (view : RepositoryView) (command : Command) (p : Prepared) : Type 0 where
  pub from : ℕ
  pub at_is : p.at ≡ area_start view.journal.geometry + from
  pub body_is : p.body.now ≡ body_of command
  pub prepared : IsPreparedFor view command p.done p.inventory.carousel from p.record p.given.items
  pub extents_are : p.inventory.extents.items
      ≡ extents_after (names_kept view.carousel) view.extents command from
  pub given : IsFull view.journal → CanBeGiven view.journal p.given.items
  pub sound : is_sound view.journal.geometry view.journal.layout p.record ≡ true
  pub within : p.at + length p.body.now ≤ length_of view.journal.geometry
  pub whole : IsWhole view.journal.geometry view.journal.layout
      (catalogue_with p.inventory.carousel p.inventory.extents.items)
