-- What a repository keeps in memory, and has room for.
use Rattle.std.specs.Prelude.{◌≡◌, map}
use Rattle.mot_journal.specs.Catalogue.{Placed, Catalogue, extents_of}
use Rattle.mot_repository.specs.Inner.Prepared.{IsFull}
use Rattle.mot_repository.specs.Repository.{RepositoryView}
use Rattle.std.specs.Prelude.{◌⊎◌, IsFalse, List}
use Rattle.disk_model.specs.Disk.{State}
use Rattle.mot_journal.specs.declared.record.Record.{Record}
use Rattle.mot_journal.specs.Image.{Standing}
use Rattle.mot_journal.specs.Journal.{JournalView}
use Rattle.mot_journal.specs.declared.layout.Layout.{Layout}
use Rattle.mot_numbers.specs.declared.geometry.Geometry.{Geometry}
use Rattle.mot_repository.specs.Inner.Prepared.{IsFull}
use Rattle.mot_repository.specs.Repository.{Agrees, Holds}
use Rattle.mot_repository.specs.declared.inventory.Inventory.{Inventory}

-- what is kept in memory is this catalogue
pub record KeepsCatalogue (view : RepositoryView) (c : Catalogue) : Type 0 where
  pub period : view.carousel.period ≡ c.period
  pub directory : view.carousel.directory ≡ c.directory
  pub cursor : view.carousel.cursor ≡ c.cursor
  pub objects : view.carousel.objects.items ≡ map (λ (p : Placed). p.object) c.objects
  pub extents : view.extents ≡ extents_of c

-- each image now has the records from before, or where the half was full the given ones, and stands
-- for what it stood for
pub record HasSlotFree (s : Standing) (records given : List Record) (was j : JournalView)
    (state : State) : Type 0 where
  pub list : List Record
  pub one : (list ≡ records) ⊎ ((list ≡ given) × IsFull was)
  pub holds : (view : RepositoryView) → view.journal ≡ j → IsFalse view.halted → Agrees view s
      → (now : Holds view s state) × (now.records ≡ list)

-- a repository of this geometry and layout keeps this
pub record KeepsInventory (g : Geometry) (layout : Layout) (inventory : Inventory)
    (view : RepositoryView) : Type 0 where
  pub geometry_is : view.journal.geometry ≡ g
  pub layout_is : view.journal.layout ≡ layout
  pub carousel_is : view.carousel ≡ inventory.carousel
  pub extents_are : view.extents ≡ inventory.extents.items
