-- What contracts see of a repository.
use Rattle.std.specs.Prelude.{◌≡◌, ℕ, ◌+◌, List, slice_index_or, slice_range, IsTrue, IsFalse, map}
use Rattle.disk_model.specs.Disk.{Rises}
use Rattle.mot_numbers.specs.declared.refusal.Refusal.{Refusal}
use Rattle.mot_numbers.specs.declared.refusal.Refusal.TheVariants.{DeviceFault, Halted}
use Rattle.mot_numbers.specs.declared.geometry.Geometry.{Geometry}
use Rattle.mot_numbers.specs.Geometry.{area_start}
use Rattle.mot_repository.specs.Repository.{RepositoryView}
use Rattle.mot_objects.specs.declared.carousel.Carousel.{Carousel}
use Rattle.mot_objects.specs.declared.object.Object.{Object}

-- what a repository keeps in memory, and its disk
pub record OnDisk (D : Type 0) : Type 0 where
  pub view : RepositoryView
  pub disk : D

-- where the body at this place begins, and its length
abbrev pub extent_at : List (ℕ × ℕ) → ℕ → ℕ × ℕ
extent_at extents place = slice_index_or extents place (0, 0)

-- the bytes of an image where the body at this place lies
abbrev pub body_on : Geometry → List (ℕ × ℕ) → ℕ → List ℕ → List ℕ
body_on g extents place image =
    let extent = extent_at extents place in
    let start = area_start g + extent.0 in slice_range image start (start + extent.1)

-- why it is not told whether a disk is clean; the counts of failures are those before and after
pub data IsCheckRefusal {D : Type 0} (old new : OnDisk D) (before now : ℕ) (refusal : Refusal)
    : Type 0 where
  halted : IsTrue old.view.halted → refusal ≡ Halted → new ≡ old
      → IsCheckRefusal old new before now refusal
  failed : IsFalse old.view.halted → refusal ≡ DeviceFault → Rises before now
      → IsCheckRefusal old new before now refusal

-- Where the bodies lie.

-- there is an extent for each object, of the length that it gives
abbrev pub ArePaired : Carousel → List (ℕ × ℕ) → Type 0
ArePaired carousel extents =
    map (λ (e : ℕ × ℕ). e.1) extents ≡ map (λ (o : Object). o.length) carousel.objects.items
