-- A body that is read for its name.
use Rattle.std.specs.Prelude.{◌≡◌, ◌⊎◌, ℕ, List, None, Some}
use Rattle.disk_model.specs.Disk.{State, Rises}
use Rattle.mot_journal.specs.Image.{Standing}
use Rattle.mot_numbers.specs.declared.refusal.Refusal.{Refusal}
use Rattle.mot_numbers.specs.declared.refusal.Refusal.TheVariants.{BadName, DeviceFault, NoSuchName}
use Rattle.mot_numbers.specs.declared.refusal.Refusal.TheVariants.{OutOfMemory}
use Rattle.mot_objects.specs.Carousel.{Object}
use Rattle.mot_objects.specs.Name.{IsName}
use Rattle.mot_objects.specs.Stands.{index_of}
use Rattle.mot_repository.specs.Repository.{HasStanding, RepositoryView}
use Rattle.mot_update.specs.Updating.{found}

-- the body is that of the object of this name
abbrev pub IsNamedBody : List Object → (name body : List ℕ) → Type 0
IsNamedBody objects name body =
    (object : Object) × (found name objects ≡ Some object) × (body ≡ object.body)

-- it was read of a disk that was in a state start and is in a state now
abbrev pub ReadsBody : RepositoryView → (start now : State) → (name body : List ℕ) → Type 0
ReadsBody view start now name body =
    (s : Standing) → HasStanding view s start → now.IsHonest
    → IsNamedBody s.carousel.objects name body

-- why none was read; the counts of failures are those before and after
abbrev pub MissesBody : RepositoryView → (before after : ℕ) → (name : List ℕ) → Refusal → Type 0
MissesBody view before after name refusal = ((refusal ≡ BadName) × ¬ (IsName name))
    ⊎ ((refusal ≡ NoSuchName) × (index_of name view.carousel.objects.items ≡ None))
    ⊎ (refusal ≡ OutOfMemory)
    ⊎ ((refusal ≡ DeviceFault) × Rises before after)
