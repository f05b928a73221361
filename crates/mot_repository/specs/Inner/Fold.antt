-- What the code that folds records says of its lists.
use Rattle.std.specs.Prelude.{◌≡◌, ◌≤◌, ◌⊎◌, ℕ, Bool, true, false, ◌&&◌, List, [], ◌∷◌, map, Option}
use Rattle.std.specs.Prelude.{Some, None, Err, if◌then◌else◌, IsFalse}
use Rattle.mot_journal.specs.declared.record.Record.{Record}
use Rattle.mot_journal.specs.declared.record.Action.{Action}
use Rattle.mot_journal.specs.declared.record.Action.TheVariants.{Nothing, Set, Remove}
use Rattle.mot_journal.specs.Image.{catalogue_of}
use Rattle.mot_journal.specs.Catalogue.{Placed, put_in_place, in_place_or_appended, are_all_apart}
use Rattle.mot_numbers.specs.declared.refusal.Refusal.{Refusal}
use Rattle.mot_numbers.specs.declared.refusal.Refusal.TheVariants.{OutOfMemory, Damaged}
use Rattle.mot_objects.specs.Ids.{is_distinct}
use Rattle.mot_objects.specs.declared.object.Object.{Object}
use Rattle.mot_carousel.specs.Gap.{is_free}
use Rattle.mot_journal.specs.Journal.{JournalView}
use Rattle.mot_objects.specs.declared.carousel.Carousel.{Carousel}
use Rattle.mot_numbers.specs.Geometry.{length_of, is_valid}
use Rattle.mot_repository.specs.OnDisk.{ArePaired}
use Rattle.mot_repository.specs.Inner.Extents.{catalogue_in}
use Rattle.mot_repository.specs.Inner.Whole.{IsWhole}
use Rattle.mot_repository.specs.Repository.{RepositoryView}

-- there is an extent for each of these objects, of the length that it gives
abbrev pub HaveLengths : List Object → List (ℕ × ℕ) → Type 0
HaveLengths objects extents =
    map (λ (e : ℕ × ℕ). e.1) extents ≡ map (λ (o : Object). o.length) objects

-- no two extents meet
abbrev pub are_extents_apart : List (ℕ × ℕ) → Bool
are_extents_apart [] = true
are_extents_apart (e ∷ rest) = is_free rest e.1 e.0 && are_extents_apart rest

-- all ids differ, and no two bodies meet
abbrev pub are_consistent : List Placed → Bool
are_consistent objects =
    is_distinct (map (λ (p : Placed). p.object.tid) objects) && are_all_apart objects

-- these objects, where they are consistent
abbrev pub if_consistent : Option (List Placed) → Option (List Placed)
if_consistent None = None
if_consistent (Some objects) = if are_consistent objects then Some objects else None

-- these objects, if an action was done
abbrev pub if_done : Bool → List Placed → Option (List Placed)
if_done true objects = Some objects
if_done false objects = None

-- the objects with this one in the place of the one of its name, or behind the others
abbrev pub objects_set : ℕ → Placed → List Placed → Option (List Placed)
objects_set limit p objects = in_place_or_appended limit p objects (put_in_place p objects)

-- want of memory, or the first record that makes a fault of the list
abbrev pub IsFoldRefusal : ℕ → List Record → Refusal → Type 0
IsFoldRefusal limit records refusal = (refusal ≡ OutOfMemory)
    ⊎ ((slot : ℕ) × (refusal ≡ Damaged slot) × (catalogue_of limit records ≡ Err refusal))

-- the object's id of an action, if it has one, is a number of two bytes
abbrev pub HasShortId : Action → Type 0
HasShortId Nothing = Unit {0}
HasShortId (Remove tid) = tid ≤ 65535
HasShortId (Set tid version content start size name mime) = tid ≤ 65535

-- What holds of every repository, whatever its disk does.

-- The disk is long enough for a valid geometry, what is kept has no fault, and its journal can be
-- written while the repository is not halted.
pub record IsInOrder (view : RepositoryView) (len : ℕ) : Type 0 where
  pub valid : is_valid view.journal.geometry ≡ true
  pub long_enough : length_of view.journal.geometry ≤ len
  pub whole : IsWhole view.journal.geometry view.journal.layout (catalogue_in view)
  pub paired : ArePaired view.carousel view.extents
  pub going : IsFalse view.halted → IsFalse view.journal.spent

-- what a repository keeps in memory, by its parts
abbrev pub view_with : JournalView → Carousel → List (ℕ × ℕ) → Bool → RepositoryView
view_with j carousel extents halted =
    record { journal = j; carousel = carousel; extents = extents; halted = halted }
