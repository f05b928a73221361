-- What is known of files while a look goes on.
use Rattle.std.specs.Prelude.{◌≡◌, ◌⊎◌, ◌&&◌, ◌||◌, ℕ, Bool, true, false, not, List, bytes_eq, nat_eq, ⊤}
use Rattle.std.specs.List.{AllByRecursion, list_any}
use Rattle.mot_files.specs.declared.system.Stamp.{Stamp}
use Rattle.mot_folder.specs.Known.{Among}
use Rattle.mot_folder.specs.declared.known.Known.{Known}
use Rattle.mot_folder.specs.declared.known.KnownFiles.{KnownFiles}
use Rattle.mot_folder.specs.declared.known.StampedFile.{StampedFile}
use Rattle.mot_objects.specs.declared.object.Object.{Object}
use Rattle.mot_shelf.specs.Given.{Given}
use Rattle.mot_update.specs.Told.{Answer, Put, Replaced, Withdrew, was_accepted}
use Rattle.mot_update.specs.Updating.{is_known}

-- nothing was refused, and no file passed over
abbrev pub is_fine_look : (any_refused any_passed : Bool) → Bool
is_fine_look any_refused any_passed = not any_refused && not any_passed

-- these objects, without their bodies, have the one that is known of a file
abbrev pub is_here : Known → Object → Bool
is_here k o = bytes_eq o.name k.name && (nat_eq o.tid k.tid && nat_eq o.version k.version)

abbrev pub is_there : List Object → Known → Bool
is_there objects k = list_any (is_here k) objects

-- a file is known with this stamp
abbrev pub IsKnownWith : List Known → List ℕ × Stamp → Type 0
IsKnownWith known file = (k : Known) × Among known k × (k.name ≡ file.0) × (k.stamp ≡ file.1)

-- a file was read, and had this stamp before
abbrev pub WasStamped : Given → StampedFile → Type 0
WasStamped given f = (bytes : List ℕ) × Among given.read (f.name, bytes)
    × Among given.stamped (f.name, f.stamp)

-- if it was refused, its name is one of those that are noted, or was lost for want of memory
abbrev pub IsNotedFor : KnownFiles → List ℕ → Bool → Type 0
IsNotedFor files name accepted = (accepted ≡ true)
    ⊎ ((is_known files.refused.names.items name ≡ true) ⊎ (files.any_lost ≡ true))

-- the name of an object is noted, if a command for it was refused
abbrev pub NotesName : KnownFiles → KnownFiles → (name : List ℕ) → (refused : Bool) → Type 0
NotesName old new name refused = (new.any_lost ≡ true) ⊎ ((new.any_lost ≡ old.any_lost)
    × (((refused ≡ false) × (new.refused.names.items ≡ old.refused.names.items))
    ⊎ ((n : List ℕ) → is_known new.refused.names.items n
    ≡ (bytes_eq n name || is_known old.refused.names.items n))))

abbrev pub IsNoted : KnownFiles → Answer → Type 0
IsNoted files (Withdrew name came) = ⊤
IsNoted files (Put name came) = IsNotedFor files name (was_accepted came)
IsNoted files (Replaced name came) = IsNotedFor files name (was_accepted came)

-- the files that were passed over are known, those that are to be known were read, and what was
-- refused is noted
pub record KnowsFiles (given : Given) (files : KnownFiles) (told : List Answer) : Type 0 where
  pub passed : AllByRecursion (IsKnownWith files.known.items) given.unchanged
  pub read : AllByRecursion (WasStamped given) files.read.items
  pub refused : AllByRecursion (IsNoted files) told

-- it was read with its stamp, its name is none of these, and these objects have it
pub record IsAdded (read : List StampedFile) (refused : List (List ℕ)) (objects : List Object)
    (k : Known) : Type 0 where
  pub file : StampedFile
  pub among : Among read file
  pub name : k.name ≡ file.name
  pub stamp : k.stamp ≡ file.stamp
  pub fine : is_known refused k.name ≡ false
  pub there : is_there objects k ≡ true

-- it was known before, or was added, where all that was refused is noted
abbrev pub IsKept : KnownFiles → List Object → Known → Type 0
IsKept old objects k = Among old.known.items k
    ⊎ (IsAdded old.read.items old.refused.names.items objects k × (old.any_lost ≡ false))
