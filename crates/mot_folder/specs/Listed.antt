-- The files of a folder that are objects, as it is listed.
use Rattle.std.specs.Prelude.{◌≡◌, ◌==◌, ◌&&◌, ℕ, nat_eq, nat_lt, Bool, true, false, not}
use Rattle.std.specs.Prelude.{if◌then◌else◌, List, [], ◌∷◌, ◌++◌, filter}
use Rattle.std.specs.List.{flat_map, slice_split}
use Rattle.std.specs.Option.{option_map_or}
use Rattle.mot_groups.specs.Entity.{all_but_last}
use Rattle.mot_objects.specs.Name.{is_name}
use Rattle.mot_objects.specs.declared.name.TheConstants.{MAX_NAME}
use Rattle.mot_shelf.specs.Given.{Given}
use Rattle.mot_suffixes.specs.Types.{SuffixType, type_of_name}
use Rattle.mot_update.specs.Updating.{is_known}

-- the names that these bytes have, each ended by a zero byte
abbrev pub names_in : List ℕ → List (List ℕ)
names_in bytes = all_but_last (slice_split (λ b. b == 0) bytes)

-- the name has one of the suffixes
abbrev pub has_type : List SuffixType → List ℕ → Bool
has_type types name = option_map_or (λ (type : SuffixType). true) (type_of_name types name) false

abbrev pub with_type : List SuffixType → List (List ℕ) → List (List ℕ)
with_type types names = filter (has_type types) names

-- a name stands before another one, byte by byte; a beginning of it stands before it
abbrev pub stands_before : List ℕ → List ℕ → Bool
stands_before [] [] = false
stands_before [] (y ∷ ys) = true
stands_before (x ∷ xs) [] = false
stands_before (x ∷ xs) (y ∷ ys) = if nat_eq x y then stands_before xs ys else nat_lt x y

-- names, and this one in front of the first that it stands before
abbrev pub and_in_order : List (List ℕ) → List ℕ → List (List ℕ)
and_in_order [] name = name ∷ []
and_in_order (other ∷ names) name =
    if stands_before name other then name ∷ other ∷ names else other ∷ and_in_order names name

-- the names of objects, and this one, if it is the name of an object and none of them
abbrev pub and_object : List (List ℕ) → List ℕ → List (List ℕ)
and_object names name =
    if is_name MAX_NAME name && not (is_known names name) then and_in_order names name else names

abbrev pub and_objects : List (List ℕ) → List (List ℕ) → List (List ℕ)
and_objects names [] = names
and_objects names (file ∷ files) = and_objects (and_object names file) files

-- those of these names of files that are names of objects, each once, in the order of names
abbrev pub object_names : List (List ℕ) → List (List ℕ)
object_names files = and_objects [] files

-- and the others, in the order of the files
abbrev pub nameless : List (List ℕ) → List (List ℕ)
nameless files = filter (λ name. not (is_name MAX_NAME name)) files

-- these names, in order: each further one is the next of the first ones, or of the others
pub data AreEither : List (List ℕ) → List (List ℕ) → List (List ℕ) → Type 0 where
  no_name : AreEither [] [] []
  one_first : (names firsts others : List (List ℕ)) (name : List ℕ)
      → AreEither names firsts others → AreEither (names ++ name ∷ []) (firsts ++ name ∷ []) others
  one_other : (names firsts others : List (List ℕ)) (name : List ℕ)
      → AreEither names firsts others → AreEither (names ++ name ∷ []) firsts (others ++ name ∷ [])

-- The folder of this path was opened once, and gave all its names. Each with one of the suffixes
-- was asked for; and of those that are regular files' these are the names of objects, in their
-- order.
pub record IsListing (types : List SuffixType) (path : List ℕ) (given : Given)
    (names : List (List ℕ)) : Type 0 where
  pub pieces : List (List ℕ)
  pub whole : given.listed ≡ path ∷ pieces ++ [] ∷ []
  pub asked : AreEither (with_type types (flat_map names_in pieces)) given.files given.others
  pub are : names ≡ object_names given.files
