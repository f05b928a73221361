-- What became of the files of a folder, one after the other.
use Rattle.std.specs.Prelude.{◌≡◌, ◌⊎◌, ◌<◌, ℕ, List, [], ◌∷◌, ◌++◌, length, Some, None}
use Rattle.mot_files.specs.declared.system.Stamp.{Stamp}
use Rattle.mot_objects.specs.declared.body.TheConstants.{MAX_BODY}
use Rattle.mot_suffixes.specs.Types.{SuffixType, type_of_name}
use Rattle.mot_objects.specs.declared.command.Item.{Item}

-- what is wanted of a file of this name with these bytes, and of what its suffix says
abbrev pub wanted_file : SuffixType → List ℕ → List ℕ → Item
wanted_file type name bytes =
    record { name = name; content = type.content; mime = type.mime; body = bytes }

-- a file of this name with these bytes makes no object: it has none of the suffixes, or breaks the
-- rule of bodies
abbrev pub IsUntakable : List SuffixType → List ℕ → List ℕ → Type 0
IsUntakable types name bytes =
    (type_of_name types name ≡ None) ⊎ (length bytes < 1) ⊎ (MAX_BODY < length bytes)

-- The files of these names, in order: they were read, passed over, or missed, of the folder. One that
-- was read is wanted with the bytes that were read, or its name is told as that of a file that could
-- not be taken: only if it makes no object, if memory was wanted, or if it was missed then, since it
-- could not be made to last. Of one that was passed over, since it was not changed, nothing is wanted
-- and nothing told. One that was missed is told.
pub data AreTaken (types : List SuffixType) (NoMemory : Type 0) : (names : List (List ℕ))
    → (read : List (List ℕ × List ℕ)) → (unchanged : List (List ℕ × Stamp))
    → (missed : List (List ℕ)) → (wanted : List Item) → (told : List (List ℕ)) → Type 0 where
  no_file : AreTaken types NoMemory [] [] [] [] [] []
  one_wanted : (names missed told : List (List ℕ)) (read : List (List ℕ × List ℕ))
      (unchanged : List (List ℕ × Stamp)) (others : List Item) (name bytes : List ℕ)
      (type : SuffixType) → type_of_name types name ≡ Some type
      → AreTaken types NoMemory names read unchanged missed others told
      → AreTaken types NoMemory (names ++ name ∷ []) (read ++ (name, bytes) ∷ []) unchanged missed
      (others ++ wanted_file type name bytes ∷ []) told
  one_unchanged : (names missed told : List (List ℕ)) (read : List (List ℕ × List ℕ))
      (unchanged : List (List ℕ × Stamp)) (others : List Item) (name : List ℕ) (stamp : Stamp)
      → AreTaken types NoMemory names read unchanged missed others told
      → AreTaken types NoMemory (names ++ name ∷ []) read (unchanged ++ (name, stamp) ∷ []) missed
      others told
  one_refused : (names missed told : List (List ℕ)) (read : List (List ℕ × List ℕ))
      (unchanged : List (List ℕ × Stamp)) (others : List Item) (name bytes : List ℕ)
      → IsUntakable types name bytes ⊎ NoMemory
      → AreTaken types NoMemory names read unchanged missed others told
      → AreTaken types NoMemory (names ++ name ∷ []) (read ++ (name, bytes) ∷ []) unchanged missed
      others (told ++ name ∷ [])
  one_unread : (names missed told : List (List ℕ)) (read : List (List ℕ × List ℕ))
      (unchanged : List (List ℕ × Stamp)) (others : List Item) (name : List ℕ)
      → AreTaken types NoMemory names read unchanged missed others told
      → AreTaken types NoMemory (names ++ name ∷ []) read unchanged (missed ++ name ∷ []) others
      (told ++ name ∷ [])
  one_unkept : (names missed told : List (List ℕ)) (read : List (List ℕ × List ℕ))
      (unchanged : List (List ℕ × Stamp)) (others : List Item) (name bytes : List ℕ)
      → AreTaken types NoMemory names read unchanged missed others told
      → AreTaken types NoMemory (names ++ name ∷ []) (read ++ (name, bytes) ∷ []) unchanged
      (missed ++ name ∷ []) others (told ++ name ∷ [])
