-- What a folder gave in one look.
use Rattle.std.specs.Prelude.{ℕ, Bool, true, false, List, [], ◌∷◌, ◌++◌, Option, Some, None}
use Rattle.mot_files.specs.declared.system.Stamp.{Stamp}

pub record Given : Type 0 where
  -- of each listing the path by which the folder was opened, and then the names that each read of
  -- it gave, each name ended by a zero byte: nothing, where there were no further names
  pub listed : List (List ℕ)
  -- of the names that were asked for those of regular files
  pub files : List (List ℕ)
  -- and the others
  pub others : List (List ℕ)
  -- the files that were read: the name of each, and its bytes
  pub read : List (List ℕ × List ℕ)
  -- of some of them the stamp that each had before it was read
  pub stamped : List (List ℕ × Stamp)
  -- the files that were not read, since each had this stamp when it was asked for
  pub unchanged : List (List ℕ × Stamp)
  -- the names of those that could not be, or not be made to last
  pub missed : List (List ℕ)
  -- the names of the files that were made to last, and the folder after each of them
  pub kept : List (List ℕ)
  -- the path, each time that the names alone were made to last
  pub kept_names : List (List ℕ)
  -- what else failed: the path, where it was not opened or did not give its names; and each name
  -- that was asked for in vain
  pub failed : List (List ℕ)

abbrev pub nothing : Given
nothing = record {
  listed = [];
  files = [];
  others = [];
  read = [];
  stamped = [];
  unchanged = [];
  missed = [];
  kept = [];
  kept_names = [];
  failed = [];
}

-- it is opened by this path, or gives these names
abbrev pub and_listed : Given → List ℕ → Given
and_listed g bytes = record g { listed = g.listed ++ bytes ∷ [] }

-- this name is that of a regular file, or is not
abbrev pub and_asked : Given → List ℕ → (is_file : Bool) → Given
and_asked g name true = record g { files = g.files ++ name ∷ [] }
and_asked g name false = record g { others = g.others ++ name ∷ [] }

-- a file with its stamp, where it has one
abbrev pub and_stamp : List (List ℕ × Stamp) → List ℕ → Option Stamp → List (List ℕ × Stamp)
and_stamp stamped name None = stamped
and_stamp stamped name (Some stamp) = stamped ++ (name, stamp) ∷ []

-- the file of this name has these bytes, and had this stamp, or none, before it was read
abbrev pub and_read : Given → List ℕ → List ℕ → Option Stamp → Given
and_read g name bytes stamp = record g {
  read = g.read ++ (name, bytes) ∷ [];
  stamped = and_stamp g.stamped name stamp;
}

-- the file of this name has this stamp, and is not read
abbrev pub and_unchanged : Given → List ℕ → Stamp → Given
and_unchanged g name stamp = record g { unchanged = g.unchanged ++ (name, stamp) ∷ [] }

-- or it can't be read, or be made to last
abbrev pub and_missed : Given → List ℕ → Given
and_missed g name = record g { missed = g.missed ++ name ∷ [] }

-- the file of this name was made to last
abbrev pub and_kept : Given → List ℕ → Given
and_kept g name = record g { kept = g.kept ++ name ∷ [] }

-- the names of the folder of this path were
abbrev pub and_kept_names : Given → List ℕ → Given
and_kept_names g path = record g { kept_names = g.kept_names ++ path ∷ [] }

-- the folder of this path can't be listed, or its names not be made to last; or it can't be said
-- what this name in it names
abbrev pub and_failed : Given → List ℕ → Given
and_failed g of = record g { failed = g.failed ++ of ∷ [] }
