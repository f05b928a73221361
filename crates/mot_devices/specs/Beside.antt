-- Which paths are those of files that the store of a disk may have beside the disk.
use Rattle.std.specs.Prelude.{◌≡◌, ◌≢◌, ◌||◌, ℕ, Bool, true, List, [], ◌∷◌, ◌++◌, Result, Ok, Err}
use Rattle.std.specs.Prelude.{bytes_eq, codes}
use Rattle.mot_files.specs.Call.{Call, looked}
use Rattle.mot_files.specs.declared.system.Fault.{Fault}
use Rattle.mot_files.specs.declared.system.Kind.TheVariants.{Folder}
use Rattle.mot_files.specs.declared.system.FileStat.{FileStat}

-- what the names of files that the disk's store may have beside the disk have behind its name
abbrev pub is_store_end : List ℕ → Bool
is_store_end end =
    bytes_eq end (codes "-journal") || bytes_eq end (codes "-wal") || bytes_eq end (codes "-shm")

-- a path is that of a disk with such an end
pub record HasStoreEnd (path disk : List ℕ) : Type 0 where
  pub end : List ℕ
  pub is_end : is_store_end end ≡ true
  pub joined : path ≡ disk ++ end

-- the path is that of a file of a disk: what stands at the path without the end is no folder
pub record IsFileOfDisk (path : List ℕ) (old new : List Call) : Type 0 where
  pub disk : List ℕ
  pub seen : FileStat
  pub has_end : HasStoreEnd path disk
  pub no_folder : seen.kind ≢ Folder
  pub calls : new ≡ old ++ looked disk (Ok seen) ∷ []

-- what the system says of a path at which no disk stands
abbrev pub SeesNoDisk : Result FileStat Fault → Type 0
SeesNoDisk (Ok seen) = seen.kind ≡ Folder
SeesNoDisk (Err fault) = Unit {0}

-- it is not: it has no such end, or no disk stands at the path without it
pub data IsApart (path : List ℕ) (old new : List Call) : Type 0 where
  plain : ((disk : List ℕ) → ¬ (HasStoreEnd path disk)) → new ≡ old → IsApart path old new
  alone : (disk : List ℕ) (answer : Result FileStat Fault) → HasStoreEnd path disk
      → SeesNoDisk answer → new ≡ old ++ looked disk answer ∷ [] → IsApart path old new
