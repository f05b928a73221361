-- Which names are those of files of the disk.
use Rattle.std.specs.Prelude.{◌≡◌, ℕ, Bool, true, false, List, [], ◌∷◌, ◌++◌, Ok, Err}
use Rattle.std.specs.Prelude.{Option, Some, None, bytes_eq, codes, take, drop, length, ◌&&◌}
use Rattle.std.specs.Path.{path_file_name, path_parent}
use Rattle.mot_endpoints.specs.Placing.{LeadsTo}
use Rattle.mot_devices.specs.Beside.{is_store_end}
use Rattle.mot_files.specs.Call.{Call, followed}
use Rattle.mot_files.specs.declared.system.Fault.{Fault}
use Rattle.mot_files.specs.declared.system.FileStat.{FileStat}

-- a folder that is not named is the working folder
abbrev pub or_working : Option (List ℕ) → List ℕ
or_working None = codes "."
or_working (Some []) = codes "."
or_working (Some (first ∷ rest)) = first ∷ rest

-- the folder in which a file of this path stands
abbrev pub folder_of : List ℕ → List ℕ
folder_of path = or_working (path_parent path)

-- whether the name of a file is one that the disk's store may have beside the disk
abbrev pub is_store_name : (name disk : Option (List ℕ)) → Bool
is_store_name None disk = false
is_store_name (Some name) None = false
is_store_name (Some name) (Some disk) =
    bytes_eq (take (length disk) name) disk && is_store_end (drop (length disk) name)

-- Whether the path names a file of the disk: its name is one of these, and its folder and that of the
-- disk lead to one.
pub data IsOfDisk (path disk : List ℕ) (result : Bool) (old new : List Call) : Type 0 where
  other : is_store_name (path_file_name path) (path_file_name disk) ≡ false → result ≡ false
      → new ≡ old → IsOfDisk path disk result old new
  unseen : (fault : Fault) → is_store_name (path_file_name path) (path_file_name disk) ≡ true
      → result ≡ false → new ≡ old ++ followed (folder_of path) (Err fault) ∷ []
      → IsOfDisk path disk result old new
  seen : (folder : FileStat) → is_store_name (path_file_name path) (path_file_name disk) ≡ true
      → LeadsTo (folder_of disk) folder result
      (old ++ followed (folder_of path) (Ok folder) ∷ []) new → IsOfDisk path disk result old new
