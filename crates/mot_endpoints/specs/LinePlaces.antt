-- Which folder lines may come from: none in which another file of the command stands. Each relation
-- goes from the calls that were made before to those that were made then.
use Rattle.std.specs.Prelude.{◌≡◌, ◌≢◌, ℕ, Bool, List, [], ◌∷◌, ◌++◌, Result, Ok, Err}
use Rattle.std.specs.Prelude.{Option, None, Some, IsUtf8, codes, if◌then◌else◌, take}
use Rattle.std.specs.Borrow.{Bor}
use Rattle.std.specs.declared.io.Error.{Error}
use Rattle.mot_endpoints.specs.Names.{folder_of}
use Rattle.mot_endpoints.specs.Placing.{LeadsTo, Steps, Then}
use Rattle.mot_endpoints.specs.declared.fault.LinesFault.{LinesFault}
use Rattle.mot_endpoints.specs.declared.lines.OtherFiles.{OtherFiles}
use Rattle.mot_files.specs.Call.{Call, followed, resolved}
use Rattle.mot_files.specs.declared.system.Fault.{Fault}
use Rattle.mot_files.specs.declared.system.Fault.TheVariants.{Absent, Busy, System}
use Rattle.mot_files.specs.declared.system.Kind.TheVariants.{Folder}
use Rattle.mot_files.specs.declared.system.FileStat.{FileStat}

-- a call that the system refused is told by its words
abbrev pub IsRefused : Fault → LinesFault → Type 0
IsRefused (Absent error) told = told ≡ LinesFault.System error
IsRefused Busy told = (error : Error) × (told ≡ LinesFault.System error)
IsRefused (System error) told = told ≡ LinesFault.System error

-- what is not there leads nowhere; of any other fault it is not known where a path leads
abbrev pub IsUnresolved : Fault → Result (Unit {0}) LinesFault → Type 0
IsUnresolved (Absent error) result = result ≡ Ok tt
IsUnresolved fault result = (told : LinesFault) × IsRefused fault told × (result ≡ Err told)

-- what calls check
abbrev pub Check : Type 1
Check = Steps (Unit {0}) LinesFault

-- what the path leads to is not the folder that was seen, or lines are refused for this reason
abbrev pub IsElsewhere : (folder : FileStat) (why : LinesFault) (path : List ℕ) → Check
IsElsewhere folder why path result old new = (is : Bool) × LeadsTo path folder is old new
    × (result ≡ (if is then Err why else Ok tt))

-- Nor is the folder of what the path leads to, without links.
pub data IsLedElsewhere (folder : FileStat) (why : LinesFault) (path : List ℕ)
    (result : Result (Unit {0}) LinesFault) (old new : List Call) : Type 0 where
  unresolved : (room : List ℕ) (fault : Fault) → IsUnresolved fault result
      → new ≡ old ++ resolved path room (Err fault) ∷ []
      → IsLedElsewhere folder why path result old new
  no_text : (room : List ℕ) (count : ℕ) (error : Error) → ¬ (IsUtf8 (take count room))
      → result ≡ Err (LinesFault.System error)
      → new ≡ old ++ resolved path room (Ok count) ∷ []
      → IsLedElsewhere folder why path result old new
  led : (room : List ℕ) (count : ℕ) → IsElsewhere folder why (folder_of (take count room)) result
      (old ++ resolved path room (Ok count) ∷ []) new
      → IsLedElsewhere folder why path result old new

-- what a path names does not stand in the folder: the path's own folder is another one, and so is
-- that where it leads
abbrev pub IsApart : (folder : FileStat) (why : LinesFault) (path : List ℕ) → Check
IsApart folder why path =
    Then (IsElsewhere folder why (folder_of path)) (λ _. IsLedElsewhere folder why path)

-- what takes the packets keeps apart from it, if that is not standard output
pub data PacketsApart (folder : FileStat) (path : List ℕ) (result : Result (Unit {0}) LinesFault)
    (old new : List Call) : Type 0 where
  output : path ≡ codes "-" → result ≡ Ok tt → new ≡ old → PacketsApart folder path result old new
  placed : path ≢ codes "-" → IsApart folder LinesFault.HasPackets path result old new
      → PacketsApart folder path result old new

-- nothing is asked of what is not given
abbrev pub IfGiven : (List ℕ → Check) → Option (Bor (List ℕ)) → Check
IfGiven Is None result old new = (result ≡ Ok tt) × (new ≡ old)
IfGiven Is (Some path) result old new = Is path.now result old new

-- whether the folder that was seen is not that of the objects, and neither the disk, nor what takes
-- the packets, nor the file that adds suffixes stands in it
abbrev pub IsApartFrom : (others : OtherFiles) (folder : FileStat) → Check
IsApartFrom others folder =
    Then (IfGiven (IsElsewhere folder LinesFault.HasObjects) others.objects)
    (λ _. Then (IsApart folder LinesFault.HasDisk others.disk.now)
    (λ _. Then (PacketsApart folder others.packets.now)
    (λ _. IfGiven (IsApart folder LinesFault.HasTypes) others.types)))

-- Whether lines may come from the path: it names a folder, or leads to one, that keeps apart from the
-- others.
pub data ChecksLines (path : List ℕ) (others : OtherFiles) (result : Result (Unit {0}) LinesFault)
    (old new : List Call) : Type 0 where
  unseen : (fault : Fault) (told : LinesFault) → IsRefused fault told → result ≡ Err told
      → new ≡ old ++ followed path (Err fault) ∷ [] → ChecksLines path others result old new
  no_folder : (found : FileStat) → found.kind ≢ Folder → result ≡ Err LinesFault.NoFolder
      → new ≡ old ++ followed path (Ok found) ∷ [] → ChecksLines path others result old new
  folder : (found : FileStat) → found.kind ≡ Folder
      → IsApartFrom others found result (old ++ followed path (Ok found) ∷ []) new
      → ChecksLines path others result old new
