-- How the status comes to its file.
use Rattle.std.specs.Prelude.{◌≡◌, ℕ, true, false, List, [], ◌∷◌, ◌++◌, Option, Result, Ok, Err}
use Rattle.std.specs.Prelude.{option_map, string_bytes}
use Rattle.std.specs.Global.{Global}
use Rattle.mot_endpoints.specs.Names.{IsOfDisk}
use Rattle.mot_endpoints.specs.Placing.{Clears, Finds, IfThere, Then, told_of}
use Rattle.mot_endpoints.specs.declared.fault.PacketsFault.{PacketsFault}
use Rattle.mot_endpoints.specs.declared.fault.PacketsFault.TheVariants.{NoFile, NoNewFile}
use Rattle.mot_endpoints.specs.declared.status_file.StatusFile.{StatusFile}
use Rattle.mot_files.specs.Call.{Call, closed, locked, opened}
use Rattle.mot_files.specs.Placing.{Replaces}
use Rattle.mot_files.specs.declared.system.Fault.{Fault}
use Rattle.mot_files.specs.declared.system.Fault.TheVariants.{Busy}
use Rattle.mot_files.specs.declared.system.Handle.{Handle}
use Rattle.mot_files.specs.declared.system.How.TheVariants as How

-- the system of files that a file of the status is in
abbrev pub status_system : {S : Type 0} → StatusFile S → S
status_system file = file.system

-- the path of the disk, whose place it may not take
abbrev pub status_disk : {S : Type 0} → StatusFile S → List ℕ
status_disk file = file.disk.now

-- the path beside it; none if there was no memory for it
abbrev pub status_beside : {S : Type 0} → StatusFile S → Option (List ℕ)
status_beside file = option_map (string_bytes {Z = Global}) file.beside

-- what the system says of a lock: only one that is held is a fault
abbrev pub unless_busy : Result (Unit {0}) Fault → Result (Unit {0}) PacketsFault
unless_busy (Err Busy) = Err PacketsFault.InUse
unless_busy answer = Ok tt

-- The lock of the file of the path is asked for, and given back.
pub data AsksLock (path : List ℕ) (result : Result (Unit {0}) PacketsFault) (old new : List Call) :
    Type 0 where
  unopened : (fault : Fault) → result ≡ Ok tt → new ≡ old ++ opened path How.Read (Err fault) ∷ []
      → AsksLock path result old new
  asked : (handle : Handle) (answer : Result (Unit {0}) Fault) → result ≡ unless_busy answer
      → new ≡ old ++ opened path How.Read (Ok handle) ∷ [] ++ locked handle answer ∷ []
      ++ closed handle ∷ [] → AsksLock path result old new

-- A text may take the place of a regular file whose lock no program holds, or of nothing, but not of
-- the disk nor of a file of it. What packets are written to is locked.
pub data ChecksPlace (path disk : List ℕ) (result : Result (Unit {0}) PacketsFault)
    (old new : List Call) : Type 0 where
  of_disk : result ≡ Err PacketsFault.IsOfDisk → IsOfDisk path disk true old new
      → ChecksPlace path disk result old new
  other : (inner : List Call) → IsOfDisk path disk false old inner
      → Then (Finds path disk) (IfThere (AsksLock path)) result inner new
      → ChecksPlace path disk result old new

-- what is in the way beside the path is told as that
abbrev pub beside_fault : PacketsFault → PacketsFault
beside_fault NoFile = NoNewFile
beside_fault fault = fault

-- A text is written beside the path, where what a killed run left is removed before, and takes its
-- place. Nothing is changed where it may not.
pub data WritesStatus (path beside disk text : List ℕ) (result : Result (Unit {0}) PacketsFault)
    (old new : List Call) : Type 0 where
  misplaced : (fault : PacketsFault) → result ≡ Err fault
      → ChecksPlace path disk (Err fault) old new → WritesStatus path beside disk text result old new
  uncleared : (fault : PacketsFault) (inner : List Call) → result ≡ Err (beside_fault fault)
      → ChecksPlace path disk (Ok tt) old inner → Clears beside disk (Err fault) inner new
      → WritesStatus path beside disk text result old new
  tried : (answer : Result (Unit {0}) Fault) (inner cleared : List Call) → result ≡ told_of answer
      → ChecksPlace path disk (Ok tt) old inner → Clears beside disk (Ok tt) inner cleared
      → Replaces beside path text answer cleared new
      → WritesStatus path beside disk text result old new
