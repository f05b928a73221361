-- A file as a disk.
use Rattle.std.specs.declared.io.Error.{Error}
use Rattle.std.specs.Prelude.{◌≡◌, ◌⊎◌, Bool, List, Option, IsTrue, IsFalse, IsSome, IsOk, IsErr}
use Rattle.std.specs.Prelude.{Result, []}
use Rattle.disk_model.specs.Disk.{most_failures, State}
use Rattle.disk_model.specs.declared.disk.DiskFault.{DiskFault}
use Rattle.disk_store.specs.Content.{Content, replayed_state}
use Rattle.disk_store.specs.Calls.{Call, after_call, content_after, no_content, AreRight}
use Rattle.disk_store.specs.declared.file.start.Start.{Ghosts}
use Rattle.disk_store.specs.declared.file.FileDiskFrom.{FileDiskFrom}
use Rattle.disk_store.specs.declared.file.system.HeldFile.{HeldFile}
use Rattle.disk_store.specs.declared.memory.ram.RamDisk.{RamDisk}

-- the calls on a file that is held, with their answers
abbrev pub held_calls : {F : Type 0} → HeldFile F → List Call
held_calls file = file.history.calls

-- why the first of them that failed did so
abbrev pub held_fault : {F : Type 0} → HeldFile F → Option Error
held_fault file = file.fault

-- a file that held these bytes as it was opened
module _ {S F : Type 0} {start : Ghosts S F} where
  -- the calls so far, with their answers
  abbrev pub calls_on : FileDiskFrom S F start → List Call
  calls_on disk = held_calls disk.file

  -- what a file of the model holds after the calls so far
  abbrev pub file_content : FileDiskFrom S F start → Content
  file_content disk = content_after start.bytes (calls_on disk)

  -- All that contracts know of it as a disk. It is honest as long as each answer is that of a file
  -- of the model.
  abbrev pub file_state : FileDiskFrom S F start → State
  file_state disk = replayed_state (after_call start.bytes) no_content (calls_on disk)
      (file_content disk) (AreRight start.bytes (calls_on disk) no_content)
      disk.failures disk.calls.number

  -- why the first call of the system that failed did so
  abbrev pub fault_on : FileDiskFrom S F start → Option Error
  fault_on disk = held_fault disk.file

  -- whether no sync of it has failed
  abbrev pub can_sync : FileDiskFrom S F start → Bool
  can_sync disk = disk.can_sync

  abbrev pub CanSync : FileDiskFrom S F start → Type 0
  CanSync disk = IsTrue (can_sync disk)

  -- a sync of it has failed, and each later one fails
  abbrev pub HasFailedSync : FileDiskFrom S F start → Type 0
  HasFailedSync disk = IsFalse (can_sync disk)

  -- Why the first call of the system that failed did so is kept. A call on a disk that fails calls
  -- the system, unless a sync failed before, or the count of failures is the greatest.
  pub record KeepsFault (old new : FileDiskFrom S F start) {T : Type 0} (result : Result T DiskFault)
      : Type 0 where
    pub stays : IsSome (fault_on old) → fault_on new ≡ fault_on old
    pub kept : IsErr result → IsSome (fault_on new)
        ⊎ ((calls_on new ≡ calls_on old)
        × (HasFailedSync old ⊎ (old.failures ≡ most_failures)))
    pub none : IsOk result → fault_on new ≡ fault_on old

-- A disk in memory to work on, whose calls never fail.

-- the writes and syncs so far, from those that made it
abbrev pub calls_in : RamDisk → List Call
calls_in ram = ram.history.calls

-- its bytes, which of them are loose, and the bytes at the last sync
abbrev pub ram_content : RamDisk → Content
ram_content ram = content_after [] (calls_in ram)

-- all that contracts know of it as a disk: it is honest, and has not failed
abbrev pub ram_state : RamDisk → State
ram_state ram = replayed_state (after_call []) no_content (calls_in ram) (ram_content ram)
    (Unit {0}) 0 ram.calls.number
