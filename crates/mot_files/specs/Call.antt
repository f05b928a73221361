-- Calls of a system of files, each with its answer.
use Rattle.std.specs.Prelude.{ℕ, List, [], Result, Ok, Err, Bool, Option, take, length}
use Rattle.mot_files.specs.declared.system.FileStat.{FileStat}
use Rattle.mot_files.specs.declared.system.Fault.{Fault}
use Rattle.mot_files.specs.declared.system.Handle.{Handle}
use Rattle.mot_files.specs.declared.system.How.{How}
use Rattle.mot_files.specs.declared.system.Time.{Time}
use Rattle.mot_files.specs.declared.system.Event.{Event}
use Rattle.mot_files.specs.declared.system.Event.TheVariants.{Closed, Followed, IsTerminal, Locked, Looked}
use Rattle.mot_files.specs.declared.system.Event.TheVariants.{LookedAt, Opened, Peeked, Read, Removed, Renamed}
use Rattle.mot_files.specs.declared.system.Event.TheVariants.{Resolved, Synced, Told, Wrote}
use Rattle.mot_files.specs.declared.system.Event.TheVariants.{Apart, MadeDisk, OpenedDisk}
use Rattle.mot_files.specs.declared.system.Part.{Part}

pub record Call : Type 0 where
  -- what was asked, and the answer
  pub what : Event
  -- the path, or the bytes that were read or written
  pub bytes : List ℕ
  -- the second path
  pub more : List ℕ

abbrev pub call : Event → List ℕ → List ℕ → Call
call what bytes more = record { what = what; bytes = bytes; more = more }

abbrev pub looked : List ℕ → Result FileStat Fault → Call
looked path answer = call (Looked answer) path []

abbrev pub followed : List ℕ → Result FileStat Fault → Call
followed path answer = call (Followed answer) path []

abbrev pub opened : List ℕ → How → Result Handle Fault → Call
opened path how answer = call (Opened how answer) path []

abbrev pub looked_at : Handle → Result FileStat Fault → Call
looked_at handle answer = call (LookedAt handle answer) [] []

-- the bytes that a read gave, of the room that it left
abbrev pub given : List ℕ → Result ℕ Fault → List ℕ
given room (Ok count) = take count room
given room (Err _) = []

abbrev pub read : Handle → (room : List ℕ) → Result ℕ Fault → Call
read handle room answer = call (Read handle answer) (given room answer) []

-- the path that was asked for stands behind the one that was answered
abbrev pub resolved : List ℕ → (room : List ℕ) → Result ℕ Fault → Call
resolved path room answer = call (Resolved answer) (given room answer) path

abbrev pub closed : Handle → Call
closed handle = call (Closed handle) [] []

abbrev pub told_time : Option Time → Call
told_time answer = call (Told answer) [] []

-- the read of a handle that gave these bytes
abbrev pub read_of : Handle → List ℕ → Call
read_of handle bytes = call (Read handle (Ok (length bytes))) bytes []

-- the one that failed
abbrev pub failed_read : Handle → Fault → Call
failed_read handle fault = call (Read handle (Err fault)) [] []

abbrev pub peeked : Handle → (asked : ℕ) → (room : List ℕ) → Result ℕ Fault → Call
peeked handle asked room answer = call (Peeked handle asked answer) (given room answer) []

-- the bytes that were to be written
abbrev pub wrote : Handle → List ℕ → Result ℕ Fault → Call
wrote handle bytes answer = call (Wrote handle answer) bytes []

abbrev pub told_terminal : Handle → Bool → Call
told_terminal handle answer = call (IsTerminal handle answer) [] []

abbrev pub synced : Handle → Result (Unit {0}) Fault → Call
synced handle answer = call (Synced handle answer) [] []

abbrev pub renamed : (from to : List ℕ) → Result (Unit {0}) Fault → Call
renamed from to answer = call (Renamed answer) from to

abbrev pub removed : List ℕ → Result (Unit {0}) Fault → Call
removed path answer = call (Removed answer) path []

abbrev pub locked : Handle → Result (Unit {0}) Fault → Call
locked handle answer = call (Locked handle answer) [] []

-- a path was opened or made as a disk, or that was tried in vain
abbrev pub opened_disk : List ℕ → (is_open : Bool) → Call
opened_disk path is_open = call (OpenedDisk is_open) path []

abbrev pub made_disk : List ℕ → (is_made : Bool) → Call
made_disk path is_made = call (MadeDisk is_made) path []

-- for a part of a command a path was given to a system of its own
abbrev pub apart : Part → List ℕ → Call
apart part path = call (Apart part) path []
