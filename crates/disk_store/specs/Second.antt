-- The second of two files, as a task leaves it.
use Rattle.std.specs.declared.io.Error.{Error}
use Rattle.std.specs.Prelude.{◌≡◌, ℕ, Bool, List, Option}
use Rattle.disk_model.specs.Disk.{State}
use Rattle.disk_store.specs.Beginning.{HasBegun, IsSinceMade, IsSinceOpened}
use Rattle.disk_store.specs.Calls.{AreRight, Call, after_call, content_after, no_content}
use Rattle.disk_store.specs.Content.{replayed_state}
use Rattle.disk_store.specs.File.{held_calls, held_fault}
use Rattle.disk_store.specs.declared.file.FileDiskFrom.{FileDiskFrom}
use Rattle.disk_store.specs.declared.file.SecondDisk.{SecondDisk}
use Rattle.disk_store.specs.declared.file.start.Start.{Ghosts}

-- it held these other bytes as it was opened, if it was not made
module _ {S F : Type 0} {start : Ghosts S F} where
  -- the calls so far, with their answers
  abbrev pub second_calls : SecondDisk S F start → List Call
  second_calls disk = held_calls disk.file

  -- all that contracts know of it as a disk
  abbrev pub second_state : SecondDisk S F start → State
  second_state disk = replayed_state (after_call start.others) no_content (second_calls disk)
      (content_after start.others (second_calls disk))
      (AreRight start.others (second_calls disk) no_content) disk.failures disk.calls.number

  -- why the first call of the system that failed did so
  abbrev pub second_fault : SecondDisk S F start → Option Error
  second_fault disk = held_fault disk.file

  -- it is what this disk was after its last call: its file, and its counts of failures and calls
  abbrev pub IsLeftOf : {T : Type 0} {begun : Ghosts T F} → SecondDisk S F start → FileDiskFrom T F begun
      → Type 0
  IsLeftOf second disk =
      (second.file ≡ disk.file) × (second.failures ≡ disk.failures) × (second.calls ≡ disk.calls)

  -- it was made, or opened
  abbrev pub HasSecondCalls : Bool → SecondDisk S F start → Type 0
  HasSecondCalls is_new disk = HasBegun start.others is_new (second_calls disk) (second_state disk)

  -- and this holds between what the disk was then and what it is
  abbrev pub SinceSecondOpened : (State → State → Type 0) → SecondDisk S F start → Type 0
  SinceSecondOpened P disk =
      IsSinceOpened start.others P (second_calls disk) (second_state disk)

  abbrev pub SinceSecondMade : ℕ → (State → State → Type 0) → SecondDisk S F start → Type 0
  SinceSecondMade len P disk =
      IsSinceMade start.others len P (second_calls disk) (second_state disk)
