-- A file that the program opened or made, as a disk.
use Rattle.std.specs.Prelude.{◌≡◌, ℕ, Bool, true, false, List, length, take}
use Rattle.disk_store.specs.Calls.{AreRight, Call, after_call, content_after, making_calls}
use Rattle.disk_store.specs.Calls.{no_content, opening_calls}
use Rattle.disk_store.specs.Content.{replayed_state}
use Rattle.disk_model.specs.Disk.{IsNew, State}
use Rattle.disk_store.specs.File.{calls_on, file_state}
use Rattle.disk_store.specs.declared.file.start.Start.{Ghosts}
use Rattle.disk_store.specs.declared.file.FileDiskFrom.{FileDiskFrom}

-- the calls that make a disk of a new file, and of one that was there
abbrev pub first_calls : Bool → ℕ → List Call
first_calls true len = making_calls len
first_calls false len = opening_calls len

-- these calls begin with those
abbrev pub BeginWith : List Call → List Call → Type 0
BeginWith first calls = take (length first) calls ≡ first

-- a file's disk after these calls, of which none failed, where the file held these bytes before
abbrev pub state_after : List ℕ → List Call → State
state_after bytes calls = replayed_state (after_call bytes) no_content calls
    (content_after bytes calls) (AreRight bytes calls no_content) 0 0

-- Calls on a file that held these bytes as it was opened, and what its disk is after them. They begin
-- with those of its making or opening, and then it was a new disk. Where one that was opened is as
-- long as those bytes, it held them.
pub record HasBegun (bytes : List ℕ) (is_new : Bool) (calls : List Call) (now : State) : Type 0
  where
    pub order : BeginWith (first_calls is_new now.len) calls
    pub new : IsNew (state_after bytes (first_calls is_new now.len)).bytes
        (state_after bytes (first_calls is_new now.len))
    pub first_bytes : is_new ≡ false → now.len ≡ length bytes
        → (state_after bytes (first_calls is_new now.len)).bytes ≡ bytes

-- the file was opened, and this holds between what the disk was then and what it is
pub record IsSinceOpened (bytes : List ℕ) (P : State → State → Type 0) (calls : List Call)
    (now : State) : Type 0 where
  pub begun : HasBegun bytes false calls now
  pub since : P (state_after bytes (first_calls false now.len)) now

-- it was made, so long, and this holds between what the disk was then and what it is
pub record IsSinceMade (bytes : List ℕ) (len : ℕ) (P : State → State → Type 0) (calls : List Call)
    (now : State) : Type 0 where
  pub begun : HasBegun bytes true calls now
  pub len_is : now.len ≡ len
  pub since : P (state_after bytes (first_calls true now.len)) now

-- a file that held these bytes as it was opened
module _ {S F : Type 0} {start : Ghosts S F} where
  -- what its disk was as it was made, or opened
  abbrev pub first_state : Bool → FileDiskFrom S F start → State
  first_state is_new disk = state_after start.bytes (first_calls is_new (file_state disk).len)

  abbrev pub HasFirstCalls : Bool → FileDiskFrom S F start → Type 0
  HasFirstCalls is_new disk = HasBegun start.bytes is_new (calls_on disk) (file_state disk)

  abbrev pub SinceOpened : (State → State → Type 0) → FileDiskFrom S F start → Type 0
  SinceOpened P disk = IsSinceOpened start.bytes P (calls_on disk) (file_state disk)

  abbrev pub SinceMade : ℕ → (State → State → Type 0) → FileDiskFrom S F start → Type 0
  SinceMade len P disk = IsSinceMade start.bytes len P (calls_on disk) (file_state disk)

  -- nothing was called on it but its making or opening
  pub record IsFirst (is_new : Bool) (disk : FileDiskFrom S F start) : Type 0 where
    pub order : calls_on disk ≡ first_calls is_new (file_state disk).len
    pub new : IsNew (file_state disk).bytes (file_state disk)
    pub first_bytes : is_new ≡ false → (file_state disk).len ≡ length start.bytes
        → (file_state disk).bytes ≡ start.bytes
