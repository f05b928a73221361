-- Looking at what paths of a system name. Each relation goes from the calls that were made before
-- to those that were made once it was done.
use Rattle.std.specs.Prelude.{◌≡◌, ◌≤◌, ℕ, Bool, true, false, List, [], ◌∷◌, ◌++◌, Ok, Err}
use Rattle.std.specs.Prelude.{All, length}
use Rattle.mot_files.specs.Call.{Call, closed, failed_read, opened, read_of}
use Rattle.mot_files.specs.Looking.{changes_nothing}
use Rattle.mot_files.specs.Reading.{joined, reads}
use Rattle.mot_files.specs.declared.system.Fault.{Fault}
use Rattle.mot_files.specs.declared.system.Handle.{Handle}
use Rattle.mot_files.specs.declared.system.How.{How}
use Rattle.mot_devices.specs.declared.tables.TheConstants.{MOST_OF_TABLE}

-- no call changed anything
pub record OnlyLooks (old new : List Call) : Type 0 where
  pub more : List Call
  pub calls : new ≡ old ++ more
  pub still : All (λ (call : Call). changes_nothing call.what ≡ true) more

-- a read that gave nothing, which is the last where all was read
abbrev pub last_read : (whole : Bool) → Handle → List Call
last_read true handle = read_of handle [] ∷ []
last_read false handle = []

-- What the path names was opened so, and gave these bytes, read by read, and then no more; or there
-- were as many as were wanted.
pub record WasRead (path : List ℕ) (way : How) (most : ℕ) (whole : Bool) (bytes : List ℕ)
    (old new : List Call) : Type 0 where
  pub first : List Call
  pub last : List Call
  pub handle : Handle
  pub chunks : List (List ℕ)
  pub given : bytes ≡ joined chunks
  pub enough : whole ≡ false → most ≤ length bytes
  pub calls : new ≡ old ++ first ++ opened path way (Ok handle) ∷ reads handle chunks
      ++ last_read whole handle ++ last

-- what the path names was not read: it was not opened so, or a read of it failed
pub data IsUnread (path : List ℕ) (way : How) (old new : List Call) : Type 0 where
  unopened : (fault : Fault) → new ≡ old ++ opened path way (Err fault) ∷ []
      → IsUnread path way old new
  failed : (fault : Fault) (handle : Handle) (chunks : List (List ℕ))
      → new ≡ old ++ opened path way (Ok handle) ∷ reads handle chunks
      ++ failed_read handle fault ∷ closed handle ∷ [] → IsUnread path way old new

-- the bytes that a table of the system has, or its first ones; none if it is not read
pub data IsTold (path : List ℕ) (way : How) (bytes : List ℕ) (old new : List Call) : Type 0 where
  told : (whole : Bool) → WasRead path way MOST_OF_TABLE whole bytes old new
      → IsTold path way bytes old new
  untold : bytes ≡ [] → IsUnread path way old new → IsTold path way bytes old new

-- this was done between some of the calls, and beside it nothing was changed
pub record Within (P : (old new : List Call) → Type 0) (old new : List Call) : Type 0 where
  pub first : List Call
  pub last : List Call
  pub before : OnlyLooks old first
  pub done : P first last
  pub behind : OnlyLooks last new
