-- When the file of a path is read, and when it is not. Each relation goes from the calls that were
-- made before to those that were made once it was read, or was not.
use Rattle.std.specs.Prelude.{◌≡◌, ◌≢◌, ◌≤◌, ◌<◌, ℕ, Bool, true, false, List, [], ◌∷◌, ◌++◌}
use Rattle.std.specs.Prelude.{Ok, Err, Some, None, Option, length, ◌&&◌, ◌+◌, nat_le, nat_lt}
use Rattle.mot_files.specs.Call.{Call, closed, failed_read, looked, looked_at, opened, read_of, told_time}
use Rattle.mot_files.specs.declared.system.Fault.{Fault}
use Rattle.mot_files.specs.declared.system.Handle.{Handle}
use Rattle.mot_files.specs.declared.system.How.TheVariants as How
use Rattle.mot_files.specs.declared.system.Kind.TheVariants.{File}
use Rattle.mot_files.specs.declared.system.FileStat.{FileStat}
use Rattle.mot_files.specs.declared.system.Time.{Time}
use Rattle.mot_files.specs.declared.reading.ReadFailure.{ReadFailure}
use Rattle.mot_files.specs.declared.reading.ReadFailure.TheVariants.{Changed, NoMemory, System, TooLong, Young}

-- the reads of a handle that gave these bytes, one after the other
abbrev pub reads : Handle → List (List ℕ) → List Call
reads handle [] = []
reads handle (chunk ∷ chunks) = read_of handle chunk ∷ reads handle chunks

-- all their bytes
abbrev pub joined : List (List ℕ) → List ℕ
joined [] = []
joined (chunk ∷ chunks) = chunk ++ joined chunks

-- the same file, and a regular one
pub record IsSame (held named : FileStat) : Type 0 where
  pub regular : held.kind ≡ File
  pub device : held.device ≡ named.device
  pub number : held.number ≡ named.number

-- nothing of a file was changed between the two
pub record IsUnchanged (before after : FileStat) : Type 0 where
  pub len : before.len ≡ after.len
  pub written : before.written ≡ after.written
  pub changed : before.changed ≡ after.changed

-- the time of day, if it is known, is less than two seconds behind it, and not before it
abbrev pub is_recent : (written : Time) → (now : Option Time) → Bool
is_recent written None = false
is_recent written (Some now) =
    nat_le written.nanos now.nanos && nat_lt now.nanos (written.nanos + 2000000000)

-- whether a file is too young, for which the time of day is asked, but where any age will do
pub data AgeIs (at_once : Bool) (held : FileStat) (young : Bool) (old new : List Call) : Type 0 where
  any : at_once ≡ true → young ≡ false → new ≡ old → AgeIs at_once held young old new
  asked : (now : Option Time) → at_once ≡ false → young ≡ is_recent held.written now
      → new ≡ old ++ told_time now ∷ [] → AgeIs at_once held young old new

-- all bytes of an open file were read, one piece after the other, and it was as before
pub record IsTaken (handle : Handle) (held : FileStat) (bytes : List ℕ) (old new : List Call) :
    Type 0 where
  pub chunks : List (List ℕ)
  pub after : FileStat
  pub whole : length bytes ≡ held.len
  pub given : bytes ≡ joined chunks
  pub calls : new ≡ old ++ reads handle chunks ++ looked_at handle (Ok after) ∷ []
  pub unchanged : IsUnchanged held after

-- a handle was read until a read failed, or gave nothing, before there were so many bytes
pub data IsUnfilled (handle : Handle) (unread : ReadFailure) (len : ℕ) (old new : List Call) : Type 0 where
  failed : (chunks : List (List ℕ)) (fault : Fault) → unread ≡ System fault
      → length (joined chunks) < len
      → new ≡ old ++ reads handle chunks ++ failed_read handle fault ∷ []
      → IsUnfilled handle unread len old new
  ended : (chunks : List (List ℕ)) → unread ≡ Changed → length (joined chunks) < len
      → new ≡ old ++ reads handle chunks ++ read_of handle [] ∷ []
      → IsUnfilled handle unread len old new

-- why they were not
pub data IsUntaken (handle : Handle) (held : FileStat) (unread : ReadFailure) (old new : List Call) :
    Type 0 where
  no_memory : unread ≡ NoMemory → new ≡ old → IsUntaken handle held unread old new
  cut : IsUnfilled handle unread held.len old new → IsUntaken handle held unread old new
  lost : (chunks : List (List ℕ)) (fault : Fault) → unread ≡ System fault
      → length (joined chunks) ≡ held.len
      → new ≡ old ++ reads handle chunks ++ looked_at handle (Err fault) ∷ []
      → IsUntaken handle held unread old new
  changed : (chunks : List (List ℕ)) (after : FileStat) → unread ≡ Changed
      → length (joined chunks) ≡ held.len
      → new ≡ old ++ reads handle chunks ++ looked_at handle (Ok after) ∷ []
      → ¬ (IsUnchanged held after) → IsUntaken handle held unread old new

-- the bytes of an open file are these, which was seen at its path, and stayed as it was
pub record IsReadOpen (handle : Handle) (named : FileStat) (most : ℕ) (at_once : Bool)
    (bytes : List ℕ) (old new : List Call) : Type 0 where
  pub held : FileStat
  pub aged : List Call
  pub same : IsSame held named
  pub age : AgeIs at_once held false (old ++ looked_at handle (Ok held) ∷ []) aged
  pub few : held.len ≤ most
  pub taken : IsTaken handle held bytes aged new

-- why they were not read
pub data IsUnreadOpen (handle : Handle) (named : FileStat) (most : ℕ) (at_once : Bool)
    (unread : ReadFailure) (old new : List Call) : Type 0 where
  unheld : (fault : Fault) → unread ≡ System fault
      → new ≡ old ++ looked_at handle (Err fault) ∷ []
      → IsUnreadOpen handle named most at_once unread old new
  other : (held : FileStat) → unread ≡ Changed → ¬ (IsSame held named)
      → new ≡ old ++ looked_at handle (Ok held) ∷ []
      → IsUnreadOpen handle named most at_once unread old new
  young : (held : FileStat) → unread ≡ Young → IsSame held named
      → AgeIs at_once held true (old ++ looked_at handle (Ok held) ∷ []) new
      → IsUnreadOpen handle named most at_once unread old new
  long : (held : FileStat) → unread ≡ TooLong held.len → most < held.len → IsSame held named
      → AgeIs at_once held false (old ++ looked_at handle (Ok held) ∷ []) new
      → IsUnreadOpen handle named most at_once unread old new
  untaken : (held : FileStat) (aged : List Call) → IsSame held named → held.len ≤ most
      → AgeIs at_once held false (old ++ looked_at handle (Ok held) ∷ []) aged
      → IsUntaken handle held unread aged new
      → IsUnreadOpen handle named most at_once unread old new

-- the file of this path was read, and closed again
pub record IsRead (path : List ℕ) (most : ℕ) (at_once : Bool) (bytes : List ℕ)
    (old new : List Call) : Type 0 where
  pub named : FileStat
  pub handle : Handle
  pub inner : List Call
  pub regular : named.kind ≡ File
  pub within : IsReadOpen handle named most at_once bytes
      (old ++ looked path (Ok named) ∷ [] ++ opened path How.Read (Ok handle) ∷ []) inner
  pub calls : new ≡ inner ++ closed handle ∷ []

-- why it was not
pub data IsUnread (path : List ℕ) (most : ℕ) (at_once : Bool) (unread : ReadFailure)
    (old new : List Call) : Type 0 where
  unnamed : (fault : Fault) → unread ≡ System fault → new ≡ old ++ looked path (Err fault) ∷ []
      → IsUnread path most at_once unread old new
  -- what is no regular file is not opened
  none : (named : FileStat) → unread ≡ Changed → named.kind ≢ File
      → new ≡ old ++ looked path (Ok named) ∷ [] → IsUnread path most at_once unread old new
  unopened : (named : FileStat) (fault : Fault) → unread ≡ System fault → named.kind ≡ File
      → new ≡ old ++ looked path (Ok named) ∷ [] ++ opened path How.Read (Err fault) ∷ []
      → IsUnread path most at_once unread old new
  within : (named : FileStat) (handle : Handle) (inner : List Call) → named.kind ≡ File
      → IsUnreadOpen handle named most at_once unread
      (old ++ looked path (Ok named) ∷ [] ++ opened path How.Read (Ok handle) ∷ []) inner
      → new ≡ inner ++ closed handle ∷ []
      → IsUnread path most at_once unread old new
