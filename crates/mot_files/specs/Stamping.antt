-- By what it is told that a file has the bytes that it had.
use Rattle.std.specs.Prelude.{◌≡◌, ◌&&◌, ◌+◌, Bool, false, List, [], ◌∷◌, ◌++◌, nat_le}
use Rattle.std.specs.Prelude.{Option, Some, None, ℕ, if◌then◌else◌}
use Rattle.mot_files.specs.Call.{Call, told_time}
use Rattle.mot_files.specs.Reading.{IsRead, IsUnread}
use Rattle.mot_files.specs.declared.reading.ReadFailure.{ReadFailure}
use Rattle.mot_files.specs.declared.system.FileStat.{FileStat}
use Rattle.mot_files.specs.declared.system.Stamp.{Stamp}
use Rattle.mot_files.specs.declared.system.Time.{Time}

abbrev pub stamp_of : FileStat → Stamp
stamp_of seen = record {
  device = seen.device;
  number = seen.number;
  len = seen.len;
  written = seen.written;
  changed = seen.changed;
}

-- the time of day is known, and two seconds behind it, or more
abbrev pub is_past : Time → (now : Option Time) → Bool
is_past time None = false
is_past time (Some now) = nat_le (time.nanos + 2000000000) now.nanos

-- The stamp of a file whose last change is two seconds ago, or longer; of another file none: a
-- further change could bear the same time.
abbrev pub stamp_at : FileStat → (now : Option Time) → Option Stamp
stamp_at seen now =
    if is_past seen.written now && is_past seen.changed now then Some (stamp_of seen) else None

-- The file of this path was read, and had this stamp before, if it had one: the system was asked for
-- the time of day, and then for the file. And when it was not read.
abbrev pub IsReadStamped : (path : List ℕ) → (most : ℕ) → (at_once : Bool) → (bytes : List ℕ)
    → Option Stamp → (old new : List Call) → Type 0
IsReadStamped path most at_once bytes stamp old new = (now : Option Time)
    × (is : IsRead path most at_once bytes (old ++ told_time now ∷ []) new)
    × (stamp ≡ stamp_at is.named now)

abbrev pub IsUnreadStamped : (path : List ℕ) → (most : ℕ) → (at_once : Bool) → ReadFailure
    → (old new : List Call) → Type 0
IsUnreadStamped path most at_once unread old new =
    (now : Option Time) × IsUnread path most at_once unread (old ++ told_time now ∷ []) new
