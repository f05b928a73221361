use Rattle.std.specs.Prelude.{◌≡◌, ◌≢◌, ◌≤◌, ◌<◌, ◌↔◌, ℕ, Bool, true, false, IsTrue, List, All}
use Rattle.std.specs.Prelude.{Contains, Option, None, length, ◌⊎◌, [], ◌∷◌, ◌++◌}
use Rattle.mot_line_folder.specs.declared.said.Stamp.{Stamp}
use Rattle.mot_line_folder.specs.declared.said.Told.{Told}
use Rattle.mot_line_folder.specs.declared.notices.Notice.{Notice}
use Rattle.mot_line_folder.specs.declared.notices.Notice.TheVariants as notice
use Rattle.mot_events.specs.declared.event.Why.{Why}
use Rattle.mot_events.specs.declared.event.Why.TheVariants.{Unsaid}
use Rattle.mot_numbers.specs.declared.refusal.Refusal.{Refusal}
use Rattle.mot_numbers.specs.declared.refusal.Refusal.TheVariants.{OutOfMemory}

-- The names of a folder about which the log has a line.

-- no entry is about the name
abbrev pub IsUntold : List Told → List ℕ → Type 0
IsUntold tolds name = All (λ told. told.name.items ≢ name) tolds

-- whether the log has no line yet about a file: its name has no entry, or one about another file, or
-- about the same one before it was changed
pub data IsDue (tolds : List Told) (name : List ℕ) (stamp : Option Stamp) (is : Bool) : Type 0 where
  known : (told : Told) → Contains tolds told → told.name.items ≡ name
      → (IsTrue is ↔ told.stamp ≢ stamp) → IsDue tolds name stamp is
  new : IsUntold tolds name → length tolds < 100 → is ≡ true → IsDue tolds name stamp is

-- whether a line about a file is due: as long as a hundred names suffice
pub data IsNew (tolds : List Told) (name : List ℕ) (stamp : Option Stamp) (is : Bool) : Type 0 where
  full : IsUntold tolds name → 100 ≤ length tolds → is ≡ false → IsNew tolds name stamp is
  due : IsDue tolds name stamp is → IsNew tolds name stamp is

-- an entry says that a read of this file failed, as it is, and was met
pub data Remembers (tolds : List Told) (name : List ℕ) (stamp : Option Stamp) : Type 0 where
  by : (told : Told) → Contains tolds told → told.name.items ≡ name → told.is_met ≡ true
      → told.unread ≡ stamp → Remembers tolds name stamp

-- whether an entry about a file says that a read of it failed, and that it was then as it is; what
-- was not seen is not known
pub data IsUnread (tolds : List Told) (name : List ℕ) (stamp : Option Stamp) (is : Bool) :
    Type 0 where
  unseen : stamp ≡ None → is ≡ false → IsUnread tolds name stamp is
  untold : IsUntold tolds name → is ≡ false → IsUnread tolds name stamp is
  told : (told : Told) → Contains tolds told → told.name.items ≡ name
      → (IsTrue is ↔ told.unread ≡ stamp) → IsUnread tolds name stamp is

-- What is to be told of a folder of files of lines, until it is.

-- It is about the file of this name, or, where there was no memory for the name, about the folder.
abbrev pub IsOfFile : (name : List ℕ) → Refusal → Why → Notice → Type 0
IsOfFile name refusal why n = (n ≡ notice.File name refusal why)
    ⊎ (n ≡ notice.Folder OutOfMemory Unsaid)

-- A further notice waits behind the others. Only where all of so many places are taken there may be
-- no memory for it.
abbrev pub Adds : (Notice → Type 0) → (room : ℕ) → (before after : List Notice) → Type 0
Adds is room before after =
    ((n : Notice) × is n × (after ≡ before ++ n ∷ [])) ⊎ ((after ≡ before) × (room ≤ length before))
