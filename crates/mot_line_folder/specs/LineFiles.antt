-- Which file is taken for one of lines, and whether it still has its name.
use Rattle.std.specs.Prelude.{◌≡◌, ◌≢◌, ◌≤◌, ◌⊎◌, ◌↔◌, ◌||◌, ℕ, Bool, true, false, IsTrue, nat_eq, if◌then◌else◌, List}
use Rattle.std.specs.Prelude.{[], ◌∷◌, ◌++◌, Result, Ok, Err, Option, None, Some, codes, suc, take}
use Rattle.std.specs.Prelude.{◌-◌, All, IsUtf8, drop, get_or, is_some, length}
use Rattle.std.specs.Str.{str_eq_ignore_ascii_case}
use Rattle.mot_files.specs.Call.{Call, closed, looked, looked_at, opened, peeked, removed}
use Rattle.mot_files.specs.Reading.{IsSame}
use Rattle.mot_files.specs.declared.system.Fault.{Fault}
use Rattle.mot_files.specs.declared.system.Fault.TheVariants.{Absent, Busy, System}
use Rattle.mot_files.specs.declared.system.Handle.{Handle}
use Rattle.mot_files.specs.declared.system.How.TheVariants as How
use Rattle.mot_files.specs.declared.system.Kind.TheVariants.{File}
use Rattle.mot_files.specs.declared.system.FileStat.{FileStat}
use Rattle.mot_line_folder.specs.declared.line_file.Found.{Found}
use Rattle.mot_line_folder.specs.declared.line_file.Found.TheVariants.{Gone, Left, Lines}
use Rattle.mot_line_folder.specs.declared.said.Stamp.{Stamp}
use Rattle.mot_lines.specs.Verb.{verb_of}
use Rattle.mot_numbers.specs.declared.refusal.Refusal.{Refusal}
use Rattle.mot_numbers.specs.declared.refusal.Refusal.TheVariants.{BadLine, ReadFault}
use Rattle.mot_line_folder.specs.declared.line_file.Reason.{Reason}
use Rattle.mot_line_folder.specs.declared.line_file.Reason.TheVariants.{NoFile, NoLine}
use Rattle.mot_line_folder.specs.declared.line_file.Reason.TheVariants.{Refused}

-- a file of this name is one of lines: it ends in `.lines`, whatever the case of these letters, and
-- does not begin with a dot
abbrev pub IsOfLines : List ℕ → Type 0
IsOfLines name = (6 ≤ length name) × (get_or name 0 0 ≢ 46)
    × (str_eq_ignore_ascii_case (drop (length name - 6) name) (codes ".lines") ≡ true)

-- a text in which no control character stands
abbrev pub IsPlain : List ℕ → Type 0
IsPlain name = IsUtf8 name × All (λ byte. (32 ≤ byte) × (byte ≢ 127)) name

-- the refusal of a file that is left for a reason
abbrev pub refusal_of : Reason → Refusal
refusal_of NoLine = BadLine
refusal_of NoFile = ReadFault
refusal_of (Refused fault) = ReadFault

-- what a refused call says of a path: only what is not there is gone
abbrev pub fault_found : Option FileStat → Fault → Found
fault_found named (Absent error) = Gone
fault_found named Busy = Left (Refused Busy) named
fault_found named (System error) = Left (Refused (System error)) named

-- how many bytes come before a space or a line end
abbrev pub word_len : List ℕ → ℕ
word_len [] = 0
word_len (x ∷ xs) = (if nat_eq x 32 || nat_eq x 10 then 0 else suc (word_len xs))

-- the first bytes of a file of lines: none, or those of a first word
abbrev pub Begins : List ℕ → Type 0
Begins start = (start ≡ []) ⊎ IsTrue (is_some (verb_of (take (word_len start) start)))

-- so many first bytes of a file of this length tell its first word: nine, which are one more than
-- the longest word has, or all
abbrev pub IsWholeFront : (count len : ℕ) → Type 0
IsWholeFront count len = (9 ≤ count) ⊎ (len ≤ count)

-- what an open file is, of which nine bytes are asked for
pub data IsLookedInto (handle : Handle) (named : FileStat) (found : Found) (old new : List Call) :
    Type 0 where
  unheld : (fault : Fault) → found ≡ Left (Refused fault) (Some named)
      → new ≡ old ++ looked_at handle (Err fault) ∷ [] → IsLookedInto handle named found old new
  other : (held : FileStat) → found ≡ Gone → ¬ (IsSame held named)
      → new ≡ old ++ looked_at handle (Ok held) ∷ [] → IsLookedInto handle named found old new
  unread : (held : FileStat) (room : List ℕ) (fault : Fault)
      → found ≡ Left (Refused fault) (Some named)
      → IsSame held named
      → new ≡ old ++ looked_at handle (Ok held) ∷ [] ++ peeked handle 9 room (Err fault) ∷ []
      → IsLookedInto handle named found old new
  cut : (held : FileStat) (room : List ℕ) (count : ℕ) → found ≡ Gone → IsSame held named
      → new ≡ old ++ looked_at handle (Ok held) ∷ [] ++ peeked handle 9 room (Ok count) ∷ []
      → ¬ (IsWholeFront count held.len) → IsLookedInto handle named found old new
  lines : (held : FileStat) (room : List ℕ) (count : ℕ) → found ≡ Lines handle → IsSame held named
      → new ≡ old ++ looked_at handle (Ok held) ∷ [] ++ peeked handle 9 room (Ok count) ∷ []
      → IsWholeFront count held.len → Begins (take count room)
      → IsLookedInto handle named found old new
  no_lines : (held : FileStat) (room : List ℕ) (count : ℕ) → found ≡ Left NoLine (Some named)
      → IsSame held named
      → new ≡ old ++ looked_at handle (Ok held) ∷ [] ++ peeked handle 9 room (Ok count) ∷ []
      → IsWholeFront count held.len → ¬ (Begins (take count room))
      → IsLookedInto handle named found old new

-- what stands at a path
pub data IsFound (path : List ℕ) (found : Found) (old new : List Call) : Type 0 where
  unseen : (fault : Fault) → found ≡ fault_found None fault
      → new ≡ old ++ looked path (Err fault) ∷ [] → IsFound path found old new
  none : (named : FileStat) → found ≡ Left NoFile (Some named) → named.kind ≢ File
      → new ≡ old ++ looked path (Ok named) ∷ [] → IsFound path found old new
  unopened : (named : FileStat) (fault : Fault) → found ≡ fault_found (Some named) fault
      → named.kind ≡ File
      → new ≡ old ++ looked path (Ok named) ∷ [] ++ opened path How.Read (Err fault) ∷ []
      → IsFound path found old new
  -- only a file of lines stays open
  kept : (named : FileStat) (handle of : Handle) → found ≡ Lines of → named.kind ≡ File
      → IsLookedInto handle named found
      (old ++ looked path (Ok named) ∷ [] ++ opened path How.Read (Ok handle) ∷ []) new
      → IsFound path found old new
  left : (named : FileStat) (handle : Handle) (inner : List Call)
      → ((of : Handle) → found ≢ Lines of) → named.kind ≡ File
      → IsLookedInto handle named found
      (old ++ looked path (Ok named) ∷ [] ++ opened path How.Read (Ok handle) ∷ []) inner
      → new ≡ inner ++ closed handle ∷ [] → IsFound path found old new

-- what distinguishes a file, by what the system says of it
abbrev pub IsStampOf : FileStat → Stamp → Type 0
IsStampOf seen stamp = (stamp.device ≡ seen.device) × (stamp.number ≡ seen.number)
    × (stamp.changed ≡ seen.changed)

-- what distinguishes an open file, if the system says it
pub data Stamps (handle : Handle) (stamp : Option Stamp) (old new : List Call) : Type 0 where
  unheld : (fault : Fault) → stamp ≡ None → new ≡ old ++ looked_at handle (Err fault) ∷ []
      → Stamps handle stamp old new
  held : (held : FileStat) (of : Stamp) → stamp ≡ Some of → IsStampOf held of
      → new ≡ old ++ looked_at handle (Ok held) ∷ [] → Stamps handle stamp old new

-- an open file is left: what distinguishes it is asked for, and then it is closed
pub record Leaves (handle : Handle) (stamp : Option Stamp) (old new : List Call) : Type 0 where
  pub inner : List Call
  pub seen : Stamps handle stamp old inner
  pub calls : new ≡ inner ++ closed handle ∷ []

-- what a refused look at a path says of whether it names a file
abbrev pub fault_named : Fault → Result Bool Fault
fault_named (Absent error) = Ok false
fault_named Busy = Err Busy
fault_named (System error) = Err (System error)

-- whether a path names an open file: it was looked at by its handle, and then by the path
pub data IsNamed (handle : Handle) (path : List ℕ) (result : Result Bool Fault)
    (old new : List Call) : Type 0 where
  unheld : (fault : Fault) → result ≡ Err fault → new ≡ old ++ looked_at handle (Err fault) ∷ []
      → IsNamed handle path result old new
  unseen : (held : FileStat) (fault : Fault) → result ≡ fault_named fault
      → new ≡ old ++ looked_at handle (Ok held) ∷ [] ++ looked path (Err fault) ∷ []
      → IsNamed handle path result old new
  seen : (held named : FileStat) (is : Bool) → result ≡ Ok is → (IsTrue is ↔ IsSame held named)
      → new ≡ old ++ looked_at handle (Ok held) ∷ [] ++ looked path (Ok named) ∷ []
      → IsNamed handle path result old new

-- what the system says of the removal of a file: what is gone is removed
abbrev pub unless_gone : Result (Unit {0}) Fault → Result (Unit {0}) Fault
unless_gone (Ok done) = Ok done
unless_gone (Err (Absent error)) = Ok tt
unless_gone (Err Busy) = Err Busy
unless_gone (Err (System error)) = Err (System error)

-- a path is removed only once it was seen to name the open file still
pub data Removes (handle : Handle) (path : List ℕ) (result : Result (Unit {0}) Fault)
    (old new : List Call) : Type 0 where
  named : (answer : Result (Unit {0}) Fault) (inner : List Call) → result ≡ unless_gone answer
      → IsNamed handle path (Ok true) old inner → new ≡ inner ++ removed path answer ∷ []
      → Removes handle path result old new
  other : result ≡ Ok tt → IsNamed handle path (Ok false) old new
      → Removes handle path result old new
  unknown : (fault : Fault) → result ≡ Err fault → IsNamed handle path (Err fault) old new
      → Removes handle path result old new

-- a file that was read to its end is removed so, and closed
pub record TakesAway (handle : Handle) (path : List ℕ) (result : Result (Unit {0}) Fault)
    (old new : List Call) : Type 0 where
  pub inner : List Call
  pub removes : Removes handle path result old inner
  pub calls : new ≡ inner ++ closed handle ∷ []
