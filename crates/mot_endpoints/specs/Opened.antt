-- What a command asks for before its disk is opened, by the calls of its host.
use Rattle.std.specs.Prelude.{ℕ, ◌≡◌, List, [], ◌∷◌, ◌++◌, Option, Some, None, Err, Bool, true}
use Rattle.std.specs.Prelude.{false, ◌⊎◌}
use Rattle.std.specs.Borrow.{Bor}
use Rattle.mot_endpoints.specs.Packets.{OpensPackets}
use Rattle.mot_endpoints.specs.declared.fault.Cause.{Cause}
use Rattle.mot_endpoints.specs.declared.fault.LinesFault.{LinesFault}
use Rattle.mot_endpoints.specs.LinePlaces.{ChecksLines}
use Rattle.mot_endpoints.specs.Texts.{AsksFirst, IsTextOf}
use Rattle.mot_endpoints.specs.declared.lines.OtherFiles.{OtherFiles}
use Rattle.mot_files.specs.Call.{Call, apart}
use Rattle.mot_files.specs.declared.system.Part.TheVariants as Part
use Rattle.mot_numbers.specs.declared.refusal.Refusal.{Refusal}
use Rattle.mot_numbers.specs.declared.refusal.Refusal.TheVariants.{DeviceFault, ReadFault}
use Rattle.mot_numbers.specs.declared.refusal.Refusal.TheVariants.{WriteFault}
use Rattle.mot_endpoints.specs.declared.copy.TheConstants.{MOST_COPIED}
use Rattle.mot_files.specs.Reading.{IsRead, IsUnread}
use Rattle.mot_files.specs.declared.reading.ReadFailure.{ReadFailure}

-- such calls of a system of its own were taken into the log
abbrev pub TakesIn : (List Call → Type 0) → (old new : List Call) → Type 0
TakesIn P old new = (calls : List Call) × P calls × (new ≡ old ++ calls)

-- What is asked for: the file that adds suffixes is read, and a folder of lines, one of objects, a
-- status, or what takes packets, is given to a system of its own.
pub data Need : Type 0 where
  types : (path : List ℕ) → Need
  lines : (path : List ℕ) → OtherFiles → Need
  folder : (path : List ℕ) → Need
  status : (path : List ℕ) → Need
  packets : (path disk : List ℕ) → (turns : Option ℕ) → Need

-- it was there
abbrev pub IsMet : Need → (old new : List Call) → Type 0
IsMet (types path) old new = (text : List ℕ) × IsTextOf path text old new
IsMet (lines path others) old new = new ≡ old ++ apart Part.Lines path ∷ []
IsMet (folder path) old new = new ≡ old ++ apart Part.Folder path ∷ []
IsMet (status path) old new = new ≡ old ++ apart Part.Status path ∷ []
IsMet (packets path disk turns) old new = new ≡ old ++ apart Part.Packets path ∷ []

-- it was asked for in vain, by these calls, and refused so
abbrev pub IsUnmet : Need → Refusal → (old new : List Call) → Type 0
IsUnmet (types path) r old new = (r ≡ ReadFault) × AsksFirst path old new
IsUnmet (lines path others) r old new = (r ≡ ReadFault) × ((fault : LinesFault)
    × TakesIn (ChecksLines path others (Err fault) []) old new)
IsUnmet (folder path) r old new = ⊥
IsUnmet (status path) r old new = ⊥
IsUnmet (packets path disk turns) r old new = (r ≡ WriteFault) × ((cause : Cause)
    × TakesIn (OpensPackets path disk turns (Err cause) []) old new)

-- each of these was there, one after the other
abbrev pub AreMet : List Need → (old new : List Call) → Type 0
AreMet [] old new = new ≡ old
AreMet (first ∷ rest) old new = (then : List Call) × IsMet first old then × AreMet rest then new

-- what is asked for by a path, if one is given
abbrev pub if_given : (List ℕ → Need) → Option (Bor (List ℕ)) → List Need
if_given need None = []
if_given need (Some path) = need path.now ∷ []

-- a refusal that is one of these
abbrev pub is_fault : Refusal → Bool
is_fault DeviceFault = true
is_fault ReadFault = true
is_fault WriteFault = true
is_fault refusal = false

-- Why no more of these was there than a beginning: the next one was asked for in vain, and the refusal
-- says so; or it is another one.
pub data BeginsTo (all : List Need) (refusal : Refusal) (old new : List Call) : Type 0 where
  vain : (first : List Need) (one : Need) (rest : List Need) (then : List Call)
      → first ++ one ∷ rest ≡ all → AreMet first old then → IsUnmet one refusal then new
      → BeginsTo all refusal old new
  unfit : (first rest : List Need) → first ++ rest ≡ all → is_fault refusal ≡ false
      → AreMet first old new → BeginsTo all refusal old new

-- Reading the file of a disk that is not opened as one. Each relation goes from the calls that were
-- made before to those that were made once it was done.

-- two reads of the file at the path gave these bytes, the second as the first
pub record IsReadAlike (path bytes : List ℕ) (old new : List Call) : Type 0 where
  pub between : List Call
  pub first : IsRead path MOST_COPIED true bytes old between
  pub second : IsRead path MOST_COPIED true bytes between new

-- it was tried to read the file at the path
abbrev pub TriesRead : (path : List ℕ) → (old new : List Call) → Type 0
TriesRead path old new = ((bytes : List ℕ) × IsRead path MOST_COPIED true bytes old new)
    ⊎ ((why : ReadFailure) × IsUnread path MOST_COPIED true why old new)

-- Nothing was asked for but reads of that file, two of them at most, and those only for a command
-- that looks.
abbrev pub TriesReads : (looks : Bool) → (path : List ℕ) → (old new : List Call) → Type 0
TriesReads false path old new = new ≡ old
TriesReads true path old new = (new ≡ old) ⊎ TriesRead path old new
    ⊎ ((between : List Call) × TriesRead path old between × TriesRead path between new)
