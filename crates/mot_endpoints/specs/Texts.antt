-- Reading the text of a file, and the suffixes that it adds. Each relation goes from the calls that
-- were made before to those that were made then.
use Rattle.std.specs.Prelude.{◌≡◌, ℕ, List, [], ◌∷◌, ◌++◌, Ok, Result, ◌≤◌, ◌⊎◌, length, Option}
use Rattle.std.specs.Prelude.{Some, None}
use Rattle.mot_files.specs.Call.{Call, closed, followed, looked_at, opened, read_of}
use Rattle.mot_files.specs.Reading.{IsSame, joined, reads}
use Rattle.mot_files.specs.declared.system.Fault.{Fault}
use Rattle.mot_files.specs.declared.system.Handle.{Handle}
use Rattle.mot_files.specs.declared.system.How.TheVariants as How
use Rattle.mot_files.specs.declared.system.Kind.TheVariants.{File}
use Rattle.mot_files.specs.declared.system.FileStat.{FileStat}
use Rattle.mot_numbers.specs.declared.refusal.Refusal.{Refusal}
use Rattle.mot_numbers.specs.declared.refusal.Refusal.TheVariants.{OutOfMemory, ReadFault}
use Rattle.mot_suffixes.specs.Types.{IsTypesRefusal, SuffixType, known_types, refusal_in, types_in}

-- a regular file was opened, the one that the path led to
pub record IsOpened (path : List ℕ) (handle : Handle) (old new : List Call) : Type 0 where
  pub named : FileStat
  pub held : FileStat
  pub regular : named.kind ≡ File
  pub same : IsSame held named
  pub calls : new ≡ old ++ followed path (Ok named) ∷ [] ++ opened path How.Read (Ok handle) ∷ []
      ++ looked_at handle (Ok held) ∷ []

-- a handle was read, one piece after the other, until a read gave nothing
pub record IsReadToEnd (handle : Handle) (text : List ℕ) (old new : List Call) : Type 0 where
  pub chunks : List (List ℕ)
  pub given : text ≡ joined chunks
  pub calls : new ≡ old ++ reads handle chunks ++ read_of handle [] ∷ []

-- all bytes of the regular file that the path led to, and it was closed again
pub record IsTextOf (path text : List ℕ) (old new : List Call) : Type 0 where
  pub handle : Handle
  pub opening : List Call
  pub inner : List Call
  pub opened : IsOpened path handle old opening
  pub read : IsReadToEnd handle text opening inner
  pub calls : new ≡ inner ++ closed handle ∷ []

-- calls were made, the first of which asked what the path leads to
pub record AsksFirst (path : List ℕ) (old new : List Call) : Type 0 where
  pub answer : Result FileStat Fault
  pub rest : List Call
  pub calls : new ≡ old ++ followed path answer ∷ rest

-- The suffixes of files that are objects.

-- the table of suffixes: the known ones and, where a file adds some, behind them all that a text of
-- at most 65,536 bytes says, no line of which is refused; that it is the file's no clause can say
abbrev pub IsTyped : {A : Type 0} → (types : Option A) → List SuffixType → Type 0
IsTyped None table = table ≡ known_types
IsTyped (Some types) table = (text : List ℕ) × (length text ≤ 65536) × (refusal_in text ≡ None)
    × (table ≡ known_types ++ types_in text)

-- why there is no table of suffixes: there is no memory for it; or the file that adds some, where
-- one is given, can't be read or is longer, or a line of it is wrong
abbrev pub IsUntyped : {A : Type 0} → (types : Option A) → Refusal → Type 0
IsUntyped None r = r ≡ OutOfMemory
IsUntyped (Some types) r = (r ≡ ReadFault) ⊎ IsTypesRefusal r
