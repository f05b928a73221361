-- How a file that was written beside a path takes its place.
use Rattle.std.specs.Prelude.{◌≡◌, ℕ, List, [], ◌∷◌, ◌++◌, Result, Ok, Err}
use Rattle.mot_files.specs.Call.{Call, closed, locked, looked, looked_at, opened, removed, renamed, synced}
use Rattle.mot_files.specs.declared.system.Fault.{Fault}
use Rattle.mot_files.specs.Reading.{IsSame}
use Rattle.mot_files.specs.Writing.{Writes}
use Rattle.mot_files.specs.declared.system.Fault.TheVariants.{Busy}
use Rattle.mot_files.specs.declared.system.Handle.{Handle}
use Rattle.mot_files.specs.declared.system.FileStat.{FileStat}
use Rattle.mot_files.specs.declared.system.How.TheVariants as How

-- The lock of the file is taken, and the path names it, once it is.
pub data Holds (handle : Handle) (beside : List ℕ) (result : Result (Unit {0}) Fault)
    (old new : List Call) : Type 0 where
  unlocked : (fault : Fault) → result ≡ Err fault → new ≡ old ++ locked handle (Err fault) ∷ []
      → Holds handle beside result old new
  unnamed : (fault : Fault) → result ≡ Err fault
      → new ≡ old ++ locked handle (Ok tt) ∷ [] ++ looked beside (Err fault) ∷ []
      → Holds handle beside result old new
  unseen : (named : FileStat) (fault : Fault) → result ≡ Err fault
      → new ≡ old ++ locked handle (Ok tt) ∷ [] ++ looked beside (Ok named) ∷ []
      ++ looked_at handle (Err fault) ∷ [] → Holds handle beside result old new
  other : (named held : FileStat) → result ≡ Err Busy → ¬ (IsSame held named)
      → new ≡ old ++ locked handle (Ok tt) ∷ [] ++ looked beside (Ok named) ∷ []
      ++ looked_at handle (Ok held) ∷ [] → Holds handle beside result old new
  held : (named held : FileStat) → result ≡ Ok tt → IsSame held named
      → new ≡ old ++ locked handle (Ok tt) ∷ [] ++ looked beside (Ok named) ∷ []
      ++ looked_at handle (Ok held) ∷ [] → Holds handle beside result old new

-- The file is synced, renamed, and the folder of its name is synced. What follows on a call that
-- failed is not done.
pub data Places (handle : Handle) (beside path folder : List ℕ) (result : Result (Unit {0}) Fault)
    (old new : List Call) : Type 0 where
  unsynced : (fault : Fault) → result ≡ Err fault → new ≡ old ++ synced handle (Err fault) ∷ []
      → Places handle beside path folder result old new
  unnamed : (fault : Fault) → result ≡ Err fault
      → new ≡ old ++ synced handle (Ok tt) ∷ [] ++ renamed beside path (Err fault) ∷ []
      → Places handle beside path folder result old new
  unopened : (fault : Fault) → result ≡ Err fault
      → new ≡ old ++ synced handle (Ok tt) ∷ [] ++ renamed beside path (Ok tt) ∷ []
      ++ opened folder How.Read (Err fault) ∷ []
      → Places handle beside path folder result old new
  placed : (inside : Handle)
      → new ≡ old ++ synced handle (Ok tt) ∷ [] ++ renamed beside path (Ok tt) ∷ []
      ++ opened folder How.Read (Ok inside) ∷ [] ++ synced inside result ∷ [] ++ closed inside ∷ []
      → Places handle beside path folder result old new

-- A file of this text is made, which was not there, and renamed once it is whole. It is not synced.
-- If it could not be finished it is removed.
pub data Replaces (beside path text : List ℕ) (result : Result (Unit {0}) Fault)
    (old new : List Call) : Type 0 where
  unmade : (fault : Fault) → result ≡ Err fault → new ≡ old ++ opened beside How.New (Err fault) ∷ []
      → Replaces beside path text result old new
  unwritten : (handle : Handle) (fault : Fault) (gone : Result (Unit {0}) Fault) (inner : List Call)
      → result ≡ Err fault
      → Writes handle (Err fault) inner text (old ++ opened beside How.New (Ok handle) ∷ [])
      → new ≡ inner ++ closed handle ∷ [] ++ removed beside gone ∷ []
      → Replaces beside path text result old new
  unnamed : (handle : Handle) (fault : Fault) (gone : Result (Unit {0}) Fault) (inner : List Call)
      → result ≡ Err fault
      → Writes handle (Ok tt) inner text (old ++ opened beside How.New (Ok handle) ∷ [])
      → new ≡ inner ++ closed handle ∷ [] ++ renamed beside path (Err fault) ∷ []
      ++ removed beside gone ∷ [] → Replaces beside path text result old new
  replaced : (handle : Handle) (inner : List Call) → result ≡ Ok tt
      → Writes handle (Ok tt) inner text (old ++ opened beside How.New (Ok handle) ∷ [])
      → new ≡ inner ++ closed handle ∷ [] ++ renamed beside path (Ok tt) ∷ []
      → Replaces beside path text result old new
