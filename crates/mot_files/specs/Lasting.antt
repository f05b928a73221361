-- How a file of a folder is made to last, and then the folder's names. Each relation goes from the
-- calls that were made before to those that were made then.
use Rattle.std.specs.Prelude.{◌≡◌, ◌≢◌, ℕ, List, [], ◌∷◌, ◌++◌, Result, Ok, Err}
use Rattle.std.specs.IoError.{error_kind}
use Rattle.std.specs.declared.io.ErrorKind.TheVariants.{InvalidInput}
use Rattle.mot_files.specs.Call.{Call, closed, looked, opened, synced}
use Rattle.mot_files.specs.declared.reading.ReadFailure.{ReadFailure}
use Rattle.mot_files.specs.declared.reading.ReadFailure.TheVariants as unread
use Rattle.mot_files.specs.declared.system.Fault.{Fault}
use Rattle.mot_files.specs.declared.system.Fault.TheVariants.{Absent, Busy, System}
use Rattle.mot_files.specs.declared.system.Handle.{Handle}
use Rattle.mot_files.specs.declared.system.How.TheVariants as How
use Rattle.mot_files.specs.declared.system.Kind.TheVariants.{File}
use Rattle.mot_files.specs.declared.system.FileStat.{FileStat}

-- the system says that nothing there can be made to last
abbrev pub IsUnable : Result (Unit {0}) Fault → Type 0
IsUnable (Ok done) = ⊥
IsUnable (Err (Absent error)) = ⊥
IsUnable (Err Busy) = ⊥
IsUnable (Err (System error)) = error_kind error ≡ InvalidInput

-- what it answers of a sync is the result, but for that, which is none
pub data IsUnlessUnable (answer result : Result (Unit {0}) Fault) : Type 0 where
  unable : IsUnable answer → result ≡ Ok tt → IsUnlessUnable answer result
  told : ¬ (IsUnable answer) → result ≡ answer → IsUnlessUnable answer result

-- what stands at the path is opened, synced and closed
pub data SyncsPath (path : List ℕ) (result : Result (Unit {0}) Fault) (old new : List Call) :
    Type 0 where
  unopened : (fault : Fault) → result ≡ Err fault
      → new ≡ old ++ opened path How.Read (Err fault) ∷ [] → SyncsPath path result old new
  tried : (handle : Handle) (answer : Result (Unit {0}) Fault) → IsUnlessUnable answer result
      → new ≡ old ++ opened path How.Read (Ok handle) ∷ [] ++ synced handle answer ∷ []
      ++ closed handle ∷ [] → SyncsPath path result old new

-- why a file is not made to last, by what the system says
abbrev pub unread_of : Result (Unit {0}) Fault → Result (Unit {0}) ReadFailure
unread_of (Ok done) = Ok done
unread_of (Err fault) = Err (unread.System fault)

-- the same of a file, if a regular one stands at the path
pub data SyncsFile (path : List ℕ) (result : Result (Unit {0}) ReadFailure) (old new : List Call) :
    Type 0 where
  unnamed : (fault : Fault) → result ≡ Err (unread.System fault)
      → new ≡ old ++ looked path (Err fault) ∷ [] → SyncsFile path result old new
  none : (named : FileStat) → result ≡ Err unread.Changed → named.kind ≢ File
      → new ≡ old ++ looked path (Ok named) ∷ [] → SyncsFile path result old new
  tried : (named : FileStat) (answer : Result (Unit {0}) Fault) → named.kind ≡ File
      → result ≡ unread_of answer → SyncsPath path answer (old ++ looked path (Ok named) ∷ []) new
      → SyncsFile path result old new

-- first the file is made to last, and then the folder
pub data MakesLast (path folder : List ℕ) (result : Result (Unit {0}) ReadFailure)
    (old new : List Call) : Type 0 where
  lost : (why : ReadFailure) → result ≡ Err why → SyncsFile path (Err why) old new
      → MakesLast path folder result old new
  tried : (answer : Result (Unit {0}) Fault) (inner : List Call) → SyncsFile path (Ok tt) old inner
      → result ≡ unread_of answer → SyncsPath folder answer inner new
      → MakesLast path folder result old new
