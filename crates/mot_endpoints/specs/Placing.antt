-- How a file that is written beside a path comes to its name, and what is removed for it. Each
-- relation goes from the calls that were made before to those that were made then.
use Rattle.std.specs.Prelude.{◌≡◌, ◌≢◌, ℕ, Bool, true, false, List, [], ◌∷◌, ◌++◌, Result, Ok, Err}
use Rattle.std.specs.Prelude.{◌==◌, ◌&&◌, if◌then◌else◌}
use Rattle.std.specs.IoError.{error_kind}
use Rattle.std.specs.declared.io.Error.{Error}
use Rattle.std.specs.declared.io.ErrorKind.{ErrorKind}
use Rattle.mot_endpoints.specs.declared.fault.PacketsFault.{PacketsFault}
use Rattle.mot_files.specs.Call.{Call, closed, followed, locked, looked, looked_at, opened, removed}
use Rattle.mot_files.specs.Placing.{Holds}
use Rattle.mot_files.specs.Reading.{IsSame}
use Rattle.mot_files.specs.declared.system.Fault.{Fault}
use Rattle.mot_files.specs.declared.system.Fault.TheVariants.{Absent, Busy, System}
use Rattle.mot_files.specs.declared.system.Handle.{Handle}
use Rattle.mot_files.specs.declared.system.How.TheVariants as How
use Rattle.mot_files.specs.declared.system.Kind.TheVariants.{File}
use Rattle.mot_files.specs.declared.system.FileStat.{FileStat}

-- why packets are not written, by what the system says
abbrev pub told_as : Fault → PacketsFault
told_as (Absent error) = PacketsFault.System error
told_as Busy = PacketsFault.InUse
told_as (System error) = PacketsFault.System error

-- packets are not written for want of memory
abbrev pub IsOfMemory : PacketsFault → Type 0
IsOfMemory fault = (error : Error) × (fault ≡ PacketsFault.System error)
    × (error_kind error ≡ ErrorKind.OutOfMemory)

-- what is answered, by what the system says
abbrev pub told_of : {A : Type 0} → Result A Fault → Result A PacketsFault
told_of (Ok value) = Ok value
told_of (Err fault) = Err (told_as fault)

-- the answer if nothing is there, and any other fault is handed on
abbrev pub unless_absent : {A : Type 0} → A → Fault → Result A PacketsFault
unless_absent answer (Absent error) = Ok answer
unless_absent answer fault = Err (told_as fault)

-- whether the file that was seen is what a path leads to, by what the system says of that
abbrev pub is_answer_of : FileStat → Result FileStat Fault → Bool
is_answer_of seen (Ok found) = (found.device == seen.device) && (found.number == seen.number)
is_answer_of seen (Err fault) = false

-- whether a path leads to the file that was seen
abbrev pub LeadsTo : (path : List ℕ) (seen : FileStat) → Bool → (old new : List Call) → Type 0
LeadsTo path seen is old new = (answer : Result FileStat Fault)
    × (new ≡ old ++ followed path answer ∷ []) × (is ≡ is_answer_of seen answer)

-- what calls come to, from those that were made before to those that were made then
abbrev pub Steps : (A E : Type 0) → Type 1
Steps A E = (result : Result A E) (old new : List Call) → Type 0

-- The second is done with the value of the first, if the first gave one.
pub data Then {A B E : Type 0} (First : Steps A E) (Second : A → Steps B E) (result : Result B E)
    (old new : List Call) : Type 0 where
  refused : (fault : E) → result ≡ Err fault → First (Err fault) old new
      → Then First Second result old new
  both : (value : A) (mid : List Call) → First (Ok value) old mid → Second value result mid new
      → Then First Second result old new

-- Whether a regular file stands at the path. What is none, and no link is one, is refused, and so
-- is the disk.
pub data Finds (path disk : List ℕ) (result : Result Bool PacketsFault) (old new : List Call) :
    Type 0 where
  unseen : (fault : Fault) → result ≡ unless_absent false fault
      → new ≡ old ++ looked path (Err fault) ∷ [] → Finds path disk result old new
  no_file : (named : FileStat) → result ≡ Err PacketsFault.NoFile → named.kind ≢ File
      → new ≡ old ++ looked path (Ok named) ∷ [] → Finds path disk result old new
  file : (named : FileStat) (is : Bool) → named.kind ≡ File
      → LeadsTo disk named is (old ++ looked path (Ok named) ∷ []) new
      → result ≡ (if is then Err PacketsFault.IsDisk else Ok true) → Finds path disk result old new

-- The file of the path is removed once its lock is taken, so that no other program writes it.
pub data RemovesUnused (path : List ℕ) (result : Result (Unit {0}) PacketsFault)
    (old new : List Call) : Type 0 where
  unopened : (fault : Fault) → result ≡ Err (told_as fault)
      → new ≡ old ++ opened path How.Read (Err fault) ∷ [] → RemovesUnused path result old new
  unlocked : (handle : Handle) (fault : Fault) → result ≡ Err (told_as fault)
      → new ≡ old ++ opened path How.Read (Ok handle) ∷ [] ++ locked handle (Err fault) ∷ []
      ++ closed handle ∷ [] → RemovesUnused path result old new
  tried : (handle : Handle) (answer : Result (Unit {0}) Fault) → result ≡ told_of answer
      → new ≡ old ++ opened path How.Read (Ok handle) ∷ [] ++ locked handle (Ok tt) ∷ []
      ++ removed path answer ∷ [] ++ closed handle ∷ [] → RemovesUnused path result old new

-- what is done with a file that is there; if none is, nothing
abbrev pub IfThere : {E : Type 0} → Steps (Unit {0}) E → (there : Bool) → Steps (Unit {0}) E
IfThere Does true result old new = Does result old new
IfThere Does false result old new = (result ≡ Ok tt) × (new ≡ old)

-- what a run left at the path that was killed is removed: a regular file that is not the disk
abbrev pub Clears : (path disk : List ℕ) → Steps (Unit {0}) PacketsFault
Clears path disk = Then (Finds path disk) (IfThere (RemovesUnused path))

-- A file is removed only if its path still names it.
pub data TakesAway (handle : Handle) (path : List ℕ) (old new : List Call) : Type 0 where
  unseen : (fault : Fault) → new ≡ old ++ looked path (Err fault) ∷ []
      → TakesAway handle path old new
  unheld : (named : FileStat) (fault : Fault)
      → new ≡ old ++ looked path (Ok named) ∷ [] ++ looked_at handle (Err fault) ∷ []
      → TakesAway handle path old new
  other : (named held : FileStat) → ¬ (IsSame held named)
      → new ≡ old ++ looked path (Ok named) ∷ [] ++ looked_at handle (Ok held) ∷ []
      → TakesAway handle path old new
  same : (named held : FileStat) (answer : Result (Unit {0}) Fault) → IsSame held named
      → new ≡ old ++ looked path (Ok named) ∷ [] ++ looked_at handle (Ok held) ∷ []
      ++ removed path answer ∷ [] → TakesAway handle path old new

-- A new file is made, and held. If it can't be held it is taken away.
pub data Makes (path : List ℕ) (result : Result Handle PacketsFault) (old new : List Call) :
    Type 0 where
  unmade : (fault : Fault) → result ≡ Err (told_as fault)
      → new ≡ old ++ opened path How.New (Err fault) ∷ [] → Makes path result old new
  unheld : (handle : Handle) (fault : Fault) (tried gone : List Call) → result ≡ Err (told_as fault)
      → Holds handle path (Err fault) (old ++ opened path How.New (Ok handle) ∷ []) tried
      → TakesAway handle path tried gone → new ≡ gone ++ closed handle ∷ []
      → Makes path result old new
  held : (handle : Handle) → result ≡ Ok handle
      → Holds handle path (Ok tt) (old ++ opened path How.New (Ok handle) ∷ []) new
      → Makes path result old new

-- so it is in the place of one that was left there
abbrev pub Begins : (path disk : List ℕ) → Steps Handle PacketsFault
Begins path disk = Then (Clears path disk) (λ _. Makes path)
