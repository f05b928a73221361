-- What is asked of the system while files of lines are read, one after the other.
use Rattle.std.specs.Prelude.{◌≡◌, ◌≢◌, ◌≤◌, ◌⊎◌, ℕ, Bool, true, false, IsTrue, List, [], ◌∷◌, ◌++◌, Result}
use Rattle.std.specs.Prelude.{Ok, Err, Option, None, Some, length, string_bytes, take}
use Rattle.std.specs.Result.{result_unwrap_or}
use Rattle.std.specs.declared.io.Error.{Error}
use Rattle.mot_files.specs.Call.{Call, closed, read}
use Rattle.mot_files.specs.Listing.{path_in}
use Rattle.mot_files.specs.Looking.{changes_nothing}
use Rattle.mot_files.specs.declared.system.Fault.{Fault}
use Rattle.mot_line_folder.specs.LineFiles.{IsFound, IsOfLines, IsPlain, Leaves, TakesAway}
use Rattle.mot_line_folder.specs.LineReads.{ReadsLines}
use Rattle.mot_line_folder.specs.Spool.{SpoolView}
use Rattle.mot_line_folder.specs.declared.line_file.Found.TheVariants.{Lines}
use Rattle.mot_line_folder.specs.declared.line_file.LineFile.{LineFile}
use Rattle.mot_line_folder.specs.declared.said.Stamp.{Stamp}

-- only calls that change nothing came between
pub data OnlyReads (old : List Call) : (new : List Call) → Type 0 where
  none : {new : List Call} → new ≡ old → OnlyReads old new
  more : {new : List Call} (mid : List Call) (call : Call) → OnlyReads old mid
      → IsTrue (changes_nothing call.what) → new ≡ mid ++ call ∷ [] → OnlyReads old new

-- a file stands in the folder, by a plain name of lines
pub record IsOfFolder (folder : List ℕ) (file : LineFile) : Type 0 where
  pub plain : IsPlain (string_bytes file.name)
  pub of_lines : IsOfLines (string_bytes file.name)
  pub path : string_bytes file.path ≡ path_in folder (string_bytes file.name)

-- the next file of lines in the folder: what stands at its path was looked for last, and it stayed
-- open
pub data Finds (folder : List ℕ) (found : Option LineFile) (old new : List Call) : Type 0 where
  nothing : found ≡ None → OnlyReads old new → Finds folder found old new
  one : (file : LineFile) (before after : List Call) → found ≡ Some file → IsOfFolder folder file
      → OnlyReads old before
      → IsFound (string_bytes file.path) (Lines file.handle) before after → OnlyReads after new
      → Finds folder found old new

-- what a read of this file comes to: bytes that are handed out, and it stays open; or its end, which
-- the system's read gave as no bytes, and then it is taken away; or a fault, and it is closed, and
-- what follows is torn if the fault came within a line
pub data ServesFile {E : Type 0} (file : LineFile) (after : Option LineFile) (torn : Bool)
    (result : Result ℕ E) (room : List ℕ) (old new : List Call) : Type 0 where
  given : (then : LineFile) (count : ℕ)
      → ReadsLines file.handle file.is_cut then.is_cut (Ok count) room old new
      → then.handle ≡ file.handle → then.path ≡ file.path → count ≢ 0 → result ≡ Ok count
      → after ≡ Some then → ServesFile file after torn result room old new
  ended : (is_cut : Bool) (inner : List Call) (taken : Result (Unit {0}) Fault)
      → ReadsLines file.handle file.is_cut is_cut (Ok 0) room old inner
      → TakesAway file.handle (string_bytes file.path) taken inner new → result ≡ Ok 0
      → after ≡ None → ServesFile file after torn result room old new
  failed : (is_cut : Bool) (inner : List Call) (fault : Fault) (error : E) (stamp : Option Stamp)
      → ReadsLines file.handle file.is_cut is_cut (Err fault) room old inner
      → Leaves file.handle stamp inner new → torn ≡ is_cut → result ≡ Err error → after ≡ None
      → ServesFile file after torn result room old new

-- what a read comes to: behind a torn line its end, of which no call is made; nothing, and no call,
-- once no more is read; or what a read of the open file comes to, or of the next one in the folder
pub data Serves {E : Type 0} (folder : List ℕ) (torn torn_then stopped : Bool)
    (open_file after : Option LineFile) (result : Result ℕ E) (room : List ℕ)
    (old new : List Call) : Type 0 where
  line_end : (count : ℕ) → torn ≡ true → result ≡ Ok count
      → (count ≡ 0) ⊎ (take count room ≡ 13 ∷ 10 ∷ []) → after ≡ open_file → new ≡ old
      → Serves folder torn torn_then stopped open_file after result room old new
  idle : torn ≡ false → (stopped ≡ true) ⊎ (room ≡ []) → result ≡ Ok 0 → after ≡ open_file
      → new ≡ old → Serves folder torn torn_then stopped open_file after result room old new
  unfound : torn ≡ false → stopped ≡ false → open_file ≡ None
      → (result ≡ Ok 0) ⊎ ((error : E) × (result ≡ Err error)) → after ≡ None → OnlyReads old new
      → Serves folder torn torn_then stopped open_file after result room old new
  on : (file : LineFile) → torn ≡ false → stopped ≡ false → open_file ≡ Some file
      → ServesFile file after torn_then result room old new
      → Serves folder torn torn_then stopped open_file after result room old new
  next : (file : LineFile) (inner : List Call) → torn ≡ false → stopped ≡ false
      → open_file ≡ None → Finds folder (Some file) old inner
      → ServesFile file after torn_then result room inner new
      → Serves folder torn torn_then stopped open_file after result room old new

-- the same between two moments, with how many bytes were given: none, where that came to a fault
abbrev pub ServesCount : (old new : SpoolView) (count : ℕ) (room : List ℕ) → Type 0
ServesCount old new count room =
    (got : Result ℕ Error) × (count ≡ result_unwrap_or got 0)
    × Serves old.folder old.torn new.torn old.stopped old.file new.file got room old.calls new.calls

-- one read between these moments gave these bytes, the first of a room
pub record GaveLines (old new : SpoolView) (bytes : List ℕ) : Type 0 where
  pub folder : new.folder ≡ old.folder
  pub count : ℕ
  pub room : List ℕ
  pub fits : count ≤ length room
  pub are : bytes ≡ take count room
  pub serves : ServesCount old new count room

-- what becomes of the file that is open once playing has ended: it is taken away if a further read
-- of it gives nothing and its last line has an end; else it is closed, and stays
pub data FinishesFile (file : LineFile) (old new : List Call) : Type 0 where
  ended : (room : List ℕ) (inner : List Call) (taken : Result (Unit {0}) Fault)
      → file.is_cut ≡ false → inner ≡ old ++ read file.handle room (Ok 0) ∷ []
      → TakesAway file.handle (string_bytes file.path) taken inner new → FinishesFile file old new
  cut : file.is_cut ≡ true → new ≡ old ++ closed file.handle ∷ [] → FinishesFile file old new
  goes_on : (room : List ℕ) (answer : Result ℕ Fault) → file.is_cut ≡ false → answer ≢ Ok 0
      → new ≡ old ++ read file.handle room answer ∷ [] ++ closed file.handle ∷ []
      → FinishesFile file old new

-- if one is open
pub data Finishes (open_file : Option LineFile) (old new : List Call) : Type 0 where
  none : open_file ≡ None → new ≡ old → Finishes open_file old new
  one : (file : LineFile) → open_file ≡ Some file → FinishesFile file old new
      → Finishes open_file old new
