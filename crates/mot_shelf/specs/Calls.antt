-- Which calls a folder is listed and read by.
use Rattle.std.specs.Prelude.{◌≡◌, ◌≢◌, ◌<◌, ◌⊎◌, ℕ, Bool, false, List, [], ◌∷◌, ◌++◌, Option, Some, None}
use Rattle.std.specs.Prelude.{IsUtf8, Result, Ok, Err, codes, length}
use Rattle.std.specs.List.{slice_get}
use Rattle.std.specs.Str.{is_utf8}
use Rattle.std.specs.declared.io.Error.{Error}
use Rattle.mot_files.specs.Call.{Call, closed, failed_read, looked, opened, read}
use Rattle.mot_files.specs.Lasting.{MakesLast, SyncsPath}
use Rattle.mot_files.specs.Listing.{file_of, path_in}
use Rattle.mot_files.specs.Stamping.{IsReadStamped, IsUnreadStamped}
use Rattle.mot_files.specs.declared.reading.ReadFailure.{ReadFailure}
use Rattle.mot_files.specs.declared.system.Fault.{Fault}
use Rattle.mot_files.specs.declared.system.Handle.{Handle}
use Rattle.mot_files.specs.declared.system.How.TheVariants as How
use Rattle.mot_files.specs.declared.system.FileStat.{FileStat}
use Rattle.mot_files.specs.declared.system.Stamp.{Stamp}
use Rattle.mot_shelf.specs.declared.path.TheConstants.{LONGEST_PATH}

-- by which path a folder is opened, so that a link to it is followed: no path is none
abbrev pub folder_place : List ℕ → List ℕ
folder_place [] = []
folder_place (first ∷ rest) = path_in (first ∷ rest) (codes ".")

-- a name in the folder has no path: it is no text, or the path is longer than any that a system takes
abbrev pub HasNoPath : (path name : List ℕ) → Type 0
HasNoPath path name = (is_utf8 name ≡ false) ⊎ (LONGEST_PATH < length (path_in path name))

-- it was opened; or it was not, since the system refused that, or it has no path
abbrev pub FolderIsOpened : (path : List ℕ) → Result Handle Error → (old new : List Call) → Type 0
FolderIsOpened path (Ok handle) old new =
    new ≡ old ++ opened (folder_place path) How.Folder (Ok handle) ∷ []
FolderIsOpened path (Err error) old new =
    ((new ≡ old) × HasNoPath path (codes ".")) ⊎ ((fault : Fault) × (new
    ≡ old ++ opened (folder_place path) How.Folder (Err fault) ∷ []))

-- it was closed, if it was open
abbrev pub FolderIsClosed : Option Handle → (old new : List Call) → Type 0
FolderIsClosed None old new = new ≡ old
FolderIsClosed (Some handle) old new = new ≡ old ++ closed handle ∷ []

-- so many bytes of names came of the open folder; behind the last it is closed
pub data NamesAreRead (before after : Option Handle) (room : List ℕ) (count : ℕ)
    (old new : List Call) : Type 0 where
  some : (handle : Handle) → before ≡ Some handle → after ≡ before → count ≢ 0
      → new ≡ old ++ read handle room (Ok count) ∷ [] → NamesAreRead before after room count old new
  none : (handle : Handle) → before ≡ Some handle → after ≡ None → count ≡ 0
      → new ≡ old ++ read handle room (Ok count) ∷ [] ++ closed handle ∷ []
      → NamesAreRead before after room count old new

-- none came: no folder is open, or its read failed, and it stays open
pub data NamesAreUnread (before after : Option Handle) (old new : List Call) : Type 0 where
  none : before ≡ None → after ≡ before → new ≡ old → NamesAreUnread before after old new
  failed : (handle : Handle) (fault : Fault) → before ≡ Some handle → after ≡ before
      → new ≡ old ++ failed_read handle fault ∷ [] → NamesAreUnread before after old new

-- the stamp of a name in the folder, if it is that of a regular file: the system was asked for it, but
-- of a name that is no text
abbrev pub IsAsked : (path name : List ℕ) → Option Stamp → (old new : List Call) → Type 0
IsAsked path name stamp old new =
    ((stamp ≡ None) × (is_utf8 name ≡ false) × (new ≡ old))
    ⊎ ((answer : Result FileStat Fault) × (file_of answer ≡ Ok stamp)
    × (new ≡ old ++ looked (path_in path name) answer ∷ []))

-- why that is not told, which is so of a text alone: its path is too long, or the system refused to
-- look at it
pub record IsUnasked (path name : List ℕ) (old new : List Call) : Type 0 where
  pub text : IsUtf8 name
  pub calls : ((new ≡ old) × (LONGEST_PATH < length (path_in path name)))
      ⊎ ((fault : Fault) × (new ≡ old ++ looked (path_in path name) (Err fault) ∷ []))

-- the stamp that a name was answered with is kept beside it, if there is memory for it
abbrev pub IsSeen : (name : List ℕ) → Option Stamp → (old new : List (List ℕ × Stamp)) → Type 0
IsSeen name None old new = new ≡ old
IsSeen name (Some stamp) old new = (new ≡ old) ⊎ (new ≡ old ++ (name, stamp) ∷ [])

-- a name in the folder was looked at, or has no path
abbrev pub IsLookedAt : (path name : List ℕ) → (old new : List Call) → Type 0
IsLookedAt path name old new = ((new ≡ old) × HasNoPath path name)
    ⊎ ((answer : Result FileStat Fault) × (new ≡ old ++ looked (path_in path name) answer ∷ []))

-- a file of the folder had this stamp when it was asked for: no call is made, so one that changed since
-- is found by the next look at the latest
abbrev pub FileIsUnchanged : (seen : List (List ℕ × Stamp)) → (name : List ℕ) → Stamp → Type 0
FileIsUnchanged seen name stamp = (place : ℕ) × (slice_get seen place ≡ Some (name, stamp))

-- a file of the folder was read, and had this stamp before; and when it was not
abbrev pub FileIsRead : (path name : List ℕ) → (most : ℕ) → (at_once : Bool) → (bytes : List ℕ)
    → Option Stamp → (old new : List Call) → Type 0
FileIsRead path name most at_once bytes stamp old new =
    IsReadStamped (path_in path name) most at_once bytes stamp old new

abbrev pub FileIsUnread : (path name : List ℕ) → (most : ℕ) → (at_once : Bool) → ReadFailure
    → (old new : List Call) → Type 0
FileIsUnread path name most at_once unread old new = ((new ≡ old) × HasNoPath path name)
    ⊎ IsUnreadStamped (path_in path name) most at_once unread old new

-- a file of the folder was made to last, and then the folder; and when it was not
abbrev pub FileIsKept : (path name : List ℕ) → (old new : List Call) → Type 0
FileIsKept path name old new = MakesLast (path_in path name) path (Ok tt) old new

abbrev pub FileIsUnkept : (path name : List ℕ) → ReadFailure → (old new : List Call) → Type 0
FileIsUnkept path name unread old new = ((new ≡ old) × HasNoPath path name)
    ⊎ MakesLast (path_in path name) path (Err unread) old new

-- the names of the folder were made to last; and when they were not
abbrev pub NamesAreKept : (path : List ℕ) → (old new : List Call) → Type 0
NamesAreKept path old new = SyncsPath path (Ok tt) old new

abbrev pub NamesAreUnkept : (path : List ℕ) → (old new : List Call) → Type 0
NamesAreUnkept path old new = (fault : Fault) × SyncsPath path (Err fault) old new
