-- What a folder gave between two moments, by the calls that were made between them.
use Rattle.std.specs.Prelude.{◌≡◌, ℕ, List, [], Option, Some, None, Ok, Err, is_some, take}
use Rattle.std.specs.declared.io.Error.{Error}
use Rattle.mot_files.specs.declared.reading.ReadFailure.{ReadFailure}
use Rattle.mot_files.specs.declared.system.Handle.{Handle}
use Rattle.mot_files.specs.declared.system.Stamp.{Stamp}
use Rattle.mot_shelf.specs.Calls.{FileIsKept, FileIsRead, FileIsUnchanged, FileIsUnkept, FileIsUnread}
use Rattle.mot_shelf.specs.Calls.{FolderIsClosed, FolderIsOpened, IsAsked, IsLookedAt, IsSeen}
use Rattle.mot_shelf.specs.Calls.{IsUnasked}
use Rattle.mot_shelf.specs.Calls.{NamesAreKept, NamesAreRead, NamesAreUnkept, NamesAreUnread}
use Rattle.mot_shelf.specs.Given.{Given, and_asked, and_failed, and_kept, and_kept_names, and_listed}
use Rattle.mot_shelf.specs.Given.{and_missed, and_read, and_unchanged, nothing}
use Rattle.mot_shelf.specs.View.{FolderView, afresh, and_calls}

-- The folder was asked for one thing, by these calls, and what it gave goes on so.
pub data Asks (old new : FolderView) (given after : Given) : Type 0 where
  closed : FolderIsClosed old.listing old.calls new.calls
      → new ≡ record old { listing = None; seen = []; calls = new.calls } → after ≡ given
      → Asks old new given after
  opened : (handle : Handle) → FolderIsOpened old.path (Ok handle) old.calls new.calls
      → new ≡ record old { listing = Some handle; calls = new.calls }
      → after ≡ and_listed given old.path → Asks old new given after
  unopened : (error : Error) → FolderIsOpened old.path (Err error) old.calls new.calls
      → new ≡ and_calls old new.calls → after ≡ and_failed given old.path
      → Asks old new given after
  named : (room : List ℕ) (count : ℕ)
      → NamesAreRead old.listing new.listing room count old.calls new.calls
      → new ≡ record old { listing = new.listing; calls = new.calls }
      → after ≡ and_listed given (take count room) → Asks old new given after
  unnamed : NamesAreUnread old.listing new.listing old.calls new.calls
      → new ≡ record old { listing = new.listing; calls = new.calls }
      → after ≡ and_failed given old.path → Asks old new given after
  asked : (name : List ℕ) (stamp : Option Stamp) → IsAsked old.path name stamp old.calls new.calls
      → IsSeen name stamp old.seen new.seen
      → new ≡ record old { seen = new.seen; calls = new.calls }
      → after ≡ and_asked given name (is_some stamp) → Asks old new given after
  unasked : (name : List ℕ) → IsUnasked old.path name old.calls new.calls
      → new ≡ and_calls old new.calls → after ≡ and_failed given name → Asks old new given after
  -- of what it names nothing follows
  looked_at : (name : List ℕ) → IsLookedAt old.path name old.calls new.calls
      → new ≡ and_calls old new.calls → after ≡ given → Asks old new given after
  unchanged : (name : List ℕ) (stamp : Stamp) → FileIsUnchanged old.seen name stamp → new ≡ old
      → after ≡ and_unchanged given name stamp → Asks old new given after
  read : (name bytes : List ℕ) (most : ℕ) (stamp : Option Stamp)
      → FileIsRead old.path name most old.at_once bytes stamp old.calls new.calls
      → new ≡ and_calls old new.calls → after ≡ and_read given name bytes stamp
      → Asks old new given after
  unread : (name : List ℕ) (most : ℕ) (why : ReadFailure)
      → FileIsUnread old.path name most old.at_once why old.calls new.calls
      → new ≡ and_calls old new.calls → after ≡ and_missed given name → Asks old new given after
  kept : (name : List ℕ) → FileIsKept old.path name old.calls new.calls
      → new ≡ and_calls old new.calls → after ≡ and_kept given name → Asks old new given after
  unkept : (name : List ℕ) (why : ReadFailure) → FileIsUnkept old.path name why old.calls new.calls
      → new ≡ and_calls old new.calls → after ≡ and_missed given name → Asks old new given after
  names_kept : NamesAreKept old.path old.calls new.calls
      → new ≡ and_calls old new.calls → after ≡ and_kept_names given old.path
      → Asks old new given after
  names_unkept : NamesAreUnkept old.path old.calls new.calls
      → new ≡ and_calls old new.calls → after ≡ and_failed given old.path
      → Asks old new given after

-- so it went on from one moment to another: it gave this first, and that then
pub data Gives (old : FolderView) (given : Given) : FolderView → Given → Type 0 where
  none : Gives old given old given
  more : {new : FolderView} {after : Given} (mid : FolderView) (then_given : Given)
      → Gives old given mid then_given → Asks mid new then_given after → Gives old given new after

-- whatever it gave before, it went on, and of that this is true
abbrev pub GoesOnSo : (old new : FolderView) → (Given → Given → Type 0) → Type 0
GoesOnSo old new IsSo = (given : Given) → (after : Given) × Gives old given new after × IsSo given after

-- what it gave since a moment is so, by what was asked for since then
abbrev pub GaveSo : (since now : FolderView) → (Given → Type 0) → Type 0
GaveSo since now IsSo = (given : Given) × Gives (afresh since) nothing now given × IsSo given
