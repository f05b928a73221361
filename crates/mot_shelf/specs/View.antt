-- A folder of a system of files, as it is listed and read.
use Rattle.std.specs.Prelude.{ℕ, Bool, List, [], None, Option}
use Rattle.mot_files.specs.Call.{Call}
use Rattle.mot_files.specs.declared.system.Handle.{Handle}
use Rattle.mot_files.specs.declared.system.Stamp.{Stamp}

pub record FolderView : Type 0 where
  pub path : List ℕ
  -- whether a file is read however young it is
  pub at_once : Bool
  -- the open folder, while its names are listed
  pub listing : Option Handle
  -- regular files that a look asked for, each with its stamp then
  pub seen : List (List ℕ × Stamp)
  -- the calls of the system so far
  pub calls : List Call

-- one of which nothing was asked so far, in a system of which that was
abbrev pub folder_at : (path : List ℕ) → (at_once : Bool) → List Call → FolderView
folder_at path at_once calls =
    record { path = path; at_once = at_once; listing = None; seen = []; calls = calls }

-- the same, with further calls
abbrev pub and_calls : FolderView → List Call → FolderView
and_calls f calls = record f { calls = calls }

-- the same, as a look finds it: what an earlier one asked for does not count
abbrev pub afresh : FolderView → FolderView
afresh f = record f { seen = [] }
