-- What the names of a folder stand for.
use Rattle.std.specs.Prelude.{ℕ, List, [], ◌∷◌, ◌++◌, Bool, true, false, Result, Ok, Err}
use Rattle.std.specs.Prelude.{Option, Some, None, if◌then◌else◌}
use Rattle.mot_files.specs.declared.system.Fault.{Fault}
use Rattle.mot_files.specs.declared.system.Fault.TheVariants.{Absent, Busy, System}
use Rattle.mot_files.specs.declared.system.Kind.{Kind}
use Rattle.mot_files.specs.declared.system.Kind.TheVariants.{File, Folder, Link, Pipe, Special}
use Rattle.mot_files.specs.declared.system.FileStat.{FileStat}
use Rattle.mot_files.specs.declared.system.Stamp.{Stamp}
use Rattle.mot_files.specs.Stamping.{stamp_of}

abbrev pub is_file_kind : Kind → Bool
is_file_kind File = true
is_file_kind Folder = false
is_file_kind Link = false
is_file_kind Pipe = false
is_file_kind Special = false

-- the stamp of what a name names, if that is a regular file, by what the system says of it: only what
-- is not there is no file
abbrev pub file_of : Result FileStat Fault → Result (Option Stamp) Fault
file_of (Ok named) = Ok (if is_file_kind named.kind then Some (stamp_of named) else None)
file_of (Err (Absent error)) = Ok None
file_of (Err Busy) = Err Busy
file_of (Err (System error)) = Err (System error)

-- the path of a file of this name in a folder: a slash stands between them
abbrev pub path_in : (folder name : List ℕ) → List ℕ
path_in folder name = (folder ++ 47 ∷ []) ++ name
