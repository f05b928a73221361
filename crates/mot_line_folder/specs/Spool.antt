-- What files of lines that are read one after the other have.
use Rattle.std.specs.Prelude.{ℕ, Bool, List, Option}
use Rattle.mot_files.specs.Call.{Call}
use Rattle.mot_line_folder.specs.declared.line_file.LineFile.{LineFile}
use Rattle.mot_line_folder.specs.declared.spool.Spool.{Spool}

-- what clauses see of it at one moment
pub record SpoolView : Type 0 where
  -- the path of their folder
  pub folder : List ℕ
  -- whether the reading of a file failed within a line
  pub torn : Bool
  -- whether no more is read
  pub stopped : Bool
  -- the file that is read
  pub file : Option LineFile
  -- the calls of the system of files so far
  pub calls : List Call

-- the system of files that they are in
abbrev pub spool_system : {S : Type 0} → Spool S → S
spool_system spool = spool.finder.system

-- the file that is read
abbrev pub open_file : {S : Type 0} → Spool S → Option LineFile
open_file spool = spool.«open»

abbrev pub spool_view : {S : Type 0} → (S → List Call) → Spool S → SpoolView
spool_view calls spool = record {
  folder = spool.finder.folder.now;
  torn = spool.is_torn;
  stopped = spool.is_stopped;
  file = open_file spool;
  calls = calls (spool_system spool);
}
