-- Which calls only look.
use Rattle.std.specs.Prelude.{Bool, true, false}
use Rattle.mot_files.specs.declared.system.Event.{Event}
use Rattle.mot_files.specs.declared.system.Event.TheVariants.{Apart, Locked, MadeDisk}
use Rattle.mot_files.specs.declared.system.Event.TheVariants.{Opened, OpenedDisk, Removed, Renamed}
use Rattle.mot_files.specs.declared.system.Event.TheVariants.{Synced, Wrote}
use Rattle.mot_files.specs.declared.system.How.{How}
use Rattle.mot_files.specs.declared.system.How.TheVariants as how

-- what is there is opened to be read, or as a folder
abbrev pub reads_only : How → Bool
reads_only how.Read = true
reads_only how.New = false
reads_only how.Stream = false
reads_only how.Folder = true
reads_only how.Output = false

-- the call changes nothing: no file is made, written, locked, renamed or removed by it, and none is
-- given to a disk or to another system
abbrev pub changes_nothing : Event → Bool
changes_nothing (Opened way answer) = reads_only way
changes_nothing (Wrote handle answer) = false
changes_nothing (Locked handle answer) = false
changes_nothing (Synced handle answer) = false
changes_nothing (Renamed answer) = false
changes_nothing (Removed answer) = false
changes_nothing (OpenedDisk is_open) = false
changes_nothing (MadeDisk is_made) = false
changes_nothing (Apart part) = false
changes_nothing event = true
