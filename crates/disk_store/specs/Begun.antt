-- A file's disk from its opening on, as a disk.
use Rattle.disk_model.specs.Disk.{State}
use Rattle.disk_store.specs.File.{file_state}
use Rattle.disk_store.specs.declared.file.start.Start as start
use Rattle.disk_store.specs.declared.file.begun.Beginning as beginning
use Rattle.disk_store.specs.declared.file.begun.BegunFile.{BegunFile}

-- all that contracts know of it as a disk
abbrev pub begun_state : {S K F : Type 0} {s : start.Ghosts S F} {k : beginning.Ghosts K}
    → BegunFile S K F s k → State
begun_state file = file_state file.disk
