-- What the files of the machine in memory were asked for.
use Rattle.std.specs.Prelude.{List}
use Rattle.mot_files.specs.Call.{Call}
use Rattle.mot_memory_files.specs.declared.system.MachineSystem.{MachineSystem}

-- the calls that were made, in order
abbrev pub calls_of : MachineSystem → List Call
calls_of system = system.calls.all
