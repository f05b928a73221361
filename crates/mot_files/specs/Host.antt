-- What the machine was asked for its files.
use Rattle.std.specs.Prelude.{List}
use Rattle.mot_files.specs.Call.{Call}
use Rattle.mot_files.specs.declared.host.HostSystem.{HostSystem}

-- the calls that were made, in order
abbrev pub calls_of : HostSystem → List Call
calls_of system = system.calls.all
