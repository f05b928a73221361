use Rattle.std.proofs.Common.{◌≡◌, length}
use Rattle.mot_devices.specs.Mounts.{parts_of}
use Rattle.mot_devices.specs.Tables.{first_shown}
use Rattle.mot_devices.proofs.tables.first_name.Given as goal

abbrev pub invariant-loop-name : goal.invariant-loop-name
invariant-loop-name l = first_shown (parts_of 0 l.names) ≡ first_shown (parts_of 0 l.rest)

abbrev pub decreases-loop-name : goal.decreases-loop-name
decreases-loop-name l = length l.rest
