use Rattle.std.proofs.Common.{refl}
use Rattle.mot_devices.proofs.Looks.{if_none, if_some}
use Rattle.mot_devices.specs.Uses.IsUsed.{there}
use Rattle.mot_devices.proofs.using.use_of.Goals as goal

pub returns-clause-free : goal.returns-clause-free
returns-clause-free g c =
    if_none (λ free. record {
      inner = g.S.System.calls c.is_file_of_disk.new.system;
      apart = c.if-is_file_of_disk.ensures.apart refl;
      free = free;
    }) c.use_there.result c.use_there.ensures.free

pub returns-clause-used : goal.returns-clause-used
returns-clause-used g c =
    if_some (λ found. there (g.S.System.calls c.is_file_of_disk.new.system)
    (c.if-is_file_of_disk.ensures.apart refl)) c.use_there.result
    c.use_there.ensures.used
