use Rattle.std.proofs.Common.{refl}
use Rattle.mot_endpoints.proofs.packets.OpenPackets.reason.Goals as goal

pub returns-in-File-clause-told : goal.returns-in-File-clause-told
returns-in-File-clause-told g c =
    rw (c.in-File.is, c.in_ok-fault.was) (c.why.result, refl, c.why.ensures.told)
