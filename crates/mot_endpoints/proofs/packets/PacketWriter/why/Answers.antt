use Rattle.std.proofs.Common.{refl}
use Rattle.mot_endpoints.specs.Packets.TellsWhy.{refused, taken}
use Rattle.mot_endpoints.proofs.packets.PacketWriter.why.Goals as goal

pub returns-in-Ok-clause-told : goal.returns-in-Ok-clause-told
returns-in-Ok-clause-told g c = taken c.in-Ok.field-0 c.in-Cut.is refl c.in-Ok.ensures.noted

pub returns-in-Err-clause-told : goal.returns-in-Err-clause-told
returns-in-Err-clause-told g c =
    refused c.in-Err.fault c.in-Cut.is c.from.ensures c.in-Err.ensures.noted
