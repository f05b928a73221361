use Rattle.std.proofs.Common.{rules}
use Rattle.mot_endpoints.specs.LinePlaces.PacketsApart.{placed}
use Rattle.mot_endpoints.proofs.lines.check_packets.Goals as goal

pub returns : goal.returns
returns g c = placed (search rules) c.check_apart.ensures
