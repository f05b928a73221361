use Rattle.std.proofs.Common.{◌∙◌, Err, Ok, ap}
use Rattle.mot_endpoints.proofs.Wrote.{writes_to-wrote}
use Rattle.mot_endpoints.specs.Packets.{writes_to}
use Rattle.mot_endpoints.proofs.packets.PacketWriterOutlet.write_once.Goals as goal

pub returns-in-Ok-clause-one : goal.returns-in-Ok-clause-one
returns-in-Ok-clause-one g c =
    ap (writes_to c.args.self.now.handle) c.in-Ok.ensures.noted
    ∙ writes_to-wrote c.args.self.now.handle c.args.bytes.now (Ok c.in-Ok.count)
    (g.S.System.calls c.args.self.now.system)

pub returns-in-Ok-2-clause-one : goal.returns-in-Ok-2-clause-one
returns-in-Ok-2-clause-one g c =
    ap (writes_to c.args.self.now.handle) c.in-Ok.ensures.noted
    ∙ writes_to-wrote c.args.self.now.handle c.args.bytes.now (Ok c.in-Ok.count)
    (g.S.System.calls c.args.self.now.system)

pub returns-in-Err-clause-one : goal.returns-in-Err-clause-one
returns-in-Err-clause-one g c =
    ap (writes_to c.args.self.now.handle) c.in-Err.ensures.noted
    ∙ writes_to-wrote c.args.self.now.handle c.args.bytes.now (Err c.in-Err.refused)
    (g.S.System.calls c.args.self.now.system)
