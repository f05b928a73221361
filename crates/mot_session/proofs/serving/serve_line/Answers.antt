use Rattle.mot_session.proofs.Each.{BreaksOff-told, ServesOne-told}
use Rattle.mot_session.proofs.serving.serve_line.Goals as goal

pub returns-clause-answered : goal.returns-clause-answered
returns-clause-answered g c =
    let new = c.respond.new.server in
    let line = c.args.line.now in
    ServesOne-told g.D.Disk.state c.args.server.now new _ _ line (g.met.D.Disk.sound new.disk)
    c.respond.result (c.respond.ensures.answers line c.parse_line.ensures)
    (c.respond.ensures.anyhow line c.parse_line.ensures) c.respond.ensures.goes

pub returns-clause-broken : goal.returns-clause-broken
returns-clause-broken g c =
    let new = c.respond.new.server in
    let line = c.args.line.now in
    BreaksOff-told g.D.Disk.state c.args.server.now new _ _ line (g.met.D.Disk.sound new.disk)
    c.respond.result (c.respond.ensures.answers line c.parse_line.ensures)
    (c.respond.ensures.anyhow line c.parse_line.ensures) c.respond.ensures.goes
