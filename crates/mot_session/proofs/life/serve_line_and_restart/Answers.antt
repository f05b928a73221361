use Rattle.std.proofs.Common.{◌++◌}
use Rattle.mot_playout.specs.Playing.{bytes_of_packets}
use Rattle.mot_playout.proofs.Laws.{if_err, passing}
use Rattle.mot_session.proofs.Lives.{lives_on}
use Rattle.mot_session.proofs.OneLine.{line_told}
use Rattle.mot_session.proofs.life.serve_line_and_restart.Goals as goal

pub returns-clause-told : goal.returns-clause-told
returns-clause-told g c = λ geometry first_id done others has honest.
    let state = g.D.Disk.state in
    let first = g.E.Disk.state c.args.left in
    let line = c.serve_line-answered in
    let all = line_told state g.met.D.Disk.sound geometry first_id done others c.args.server.now
    line.new.server c.args.line.now (g.W.Write.contents c.args.writer.now)
    (g.W.Write.contents line.new.writer) has honest _ _ line.result line.ensures.answered
    line.ensures.broken in
    let restarts = c.restart-restarted.ensures in
    let on = lives_on g.E.Disk.state c.restart-restarted.result (λ r. r.server)
    (λ r. bytes_of_packets r.packets.items) geometry first_id first.bytes
    restarts.holds restarts.reads restarts.numbered in (
      all.0,
      all.1,
      all.2,
      all.3.cause,
      all.3.has_done,
      λ left. on has.standing.rest done (others ++ (all.0 ++ all.1)) (all.3.since first.bytes left),
      λ may. on all.3.has_done.standing.rest (done ++ all.0) (others ++ all.1)
          (all.3.has_done.leaves first.bytes may),
    )

pub returns-clause-opens : goal.returns-clause-opens
returns-clause-opens g c = λ geometry first_id done others has honest left.
    let state = g.D.Disk.state in
    let first = g.E.Disk.state c.args.left in
    let line = c.serve_line-answered in
    let all = line_told state g.met.D.Disk.sound geometry first_id done others c.args.server.now
    line.new.server c.args.line.now (g.W.Write.contents c.args.writer.now)
    (g.W.Write.contents line.new.writer) has honest _ _ line.result line.ensures.answered
    line.ensures.broken in
    let stands = all.3.since first.bytes left in
    if_err _ _ c.restart-restarted.result
    (λ e why e_honest. passing first (g.E.Disk.state e.disk) stands.last e.refusal e_honest
    stands.image_is why)
    c.restart-restarted.ensures.refused
