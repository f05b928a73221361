use Rattle.std.proofs.Common.{[], ◌++◌, subst}
use Rattle.disk_model.specs.Disk.{Rises}
use Rattle.mot_journal.specs.Journal.{standing_from}
use Rattle.mot_playout.specs.Playing.{bytes_of_packets}
use Rattle.mot_playout.proofs.Laws.{if_err, keeps_commands, passing}
use Rattle.mot_session.specs.Life.{AreRightReplies, commands_done}
use Rattle.mot_session.specs.Kept.{HoldsSince}
use Rattle.mot_session.proofs.Lives.{done_at, done_stands, kept_by, kept_first, lives_on, served_so}
use Rattle.mot_session.proofs.Lives.{some_of}
use Rattle.mot_session.proofs.life.serve_and_restart.Goals as goal

pub returns-clause-in_a_row : goal.returns-clause-in_a_row
returns-clause-in_a_row g c = λ geometry first_id done has honest.
    let state = g.D.Disk.state in
    let first = g.E.Disk.state c.args.left in
    let serve = c.serve-end.ensures in
    let opened = c.args.server.now in
    let new = c.serve-end.new.server in
    let all = served_so state g.met.D.Disk.sound
    (standing_from geometry first_id has.standing.rest) done
    has.standing has.after
    opened new c.args.reads (g.R.Read.remaining c.args.reader.now)
    (g.R.Read.remaining c.serve-end.new.reader)
    (g.W.Write.contents c.args.writer.now) (g.W.Write.contents c.serve-end.new.writer)
    c.serve-end.result.lines c.serve-end.result.fault honest
    (done_stands state geometry first_id done [] opened has)
    (done_at state geometry first_id done [] opened has) serve.faults
    serve.ended serve.unread (λ is. let e = serve.unwritten is in (e.0, e.1, some_of e.2))
    serve.none in
    let result = c.restart-restarted.result in
    let restarts = c.restart-restarted.ensures in
    let on = lives_on g.E.Disk.state result (λ r. r.server) (λ r. bytes_of_packets r.packets.items)
    geometry first_id first.bytes
    restarts.holds restarts.reads restarts.numbered in (
      all.0,
      all.1,
      all.2,
      all.3,
      all.5,
      λ two. subst (λ o. AreRightReplies
          (Rises (state opened.disk).failures (state new.disk).failures) geometry o all.2)
          (kept_by geometry first_id has.standing.rest done has.standing opened.view.halted
          has.after) (all.7 two),
      all.8,
      λ left. on has.standing.rest done (commands_done all.2 ++ all.3)
          (kept_first (λ t sure others.
          HoldsSince (state new.disk) t (standing_from geometry first_id has.standing.rest) sure
          others)
          (state opened.disk).moment done all.2 all.3 all.6.since first.bytes left),
      λ may. on has.standing.rest (done ++ commands_done all.2) all.3
          (all.6.at_end first.bytes may),
      λ image may. keeps_commands geometry first_id has.standing.rest _ _ image
          (all.6.at_end image may),
    )

pub returns-clause-opens : goal.returns-clause-opens
returns-clause-opens g c = λ geometry first_id done has honest left.
    let state = g.D.Disk.state in
    let first = g.E.Disk.state c.args.left in
    let serve = c.serve-end.ensures in
    let opened = c.args.server.now in
    let new = c.serve-end.new.server in
    let all = served_so state g.met.D.Disk.sound
    (standing_from geometry first_id has.standing.rest) done
    has.standing has.after
    opened new c.args.reads (g.R.Read.remaining c.args.reader.now)
    (g.R.Read.remaining c.serve-end.new.reader)
    (g.W.Write.contents c.args.writer.now) (g.W.Write.contents c.serve-end.new.writer)
    c.serve-end.result.lines c.serve-end.result.fault honest
    (done_stands state geometry first_id done [] opened has)
    (done_at state geometry first_id done [] opened has) serve.faults
    serve.ended serve.unread (λ is. let e = serve.unwritten is in (e.0, e.1, some_of e.2))
    serve.none in
    let stands = kept_first (λ t sure others.
    HoldsSince (state new.disk) t (standing_from geometry first_id has.standing.rest) sure others)
    (state opened.disk).moment done all.2 all.3 all.6.since first.bytes left in
    if_err _ _ c.restart-restarted.result
    (λ e why e_honest. passing first (g.E.Disk.state e.disk) stands.last e.refusal e_honest
    stands.image_is why)
    c.restart-restarted.ensures.refused

pub returns-clause-ends : goal.returns-clause-ends
returns-clause-ends g c = (c.serve-end.ensures.faults, λ is. (c.serve-end.ensures.none is).0)
