use Rattle.mot_playout.proofs.Laws.{not_halted}
use Rattle.mot_session.proofs.Answered.{Answers-accepted, Answers-refused_command}
use Rattle.mot_session.proofs.Answered.{crosses-accepted, crosses-refused, stays_halted}
use Rattle.mot_session.proofs.Anyhow.{anyhow-accepted, anyhow-refused}
use Rattle.mot_session.proofs.deciding.decide_command.Goals as goal

pub returns-in-Ok-clause-decides : goal.returns-in-Ok-clause-decides
returns-in-Ok-clause-decides g c = λ s stands honest.
    let state = g.D.Disk.state in
    let run = c.in-Ok.ensures in
    let holds = stands.holds run.going in
    let step = run.ok s holds in
    Answers-accepted c.args.server.now c.execute.new.self s (state c.args.server.now.disk)
    (state c.execute.new.self.disk) c.args.command.now stands
    run.keeps.frame.later c.in-Ok.done run.answered run.going step.0 step.1 step.2
    (run.place s step.0 holds step.2.agrees step.1)

pub returns-in-Err-clause-decides : goal.returns-in-Err-clause-decides
returns-in-Err-clause-decides g c = λ s stands honest.
    let state = g.D.Disk.state in
    let run = c.in-Err.ensures in
    Answers-refused_command c.args.server.now c.execute.new.self s (state c.args.server.now.disk)
    (state c.execute.new.self.disk) c.args.command.now stands
    run.keeps.frame.later c.in-Err.refusal run.answered run.stays honest

pub returns-in-Ok-clause-anyhow : goal.returns-in-Ok-clause-anyhow
returns-in-Ok-clause-anyhow g c =
    let state = g.D.Disk.state in
    anyhow-accepted c.args.server.now.view c.execute.new.self.view (state c.args.server.now.disk)
    (state c.execute.new.self.disk) c.args.command.now c.in-Ok.done c.in-Ok.ensures.going
    c.in-Ok.ensures.answered

pub returns-in-Err-clause-anyhow : goal.returns-in-Err-clause-anyhow
returns-in-Err-clause-anyhow g c =
    let state = g.D.Disk.state in
    anyhow-refused c.args.server.now.view c.execute.new.self.view (state c.args.server.now.disk)
    (state c.execute.new.self.disk) c.args.command.now c.in-Err.refusal
    c.in-Err.ensures.answered

pub returns-in-Ok-clause-writes : goal.returns-in-Ok-clause-writes
returns-in-Ok-clause-writes g c =
    let state = g.D.Disk.state in
    let run = c.in-Ok.ensures in
    record {
      crosses = λ s holds.
          crosses-accepted c.args.server.now.view.journal.layout s (state c.args.server.now.disk)
          (state c.execute.new.self.disk) c.args.command.now c.in-Ok.done (run.any_moment s holds);
      halted = λ is. absurd (not_halted c.args.server.now.view.halted is run.going);
      keeps = run.keeps.frame;
    }

pub returns-in-Err-clause-writes : goal.returns-in-Err-clause-writes
returns-in-Err-clause-writes g c =
    let state = g.D.Disk.state in
    let old = c.args.server.now in
    let new = c.execute.new.self in
    let run = c.in-Err.ensures in
    record {
      crosses = λ s holds.
          crosses-refused old.view new.view s (state old.disk) (state new.disk) c.args.command.now
          c.in-Err.refusal (g.met.D.Disk.sound old.disk holds.journal.honest) holds run.answered
          (run.any_moment s holds);
      halted = λ is.
          stays_halted old.view new.view (state old.disk) (state new.disk) c.args.command.now
          c.in-Err.refusal is run.answered;
      keeps = run.keeps.frame;
    }
