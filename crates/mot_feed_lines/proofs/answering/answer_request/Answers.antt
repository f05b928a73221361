use Rattle.std.proofs.Common.{subst, sym}
use Rattle.mot_feed_lines.specs.Inner.{HasAnswered}
use Rattle.mot_feed_lines.proofs.Requests.{shown}
use Rattle.mot_feed_lines.proofs.answering.answer_request.Goals as goal
use Rattle.mot_playout.specs.Attempts.{fault_of}

pub returns-in-Some-clause-answered : goal.returns-in-Some-clause-answered
returns-in-Some-clause-answered g c =
    subst (λ l. HasAnswered g.D.Disk.state c.args.server.now c.answer_command.new.server l
    (fault_of c.answer_command.result)) (sym c.in-Some.ensures.some) c.answer_command.ensures.answered

pub returns-in-None-clause-answered : goal.returns-in-None-clause-answered
returns-in-None-clause-answered g c =
    shown g.D.Disk.state c.args.server.now _
    (λ honest. g.met.D.Disk.sound c.args.server.now.disk honest)
