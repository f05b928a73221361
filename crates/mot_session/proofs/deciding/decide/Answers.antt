use Rattle.mot_session.proofs.Answered.{Answers-refused, writes-none}
use Rattle.mot_session.specs.Session.{state_of}
use Rattle.std.proofs.Common.{refl}
use Rattle.mot_session.specs.OnAnyDisk.{no_request}
use Rattle.mot_session.proofs.deciding.decide.Goals as goal

pub returns-in-Ok-clause-writes : goal.returns-in-Ok-clause-writes
returns-in-Ok-clause-writes g c = rw c.in-Ok.is c.decide_request.ensures.writes

pub returns-in-Ok-clause-decides : goal.returns-in-Ok-clause-decides
returns-in-Ok-clause-decides g c = rw c.in-Ok.is c.decide_request.ensures.decides

pub returns-in-Err-clause-decides : goal.returns-in-Err-clause-decides
returns-in-Err-clause-decides g c = rw c.in-Err.is (λ s stands honest. (
  s,
  stands,
  Answers-refused (state_of c.args.server.now s (g.D.Disk.state c.args.server.now.disk))
      c.in-Err.refusal,
))

pub returns-in-Err-clause-writes : goal.returns-in-Err-clause-writes
returns-in-Err-clause-writes g c = writes-none c.args.server.now.view
    (g.D.Disk.state c.args.server.now.disk) _ (g.met.D.Disk.sound c.args.server.now.disk)

pub returns-in-Ok-clause-anyhow : goal.returns-in-Ok-clause-anyhow
returns-in-Ok-clause-anyhow g c = rw c.in-Ok.is c.decide_request.ensures.anyhow

pub returns-in-Err-clause-anyhow : goal.returns-in-Err-clause-anyhow
returns-in-Err-clause-anyhow g c = rw c.in-Err.is (no_request c.in-Err.refusal refl refl refl)
