use Rattle.mot_playout.proofs.Turns.{start_in}
use Rattle.mot_playout.proofs.server.Server.open.Goals as goal

pub returns-in-Ok-clause-at_start : goal.returns-in-Ok-clause-at_start
returns-in-Ok-clause-at_start g c = λ s agrees.
    start_in c.in_ok-repository.repository.view s c.in-Ok.player agrees c.in-Ok.ensures.opened
