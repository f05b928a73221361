use Rattle.mot_playout.specs.Runs.{bodies_of}
use Rattle.mot_playout.proofs.server.Server.directory_packets.Goals as goal

pub returns-clause-value : goal.returns-clause-value
returns-clause-value g c = λ s.
    rw (← c.self.view_is) (c.directory_packets.ensures.value (bodies_of s.carousel))
