use Rattle.mot_air.proofs.Kept.{done_kept}
use Rattle.mot_air.proofs.lives.keep_done.Goals as goal

pub returns : goal.returns
returns g c = λ geometry first done others has going.
    done_kept g.D.Disk.state geometry first done others c.args._server.now has going
