use Rattle.mot_air.proofs.frames.frame_on.Goals as goal
use Rattle.mot_update.proofs.Laws.{unopened_is}

pub returns-in-Err-clause-refused : goal.returns-in-Err-clause-refused
returns-in-Err-clause-refused g c =
    let opens = c.in-Err.ensures in
    unopened_is _ (g.D.Disk.state c.args.disk) _ opens.refused opens.calm opens.only_syncs.still
