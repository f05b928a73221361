use Rattle.mot_playout.proofs.Laws.{passing}
use Rattle.mot_air.proofs.Kept.{kept_done}
use Rattle.mot_air.proofs.lives.open_done.Goals as goal

pub returns-in-Ok-clause-opened : goal.returns-in-Ok-clause-opened
returns-in-Ok-clause-opened g c =
    let opens = c.in-Ok.ensures in λ geometry first done was honest.
    kept_done g.D.Disk.state c.args.disk c.in-Ok.server g.met.D.Disk.sound opens.only_syncs
    opens.opened opens.going geometry first done was honest

pub returns-in-Err-clause-opens : goal.returns-in-Err-clause-opens
returns-in-Err-clause-opens g c = λ geometry first done was honest.
    let state = g.D.Disk.state in
    let opens = c.in-Err.ensures in
    let old = state c.args.disk in
    let failed = c.in-Err.refused in
    let sound = g.met.D.Disk.sound c.args.disk (opens.only_syncs.keeps.was_honest honest) in (
      passing old (state failed.disk) was.standing failed.refusal honest
          (was.each old.bytes sound.bytes) opens.refused,
      record {
        standing = was.standing;
        after = was.after;
        each = λ image may. was.each image ((opens.only_syncs.still honest).images image may);
      },
    )
