use Rattle.std.proofs.Common.{refl}
use Rattle.mot_session.specs.OnAnyDisk.{no_request}
use Rattle.mot_session.proofs.serving.reading.write_reading.Goals as goal

pub returns-in-Ok : goal.returns-in-Ok
returns-in-Ok g c = rw c.in-Ok.is c.write_shown.ensures

pub returns-in-Err : goal.returns-in-Err
returns-in-Err g c = rw c.in-Err.is
    (_, no_request c.in-Err.refusal refl refl refl, c.write_refusal.ensures)
