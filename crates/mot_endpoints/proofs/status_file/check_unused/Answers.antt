use Rattle.std.proofs.Common.{refl}
use Rattle.mot_endpoints.specs.Status.AsksLock.{asked, unopened}
use Rattle.mot_files.proofs.Laws.{step}
use Rattle.mot_endpoints.proofs.status_file.check_unused.Goals as goal

pub returns-in-Err : goal.returns-in-Err
returns-in-Err g c = unopened _ refl c.in-Err.ensures

pub returns : goal.returns
returns g c =
    asked c.in-Ok.handle c.lock-answer.result c.unless_busy.ensures
    (step _ c.close.ensures (step _ c.lock-answer.ensures c.in-Ok.ensures))
