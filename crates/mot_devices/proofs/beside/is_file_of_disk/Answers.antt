use Rattle.std.proofs.Common.{Err, Ok}
use Rattle.mot_devices.specs.Beside.IsApart.{alone}
use Rattle.mot_devices.proofs.beside.is_file_of_disk.Goals as goal

pub returns-in-Ok-clause-apart : goal.returns-in-Ok-clause-apart
returns-in-Ok-clause-apart g c = λ is.
    alone c.in-Some.disk.now (Ok c.in-Ok.seen) c.in-Some.ensures (c.may_be_disk.ensures.0 is)
    c.in-Ok.ensures

pub returns-in-Err-clause-apart : goal.returns-in-Err-clause-apart
returns-in-Err-clause-apart g c = λ is.
    alone c.in-Some.disk.now (Err c.in-Err.field-0) c.in-Some.ensures tt c.in-Err.ensures
