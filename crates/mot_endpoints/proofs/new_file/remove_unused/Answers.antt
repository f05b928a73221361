use Rattle.std.proofs.Common.{Err, Ok, ap, refl}
use Rattle.mot_endpoints.specs.Placing.RemovesUnused.{tried, unlocked, unopened}
use Rattle.mot_endpoints.proofs.Exits.{err_of}
use Rattle.mot_files.proofs.Laws.{step}
use Rattle.mot_endpoints.proofs.new_file.remove_unused.Goals as goal

pub returns-in_err-handle : goal.returns-in_err-handle
returns-in_err-handle g c =
    unopened c.in_err-handle.field-0.0 (err_of c.from_residual.ensures.1) c.in_err-handle.ensures

pub returns-in-Err : goal.returns-in-Err
returns-in-Err g c =
    unlocked c.in_ok-handle.handle c.in-Err.fault (ap Err c.from.ensures)
    (step _ c.close.ensures (step _ c.in-Err.ensures c.in_ok-handle.ensures))

pub returns-in_err-answer : goal.returns-in_err-answer
returns-in_err-answer g c =
    tried c.in_ok-handle.handle (Err c.in_err-answer.field-0.0)
    (err_of c.from_residual-in_err-answer.ensures.1) (step _ c.close-2.ensures
    (step _ c.in_err-answer.ensures (step _ c.in_default.ensures c.in_ok-handle.ensures)))

pub returns : goal.returns
returns g c =
    tried c.in_ok-handle.handle (Ok tt) refl (step _ c.close-2.ensures
    (step _ c.in_ok-answer.ensures (step _ c.in_default.ensures c.in_ok-handle.ensures)))
