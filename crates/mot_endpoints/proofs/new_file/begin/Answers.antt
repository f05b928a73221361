use Rattle.std.proofs.Common.{Err, ap, refl}
use Rattle.mot_endpoints.specs.Placing.Makes.{held, unheld, unmade}
use Rattle.mot_endpoints.specs.Placing.Then.{both, refused}
use Rattle.mot_endpoints.proofs.Exits.{err_of}
use Rattle.mot_endpoints.proofs.new_file.begin.Goals as goal

pub returns-in_err-clear : goal.returns-in_err-clear
returns-in_err-clear g c =
    refused c.in_err-clear.field-0.0 (err_of c.from_residual.ensures.1) c.in_err-clear.ensures

pub returns-in_err-handle : goal.returns-in_err-handle
returns-in_err-handle g c =
    both tt _ c.in_ok-clear.ensures (unmade c.in_err-handle.field-0.0
    (err_of c.from_residual-in_err-handle.ensures.1) c.in_err-handle.ensures)

pub returns-in-Ok : goal.returns-in-Ok
returns-in-Ok g c =
    both tt _ c.in_ok-clear.ensures
    (held c.in_ok-handle.handle refl (rw c.in_ok-handle.ensures at c.in-Ok.ensures))

pub returns-in-Err : goal.returns-in-Err
returns-in-Err g c =
    both tt _ c.in_ok-clear.ensures (unheld c.in_ok-handle.handle c.in-Err.fault _ _
    (ap Err c.from.ensures) (rw c.in_ok-handle.ensures at c.in-Err.ensures) c.take_away.ensures
    c.close.ensures)
