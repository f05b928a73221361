use Rattle.std.proofs.Common.{Err, Ok, ap, refl}
use Rattle.mot_endpoints.specs.Status.WritesStatus.{misplaced, tried, uncleared}
use Rattle.mot_endpoints.proofs.Exits.{err_of}
use Rattle.mot_endpoints.proofs.status_file.StatusFile.write.Goals as goal

pub returns-in_err-check_place-clause-calls : goal.returns-in_err-check_place-clause-calls
returns-in_err-check_place-clause-calls g c =
    rw c.in-Some.is (misplaced c.in_err-check_place.field-0.0 (err_of c.from_residual.ensures.1)
    c.in_err-check_place.ensures)

pub returns-in-Err-clause-calls : goal.returns-in-Err-clause-calls
returns-in-Err-clause-calls g c =
    rw c.in-Some.is (uncleared c.in-Err.fault _ (ap Err c.fault_of_beside.ensures)
    c.in_ok-check_place.ensures (rw c.as_str-beside.ensures.value at c.in-Err.ensures))

pub returns-in_err-replace-clause-calls : goal.returns-in_err-replace-clause-calls
returns-in_err-replace-clause-calls g c =
    rw c.in-Some.is (tried (Err c.in_err-replace.field-0.0) _ _
    (err_of c.from_residual-in_err-replace.ensures.1) c.in_ok-check_place.ensures
    (rw c.as_str-beside.ensures.value at c.in_default-clear.ensures)
    (rw c.as_str-beside.ensures.value at c.in_err-replace.ensures))

pub returns-clause-calls : goal.returns-clause-calls
returns-clause-calls g c =
    rw c.in-Some.is (tried (Ok tt) _ _ refl c.in_ok-check_place.ensures
    (rw c.as_str-beside.ensures.value at c.in_default-clear.ensures)
    (rw c.as_str-beside.ensures.value at c.in_ok-replace.ensures))
