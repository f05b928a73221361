use Rattle.std.proofs.Common.{ap, refl, ◌∙◌}
use Rattle.mot_endpoints.specs.LinePlaces.IsLedElsewhere.{led, no_text, unresolved}
use Rattle.mot_endpoints.specs.Names.{folder_of}
use Rattle.mot_endpoints.specs.Placing.Then.{both, refused}
use Rattle.mot_endpoints.proofs.Exits.{err_of}
use Rattle.mot_endpoints.proofs.lines.check_apart.Goals as goal

pub returns-in_err-check_elsewhere : goal.returns-in_err-check_elsewhere
returns-in_err-check_elsewhere g c =
    rw c.in-Some.is (refused c.in_err-check_elsewhere.field-0.0 (err_of c.from_residual.ensures.1)
    (rw c.folder_of.ensures at c.in_err-check_elsewhere.ensures))

pub returns-in-Err : goal.returns-in-Err
returns-in-Err g c =
    rw c.in-Some.is (both tt _ (rw c.folder_of.ensures at c.in_ok-check_elsewhere.ensures)
    (unresolved c.resolve.new.room c.in-Err.fault c.unresolved.ensures c.in-Err.ensures.noted))

pub returns-in-Ok-from_utf8 : goal.returns-in-Ok-from_utf8
returns-in-Ok-from_utf8 g c =
    let place = c.folder_of-in-Ok-from_utf8.ensures ∙ ap folder_of c.in-Ok-from_utf8.ensures.cases.0 in
    rw c.in-Some.is (both tt _ (rw c.folder_of.ensures at c.in_ok-check_elsewhere.ensures)
    (led c.resolve.new.room c.in-Ok.count
    (rw c.in-Ok.ensures.noted at (rw place at c.check_elsewhere-in-Ok-from_utf8.ensures))))

pub returns-in-Err-from_utf8 : goal.returns-in-Err-from_utf8
returns-in-Err-from_utf8 g c =
    rw c.in-Some.is (both tt _ (rw c.folder_of.ensures at c.in_ok-check_elsewhere.ensures) (no_text
    c.resolve.new.room c.in-Ok.count c.from.result c.in-Err-from_utf8.ensures.cases.0 refl
    c.in-Ok.ensures.noted))
