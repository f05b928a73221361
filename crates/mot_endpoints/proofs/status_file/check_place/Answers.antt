use Rattle.std.proofs.Common.{false, refl, true}
use Rattle.mot_endpoints.specs.Placing.Then.{both, refused}
use Rattle.mot_endpoints.specs.Status.ChecksPlace.{of_disk, other}
use Rattle.mot_endpoints.proofs.status_file.check_place.Goals as goal

pub returns-then-is_of_disk : goal.returns-then-is_of_disk
returns-then-is_of_disk g c = of_disk refl c.if-is_of_disk.ensures

pub returns-in-Ok-true : goal.returns-in-Ok-true
returns-in-Ok-true g c =
    other _ c.if-is_of_disk.ensures
    (both true _ (rw c.in-Ok-true.field-0-test at c.in-Ok-true.ensures) c.check_unused.ensures)

pub returns-in-Ok-false : goal.returns-in-Ok-false
returns-in-Ok-false g c =
    other _ c.if-is_of_disk.ensures
    (both false _ (rw c.in-Ok-false.field-0-test at c.in-Ok-false.ensures) (refl, refl))

pub returns-in-Err : goal.returns-in-Err
returns-in-Err g c =
    other _ c.if-is_of_disk.ensures (refused c.in-Err.fault refl c.in-Err.ensures)
