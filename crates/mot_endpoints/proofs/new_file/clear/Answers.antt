use Rattle.std.proofs.Common.{false, refl, true}
use Rattle.mot_endpoints.specs.Placing.Then.{both, refused}
use Rattle.mot_endpoints.proofs.new_file.clear.Goals as goal

pub returns-in-Ok-true : goal.returns-in-Ok-true
returns-in-Ok-true g c =
    both true _ (rw c.in-Ok-true.field-0-test at c.in-Ok-true.ensures) c.remove_unused.ensures

pub returns-in-Ok-false : goal.returns-in-Ok-false
returns-in-Ok-false g c =
    both false _ (rw c.in-Ok-false.field-0-test at c.in-Ok-false.ensures) (refl, refl)

pub returns-in-Err : goal.returns-in-Err
returns-in-Err g c = refused c.in-Err.fault refl c.in-Err.ensures
