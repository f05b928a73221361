use Rattle.std.proofs.Common.{false, refl, true}
use Rattle.mot_endpoints.specs.Placing.Finds.{file, no_file, unseen}
use Rattle.mot_endpoints.proofs.new_file.find.Goals as goal

pub returns-in-Err : goal.returns-in-Err
returns-in-Err g c = unseen c.in-Err.fault c.unless_absent.ensures c.in-Err.ensures

pub returns-then-not-is_regular : goal.returns-then-not-is_regular
returns-then-not-is_regular g c =
    no_file c.in-Ok.named refl (λ is. let h = c.if-not-is_regular.ensures.1 is in cc) c.in-Ok.ensures

pub returns-then-leads_to : goal.returns-then-leads_to
returns-then-leads_to g c =
    file c.in-Ok.named true (c.if-not-is_regular.ensures.0 refl)
    (rw c.in-Ok.ensures at c.if-leads_to.ensures) refl

pub returns : goal.returns
returns g c =
    file c.in-Ok.named false (c.if-not-is_regular.ensures.0 refl)
    (rw c.in-Ok.ensures at c.if-leads_to.ensures) refl
