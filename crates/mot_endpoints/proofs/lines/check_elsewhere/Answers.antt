use Rattle.std.proofs.Common.{false, refl, true}
use Rattle.mot_endpoints.proofs.lines.check_elsewhere.Goals as goal

pub returns-then-leads_to : goal.returns-then-leads_to
returns-then-leads_to g c = rw c.in-Some.is (true, c.if-leads_to.ensures, refl)

pub returns : goal.returns
returns g c = rw c.in-Some.is (false, c.if-leads_to.ensures, refl)
