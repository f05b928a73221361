use Rattle.std.proofs.Common.{inr}
use Rattle.mot_endpoints.proofs.copy.read_once.Goals as goal

pub returns-in-Err-clause-tried : goal.returns-in-Err-clause-tried
returns-in-Err-clause-tried g c = inr (c.in-Err.field-0, c.in-Err.ensures.calls)
