use Rattle.std.proofs.Common.{◌++◌, ◌∙◌, ap}
use Rattle.mot_endpoints.proofs.host.Host.lines.Goals as goal

pub returns-in-Err-clause-calls : goal.returns-in-Err-clause-calls
returns-in-Err-clause-calls g c = (
  _,
  rw c.system-system.ensures at c.in-Err.ensures,
  c.take_in.ensures ∙ ap (λ l. g.M.System.System.calls c.args.self.now.system ++ l)
      c.into_calls.ensures,
)

pub returns-in-Ok-clause-checked : goal.returns-in-Ok-clause-checked
returns-in-Ok-clause-checked g c =
    rw c.new.ensures.system (rw c.system-system.ensures at c.in-Ok.ensures)
