use Rattle.std.proofs.Common.{◌++◌, ◌∙◌, ap}
use Rattle.mot_endpoints.proofs.host.Host.packets.Goals as goal

pub returns-in-Err-clause-calls : goal.returns-in-Err-clause-calls
returns-in-Err-clause-calls g c = (
  _,
  rw c.system-system.ensures at c.in-Err.ensures.calls,
  c.take_in.ensures ∙ ap (λ l. g.M.System.System.calls c.args.self.now.system ++ l)
      c.into_calls.ensures,
)
