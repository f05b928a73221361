use Rattle.std.proofs.Common.{[], inl, inr, refl, subst, sym}
use Rattle.mot_air.specs.Commands.{packets_of}
use Rattle.mot_air.proofs.on_air.open_both.Goals as goal
use Rattle.mot_endpoints.specs.Opened.{Need}
use Rattle.mot_endpoints.specs.Opened.BeginsTo.{vain}
use Rattle.mot_outcome.specs.Outcome.{Opens}
use Rattle.mot_playout.specs.Attempts.{fault_of}

pub returns-in-Err-clause-opens : goal.returns-in-Err-clause-opens
returns-in-Err-clause-opens g c =
    let task = c.args.task in
    let old = g.M.System.System.calls c.args.host.now.system in
    subst (λ (f : _). Opens (packets_of task) task.disk.now (fault_of f.result) f.disk old
    (g.M.System.System.calls c.packets.new.self.system)) (sym c.unbegun.ensures)
    (inl (vain [] (Need.packets task.packets.now task.disk.now task.turns) [] old refl refl
    (refl, (c.in-Err.cause, c.in-Err.ensures.calls))))

pub returns-in-Ok-disk-clause-opens : goal.returns-in-Ok-disk-clause-opens
returns-in-Ok-disk-clause-opens g c =
    let then = g.M.System.System.calls c.packets.new.self.system in
    (then, (then, c.in-Ok.ensures.calls, refl), c.in-Ok-disk.ensures.calls)

pub returns-clause-opens : goal.returns-clause-opens
returns-clause-opens g c =
    let task = c.args.task in
    let calls = g.M.System.System.calls in
    let then = calls c.packets.new.self.system in
    subst (λ (f : _). Opens (packets_of task) task.disk.now (fault_of f.result) f.disk
    (calls c.args.host.now.system) (calls c.disk.new.self.system)) (sym c.unopened.ensures)
    (inr (refl, (then, (then, c.in-Ok.ensures.calls, refl), c.in-Err-disk.ensures.calls)))
