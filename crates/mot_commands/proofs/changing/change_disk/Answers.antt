use Rattle.mot_playout.specs.Attempts.{fault_of}
use Rattle.std.proofs.Common.{false, refl, subst, sym}
use Rattle.std.proofs.KnownBytes.{Keeps-refl}
use Rattle.std.specs.Result.{result_unwrap_or}
use Rattle.mot_commands.specs.Changing.{Changes, TakesEach, texts}
use Rattle.mot_commands.specs.Serving.OpensFor.{opened, unopened}
use Rattle.mot_commands.proofs.Opened.{opens_to}
use Rattle.mot_commands.proofs.changing.change_disk.Goals as goal

pub returns-in-Err-clause-ended : goal.returns-in-Err-clause-ended
returns-in-Err-clause-ended g c =
    let state = g.D.Disk.state in
    let opens = c.in-Err.ensures in
    let old = g.W.Write.contents c.args.writer.now in
    let calls = g.Y.System.calls c.args.system.now in
    subst (λ (e : _). Changes state c.args.words.now (texts c.args.list.now)
    (result_unwrap_or e.result false) (fault_of e.result) old old calls calls e.disk
    (state c.args.disk))
    (sym c.unopened.ensures) (unopened c.in-Err.refused.refusal refl
    (record { why = opens.refused; calm = opens.calm; still = opens.only_syncs.still })
    (Keeps-refl _, refl))

pub returns-clause-ended : goal.returns-clause-ended
returns-clause-ended g c =
    let state = g.D.Disk.state in
    let opens = c.in-Ok.ensures in
    let result = c.take_each-result.result in
    let last = c.take_each-result.new.server in
    let old = g.W.Write.contents c.args.writer.now in
    let new = g.W.Write.contents c.take_each-result.new.writer in
    rw c.ended_with.ensures (opened (opens_to state c.args.disk c.into_disk.result c.in-Ok.server last
    (λ first last. TakesEach state c.args.words.now (texts c.args.list.now)
    (result_unwrap_or result false) (fault_of result)
    (first, old, g.Y.System.calls c.args.system.now)
    (last, new, g.Y.System.calls c.take_each-result.new.system))
    g.met.D.Disk.sound opens.only_syncs opens.opened opens.going opens.at_start
    (sym c.into_disk.ensures) c.take_each-result.ensures.taken))
