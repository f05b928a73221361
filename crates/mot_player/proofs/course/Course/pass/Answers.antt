use Rattle.std.proofs.Common.{◌<◌, List, length, refl, arith}
use Rattle.mot_player.specs.declared.course.Waiting.{Waiting}
use Rattle.mot_player.proofs.Passing.{drop-cons}
use Rattle.mot_player.proofs.course.Course.pass.Goals as goal

pub returns-then-part-2 : goal.returns-then-part-2
returns-then-part-2 c =
    let items : List Waiting = c.args.self.now.queue.items in
    let less : c.args.self.now.at < length items =
    omega (arith, c.if-self-len.true, c.len.ensures) in
    let cons = drop-cons items c.args.self.now.at less in
    record { course = rw (c.in_default.is, cons.1, c.if-part-2.true) refl }
