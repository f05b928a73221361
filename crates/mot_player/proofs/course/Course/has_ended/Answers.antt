use Rattle.std.proofs.Common.{◌<◌, List, length, refl, arith}
use Rattle.std.proofs.lemmas.Bool.{ne_eqb}
use Rattle.mot_player.specs.declared.course.Waiting.{Waiting}
use Rattle.mot_player.proofs.Passing.{drop-cons}
use Rattle.mot_player.proofs.course.Course.has_ended.Goals as goal

pub returns-else-self-len : goal.returns-else-self-len
returns-else-self-len c =
    let items : List Waiting = c.args.self.now.queue.items in
    let less : c.args.self.now.at < length items =
    omega (arith, c.if-self-len.false, c.len.ensures, c.args.self.now.within) in
    let cons = drop-cons items c.args.self.now.at less in
    record {
      value = rw (
        c.in-None.is,
        cons.1,
        ne_eqb c.args.self.now.at c.len.result c.if-self-len.false,
      ) refl;
    }
