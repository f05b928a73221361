use Rattle.std.proofs.Common.{◌∙◌}
use Rattle.mot_base.proofs.Words.{word_in}
use Rattle.mot_base.proofs.checksum.Front.over_four.Goals as goal

pub returns-clause-same : goal.returns-clause-same
returns-clause-same c =
    let one = c.in_ok-fifth in
    let two = c.in_ok-sixth in
    let three = c.in_ok-seventh in
    let four = c.in_ok-eighth in
    word_in c.args.self c.folded.result one.fifth c.args.rest.now one.rest.now
    one.ensures.length one.ensures.bits c.folded.ensures
    ∙ word_in c.folded.result c.folded-2.result two.sixth one.rest.now two.rest.now
    two.ensures.length two.ensures.bits c.folded-2.ensures
    ∙ word_in c.folded-2.result c.folded-3.result three.seventh two.rest.now three.rest.now
    three.ensures.length three.ensures.bits c.folded-3.ensures
    ∙ word_in c.folded-3.result c.folded-later.result four.eighth three.rest.now four.rest.now
    four.ensures.length four.ensures.bits c.folded-later.ensures
