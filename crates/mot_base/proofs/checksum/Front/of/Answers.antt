use Rattle.std.proofs.Common.{false, replicate}
use Rattle.mot_base.proofs.Words.{four_words_in}
use Rattle.mot_base.proofs.checksum.Front.of.Goals as goal

pub returns : goal.returns
returns c =
    let one = c.in_ok-first in
    let two = c.in_ok-second in
    let three = c.in_ok-third in
    let four = c.in_ok-fourth in
    four_words_in c.args.message.now one.rest.now two.rest.now three.rest.now four.rest.now
    one.first two.second three.third four.fourth (replicate 16 false)
    one.ensures.length two.ensures.length three.ensures.length four.ensures.length
    one.ensures.bits two.ensures.bits three.ensures.bits four.ensures.bits
