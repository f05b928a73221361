use Rattle.std.proofs.Common.{◌*◌, false, ◌++◌, length, replicate, sym, ◌∙◌, arith}
use Rattle.mot_base.specs.Checksum.{bits_of_bytes}
use Rattle.mot_base.proofs.Words.{word_in}
use Rattle.mot_base.proofs.checksum.register_of_long.Goals as goal

pub loop-next-preserved : goal.loop-next-preserved
loop-next-preserved c =
    sym (word_in c.loop-next.front c.folded-front.result c.in-Some.next c.loop-next.rest.now
    c.in-Some.others.now c.in-Some.ensures.length c.in-Some.ensures.bits c.folded-front.ensures)
    ∙ c.loop-next.invariant

pub loop-next-smaller : goal.loop-next-smaller
loop-next-smaller c = let shorter = c.in-Some.ensures.length in omega (arith, shorter)

pub returns : goal.returns
returns c =
    c.over_fours.ensures
    ∙ sym c.loop-next.invariant
    ∙ c.register.ensures (8 * length c.loop-next.rest.now)
    (bits_of_bytes c.loop-next.rest.now ++ replicate 16 false)
    ∙ c.with_rest.ensures
