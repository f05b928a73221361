use Rattle.std.proofs.Common.{[], inr, refl}
use Rattle.mot_air.proofs.playing.finish.Goals as goal

pub returns-then-not-has_ended-clause-finishes : goal.returns-then-not-has_ended-clause-finishes
returns-then-not-has_ended-clause-finishes g c = λ none hand.
    let e = c.if-not-has_ended.ensures.1 none in absurd (cc (e))

pub returns-else-is_answered-clause-finishes : goal.returns-else-is_answered-clause-finishes
returns-else-is_answered-clause-finishes g c = λ ended hand.
    absurd (let h = (c.if-is_answered.ensures [] hand).1 refl in cc)

pub returns-then-is_answered-clause-lines : goal.returns-then-is_answered-clause-lines
returns-then-is_answered-clause-lines g c =
    inr (c.if-not-has_ended.ensures.0 refl, c.finish.ensures.finishes)
