use Rattle.std.proofs.Common.{◌∙◌, ◌<◌, ◌≤◌, subst, sym}
use Rattle.std.proofs.lemmas.List.{take_all, take_more_same}
use Rattle.mot_journal.proofs.decoding.are_same.Goals as goal

pub returns : goal.returns
returns c = λ _.
    let at = c.loop-at in
    let long = c.if-one-other.false in
    sym (take_all at.at c.args.one.now c.loop-at-test.false) ∙ at.invariant
    ∙ take_all at.at c.args.other.now (subst (λ n. n ≤ at.at) long c.loop-at-test.false)

pub loop-at-preserved : goal.loop-at-preserved
loop-at-preserved c =
    let at = c.loop-at in
    let long = c.if-one-other.false in
    take_more_same c.args.one.now c.args.other.now at.at 0 c.loop-at-test.true
    (subst (λ n. at.at < n) long c.loop-at-test.true) at.invariant c.if-one-at.false
