use Rattle.std.proofs.Common.{◌≡◌, ◌≤◌, ◌∙◌, ap, ℕ, arith, List, drop, length}
use Rattle.std.proofs.lemmas.List.{drop_all}
use Rattle.mot_player.specs.Inner.Difference.{alike, plans_of}
use Rattle.mot_player.specs.declared.planned_body.PlannedBody.{PlannedBody}
use Rattle.mot_player.proofs.Differences.{alike-none}
use Rattle.mot_player.proofs.difference.alike.Goals as goal

pub returns-else-at-new-clause-alike : goal.returns-else-at-new-clause-alike
returns-else-at-new-clause-alike c =
    let at : ℕ = c.loop-at.at in
    let all : length c.args.new.now ≤ at = omega (arith, c.if-at-new.false) in
    let none : alike (plans_of (drop at c.args.old.now)) (plans_of (drop at c.args.new.now)) ≡ 0 =
    ap (λ (bs : List PlannedBody). alike (plans_of (drop at c.args.old.now)) (plans_of bs))
    (drop_all at c.args.new.now all) ∙ alike-none (plans_of (drop at c.args.old.now)) in
    omega (arith, c.loop-at.invariant.alike, none)
