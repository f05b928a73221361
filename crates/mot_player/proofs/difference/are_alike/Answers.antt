use Rattle.std.proofs.Common.{◌≡◌, ◌∙◌, ap, sym, arith, ℕ, List, length, nat_eq}
use Rattle.std.proofs.lemmas.Bool.{ne_eqb}
use Rattle.mot_player.specs.Inner.Difference.{alike, plans_of}
use Rattle.mot_player.specs.declared.planned_body.PlannedBody.{PlannedBody}
use Rattle.mot_player.proofs.Differences.{all-alike, length-plans_of, other-length}
use Rattle.mot_player.proofs.difference.are_alike.Goals as goal

pub returns-then-old-new : goal.returns-then-old-new
returns-then-old-new c =
    let olds : List PlannedBody = c.args.old.now in
    let news : List PlannedBody = c.args.new.now in
    let long : length (plans_of olds) ≡ length olds = length-plans_of olds in
    ap (λ (n : ℕ). nat_eq n (length olds)) c.alike.ensures.alike
    ∙ ap (λ (n : ℕ). nat_eq (alike (plans_of olds) (plans_of news)) n) (sym long)
    ∙ all-alike (plans_of olds) (plans_of news)
    (omega (arith, long, length-plans_of news, c.if-old-new.true))

pub returns-else-old-new : goal.returns-else-old-new
returns-else-old-new c =
    let olds : List PlannedBody = c.args.old.now in
    let news : List PlannedBody = c.args.new.now in
    ne_eqb (length olds) (length news) c.if-old-new.false
    ∙ sym (other-length (plans_of olds) (plans_of news)
    (λ e. c.if-old-new.false (omega (arith, length-plans_of olds, length-plans_of news, e))))
