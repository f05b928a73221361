use Rattle.std.proofs.Common.{refl, ◌∙◌, ap, ◌++◌, ◌∷◌, [], Ok, ℕ, drop, rules, subst, sym}
use Rattle.std.proofs.lemmas.Bool.{eqb-true}
use Rattle.std.proofs.lemmas.List.{nil_from_length, take_rest}
use Rattle.mot_files.specs.Writing.{Writes}
use Rattle.mot_files.specs.Call.{wrote}
use Rattle.mot_files.specs.Writing.Writes.{all, part, refused, stuck}
use Rattle.mot_files.proofs.Laws.{same_error}
use Rattle.mot_files.proofs.writing.write_all.Goals as goal

pub returns-in-0 : goal.returns-in-0
returns-in-0 g c =
    c.loop-rest.invariant _ _ (stuck _ refl (c.in_ok-count.ensures.noted
    ∙ ap (λ (n : ℕ). g.S.System.calls c.loop-rest.system
    ++ wrote c.args.handle c.loop-rest.rest.now (Ok n) ∷ []) c.in-0.is))

pub loop-rest-preserved : goal.loop-rest-preserved
loop-rest-preserved g c = λ result new rest.
    c.loop-rest.invariant result new (part c.in_ok-count.count (search rules)
    (subst (λ calls. Writes c.args.handle result new (drop c.in_ok-count.count c.loop-rest.rest.now) calls)
    c.in_ok-count.ensures.noted
    (subst (λ text. Writes c.args.handle result new text (g.S.System.calls c.write.new.self))
    (take_rest c.loop-rest.rest.now c.in_ok-count.count) rest)))

pub returns-in_err-count : goal.returns-in_err-count
returns-in_err-count g c =
    c.loop-rest.invariant _ _ (refused _
    (same_error c.from_residual.result c.from_residual.ensures.1) c.in_err-count.ensures.noted)

pub returns : goal.returns
returns g c = c.loop-rest.invariant _ _ (all (nil_from_length _ (eqb-true _ 0 (sym c.is_empty.ensures ∙ c.loop-rest-test.false))) refl refl)
