use Rattle.std.proofs.Common.{[], refl}
use Rattle.std.proofs.lemmas.Result.{IfErr-weaker, IfOk-weaker, err_from_is_err_and}
use Rattle.mot_lines.specs.Lines.{pieces_between}
use Rattle.mot_suffixes.proofs.types.FileTypes.add.Goals as goal
use Rattle.mot_suffixes.proofs.Suffixes.{gone_over-added, gone_over-line, gone_over-right}
use Rattle.mot_suffixes.proofs.Suffixes.{gone_over-stops, pieces-last, pieces-line}

pub returns-in_err-add_numbered-clause-stays : goal.returns-in_err-add_numbered-clause-stays
returns-in_err-add_numbered-clause-stays c =
    let p = err_from_is_err_and c.from_residual.result c.from_residual.ensures.1 in
    rw (p.1, p.2) (gone_over-stops c.args.self.now c.loop-line.self c.args.text.now
    c.loop-line.rest.now c.in-Some.line.now c.loop-line.number
    (pieces_between c.in-Some.others.now) c.loop-line.invariant
    (pieces-line c.loop-line.rest.now c.in-Some.line.now c.in-Some.others.now
    c.in-Some.ensures.parts c.in-Some.ensures.first)
    c.add_numbered.new.self c.in_err-add_numbered.field-0.0.number
    c.in_err-add_numbered.field-0.0.refusal c.in_err-add_numbered.ensures.stays.0
    c.in_err-add_numbered.ensures.stays.1)

pub loop-line-preserved : goal.loop-line-preserved
loop-line-preserved c = gone_over-line c.args.self.now c.loop-line.self c.args.text.now
    c.loop-line.rest.now c.in-Some.line.now c.loop-line.number
    (pieces_between c.in-Some.others.now) c.loop-line.invariant
    (pieces-line c.loop-line.rest.now c.in-Some.line.now c.in-Some.others.now
    c.in-Some.ensures.parts c.in-Some.ensures.first)
    c.add_numbered.new.self c.in_ok-add_numbered.ensures.added c.in-Some.others.now refl
    c.in-Some.ensures.parts

pub returns-clause-right : goal.returns-clause-right
returns-clause-right c = IfOk-weaker c.add_numbered-2.result _ _ (λ _ one.
    gone_over-right c.args.self.now c.loop-line.self c.args.text.now c.loop-line.rest.now
    c.loop-line.rest.now c.loop-line.number [] c.loop-line.invariant
    (pieces-last c.loop-line.rest.now c.in_default.ensures.none) c.add_numbered-2.new.self one
    refl)
    c.add_numbered-2.ensures.added

pub returns-clause-added : goal.returns-clause-added
returns-clause-added c = IfOk-weaker c.add_numbered-2.result _ _ (λ _ one.
    gone_over-added c.args.self.now c.loop-line.self c.args.text.now c.loop-line.rest.now
    c.loop-line.rest.now c.loop-line.number [] c.loop-line.invariant
    (pieces-last c.loop-line.rest.now c.in_default.ensures.none) c.add_numbered-2.new.self one
    refl)
    c.add_numbered-2.ensures.added

pub returns-clause-stays : goal.returns-clause-stays
returns-clause-stays c = IfErr-weaker c.add_numbered-2.result _ _ (λ at stops.
    gone_over-stops c.args.self.now c.loop-line.self c.args.text.now c.loop-line.rest.now
    c.loop-line.rest.now c.loop-line.number [] c.loop-line.invariant
    (pieces-last c.loop-line.rest.now c.in_default.ensures.none) c.add_numbered-2.new.self
    at.number at.refusal stops.0 stops.1)
    c.add_numbered-2.ensures.stays
