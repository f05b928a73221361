use Rattle.std.proofs.Common.{◌++◌, ◌∷◌, [], ◌∙◌, ap, sym}
use Rattle.mot_endpoints.proofs.ReadsOf.{ends, joined_one_more, one_more, still}
use Rattle.mot_endpoints.proofs.types.fill.Goals as goal

pub returns-in-Ok-eq0-clause-ended : goal.returns-in-Ok-eq0-clause-ended
returns-in-Ok-eq0-clause-ended g c few =
    let kept = c.loop-at.invariant in
    let got = c.in-Ok-eq0.ensures.noted in
    ends c.args.handle (g.S.System.calls c.args.system.now) (g.S.System.calls c.loop-at.system)
    (g.S.System.calls c.read_some.new.system) kept.1.0 got.0 _
    (still c.loop-at.at c.in-Ok-eq0.field-0 c.loop-at.room c.read_some.new.room got.0 _
    c.in-Ok-eq0.field-0-test got.1 got.3 kept.1.2)
    kept.1.1 (got.1 ∙ c.in-Ok-eq0.field-0-test) got.2

pub loop-at-preserved : goal.loop-at-preserved
loop-at-preserved g c =
    let kept = c.loop-at.invariant in
    let got = c.in-Ok.ensures.noted in (
      c.in-Ok.ensures.fits,
      (
        kept.1.0 ++ got.0 ∷ [],
        one_more c.args.handle (g.S.System.calls c.args.system.now) (g.S.System.calls c.loop-at.system)
            (g.S.System.calls c.read_some.new.system) kept.1.0 got.0 kept.1.1 got.2,
        got.3 ∙ ap (λ b. b ++ got.0) kept.1.2 ∙ sym (joined_one_more kept.1.0 got.0),
      ),
    )
