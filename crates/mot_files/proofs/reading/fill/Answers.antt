use Rattle.std.proofs.Common.{◌++◌, ◌∷◌, [], ◌∙◌, ◌-◌, ℕ, List, Ok, ap, length, refl, rules, sym, take}
use Rattle.mot_files.specs.Call.{read, read_of}
use Rattle.mot_files.specs.Reading.IsUnfilled.{ended, failed}
use Rattle.mot_files.proofs.Laws.{same_error, step}
use Rattle.mot_files.proofs.ReadsOf.{given_is, joined_one_more, one_more, shorter, take_more}
use Rattle.mot_files.proofs.reading.fill.Goals as goal

pub returns-in-0 : goal.returns-in-0
returns-in-0 g c =
    let kept = c.loop-at.invariant in
    ended kept.1.0 refl (shorter kept.1.0 c.loop-at.room (length c.args.room.now) c.loop-at.at
    c.loop-at.auto.room c.loop-at-test.true kept.1.2)
    (step (read_of c.args.handle []) (c.in_ok-count.ensures.noted
    ∙ ap (λ (n : ℕ). g.S.System.calls c.loop-at.system
    ++ read c.args.handle c.read.new.room (Ok n) ∷ []) c.in-0.is) kept.1.1)

pub loop-at-preserved : goal.loop-at-preserved
loop-at-preserved g c =
    let kept = c.loop-at.invariant in
    let fits = c.in_ok-count.ensures.fits in
    let chunk : List ℕ = take c.in_ok-count.count c.read.new.room in (
      search rules,
      (
        kept.1.0 ++ chunk ∷ [],
        one_more c.args.handle (g.S.System.calls c.args.system.now) (g.S.System.calls c.loop-at.system)
            (g.S.System.calls c.read.new.self) kept.1.0 chunk kept.1.1
            (given_is c.args.handle c.in_ok-count.count c.read.new.room
            (g.S.System.calls c.loop-at.system) (g.S.System.calls c.read.new.self) fits
            c.in_ok-count.ensures.noted),
        take_more c.loop-at.at (length c.loop-at.room - c.loop-at.at) c.in_ok-count.count
            c.loop-at.room c.read.new.room kept.0 fits ∙ ap (λ b. b ++ chunk) kept.1.2
            ∙ sym (joined_one_more kept.1.0 chunk),
      ),
    )

pub returns-in_err-count : goal.returns-in_err-count
returns-in_err-count g c =
    let kept = c.loop-at.invariant in
    rw (same_error c.from_residual.result c.from_residual.ensures.1) (
    failed kept.1.0 _ refl (shorter kept.1.0 c.loop-at.room (length c.args.room.now) c.loop-at.at
    c.loop-at.auto.room c.loop-at-test.true kept.1.2)
    (step _ c.in_err-count.ensures.noted kept.1.1)
    )
