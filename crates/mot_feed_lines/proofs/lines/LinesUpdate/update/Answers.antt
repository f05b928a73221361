use Rattle.std.proofs.Common.{◌≡◌, Some, None, arith, inl, inr, refl}
use Rattle.mot_feed_lines.proofs.Between.{begun_anew, counted, on_time, updating_alone, updating_then}
use Rattle.mot_feed_lines.proofs.lines.LinesUpdate.update.Goals as goal
use Rattle.mot_numbers.proofs.Laws.{same_error}
use Rattle.mot_update.proofs.Laws.{not_none}

pub returns-in_err-update-clause-run : goal.returns-in_err-update-clause-run
returns-in_err-update-clause-run g c =
    let refusal = c.in_err-update.field-0.0 in
    rw (same_error c.from_residual.result refusal c.from_residual.ensures.1) (λ s holds honest.
    on_time refl (λ none. absurd (not_none refusal none))
    (updating_alone g.D.Disk.state _ _ c.args.self.now.left c.args.self.now.intake.hand _ c.args.server.now
    c.update.new.server s (Some refusal) (inr (not_none refusal))
    (c.in_err-update.ensures.run s holds honest)))

pub returns-then-self-gt0-clause-run : goal.returns-then-self-gt0-clause-run
returns-then-self-gt0-clause-run g c = λ s holds honest.
    on_time refl (λ none. counted _ c.args.self.now.left c.if-self-gt0.true)
    (updating_alone g.D.Disk.state _ _ c.args.self.now.left c.args.self.now.intake.hand _ c.args.server.now
    c.update.new.server s None (inl c.if-self-gt0.true) (c.in_ok-update.ensures.run s holds honest))

pub returns-clause-run : goal.returns-clause-run
returns-clause-run g c = λ s holds honest.
    let then = c.answer_there.ensures in
    let due : c.args.self.now.left ≡ 0 = omega (arith, c.if-self-gt0.false) in
    on_time refl (λ none. begun_anew c.args.self.now.between c.args.self.now.left due)
    (updating_then g.D.Disk.state _ _ c.args.self.now.left _ _ _ _ c.args.server.now
    c.update.new.server c.answer_there.new.server s _ due
    (c.in_ok-update.ensures.run s holds (then.keeps.was_honest honest))
    (λ t held. then.run t held honest))
