use Rattle.std.proofs.Common.{◌∙◌, [], ◌∷◌, Ok, None, Some, refl, subst}
use Rattle.disk_model.proofs.Laws.{keeps_none, keeps_on}
use Rattle.disk_model.proofs.Laws.{unchanged_none}
use Rattle.mot_numbers.specs.declared.refusal.Refusal.TheVariants.{OutOfMemory}
use Rattle.mot_numbers.proofs.Laws.{same_error}
use Rattle.mot_objects.specs.declared.command.Command.TheVariants.{Withdraw}
use Rattle.mot_playout.specs.Attempts.{marks_of}
use Rattle.mot_update.specs.Faults.{no_memory}
use Rattle.mot_update.specs.HasRun.{HasRun}
use Rattle.mot_update.proofs.Faults.{calm_here, calm_on, fault_on}
use Rattle.mot_update.proofs.Right.{ComesOf}
use Rattle.mot_update.specs.Told.{Withdrew}
use Rattle.mot_update.proofs.Answers.{both_nil, both_trans}
use Rattle.mot_update.proofs.Looks.{err_of, gives_kept, gives_nil, withdrew_all}
use Rattle.mot_update.proofs.Looks.{withdrew_cut}
use Rattle.mot_update.proofs.Looks.{withdrew_fault, withdrew_next, withdrew_none}
use Rattle.mot_update.proofs.looking.withdraw_these.Goals as goal

pub loop-name-init : goal.loop-name-init
loop-name-init g c =
    let state = g.D.Disk.state c.args.server.now.disk in
    record {
      keeps = keeps_none state;
      calm = calm_here c.args.server.now state;
      same = refl;
      gives = gives_nil (g.S.Source.given c.args.source.now);
      run = λ s holds honest. (
        withdrew_none c.args.server.now state s (g.S.Source.is_fine c.args.source.now)
            (g.met.D.Disk.sound c.args.server.now.disk honest) honest (unchanged_none state) holds,
        both_nil (g.S.Source.was_told c.args.source.now),
      );
      stays = refl;
      fine = λ e. e;
    }

pub returns-in_err-clone-clause-runs : goal.returns-in_err-clone-clause-runs
returns-in_err-clone-clause-runs g c = λ s holds honest.
    let state = g.D.Disk.state in
    let old = c.args.server.now in
    let mid = c.loop-name.server in
    let so_far = c.loop-name.invariant.run s holds honest in
    let e = err_of c.from_residual.result c.from_residual.ensures.0 in
    rw e.1 (
      withdrew_cut old mid (state old.disk) (state mid.disk) s c.args.names.now
          c.loop-name.name-index (g.S.Source.is_fine c.loop-name.source) so_far.0 e.0
          (g.met.D.Disk.sound mid.disk honest) honest (unchanged_none (state mid.disk)),
      so_far.1,
    )

pub returns-in_err-attempt-clause-runs : goal.returns-in_err-attempt-clause-runs
returns-in_err-attempt-clause-runs g c = λ s holds honest.
    let state = g.D.Disk.state in
    let old = c.args.server.now in
    let mid = c.loop-name.server in
    let new = c.withdraw.new.server in
    let two = c.in_err-attempt.ensures in
    let so_far = c.loop-name.invariant.run s holds (two.keeps.was_honest honest) in
    rw (same_error c.from_residual-in_err-attempt.result c.in_err-attempt.field-0.0
    c.from_residual-in_err-attempt.ensures.1) (
      withdrew_fault old mid (state old.disk) (state mid.disk) s c.args.names.now
          c.loop-name.name-index (g.S.Source.is_fine c.loop-name.source) so_far.0 new
          (state new.disk) c.name-item.result c.loop-name-test.true c.name-item.is
          (g.S.Source.is_fine c.loop-name.source) c.in_err-attempt.field-0.0
          (λ t held. subst (λ n. HasRun mid new (state mid.disk) (state new.disk) t
          (Withdraw n ∷ []) [] (Some c.in_err-attempt.field-0.0)) c.in_ok-clone.ensures.cases
          (two.run t held)),
      so_far.1,
    )

pub returns-in_err-clone-clause-faults : goal.returns-in_err-clone-clause-faults
returns-in_err-clone-clause-faults g c =
    let state = g.D.Disk.state in
    let old = c.args.server.now in
    let mid = c.loop-name.server in
    rw (same_error c.from_residual.result OutOfMemory c.from_residual.ensures.1)
    (fault_on old mid (state old.disk) (state mid.disk) (state mid.disk) OutOfMemory
    c.loop-name.invariant.calm (no_memory refl refl))

pub returns-in_err-attempt-clause-faults : goal.returns-in_err-attempt-clause-faults
returns-in_err-attempt-clause-faults g c =
    let state = g.D.Disk.state in
    let old = c.args.server.now in
    let mid = c.loop-name.server in
    let new = c.withdraw.new.server in
    let refusal = c.in_err-attempt.field-0.0 in
    rw (same_error c.from_residual-in_err-attempt.result refusal
    c.from_residual-in_err-attempt.ensures.1)
    (fault_on old mid (state old.disk) (state mid.disk) (state new.disk) refusal
    c.loop-name.invariant.calm c.in_err-attempt.ensures.faults)

pub returns-clause-faults : goal.returns-clause-faults
returns-clause-faults g c = c.loop-name.invariant.calm

pub loop-name-preserved : goal.loop-name-preserved
loop-name-preserved g c =
    let state = g.D.Disk.state in
    let old = c.args.server.now in
    let mid = c.loop-name.server in
    let new = c.withdraw.new.server in
    let is = c.loop-name.invariant in
    let two = c.in_ok-attempt.ensures in
    record {
      keeps = keeps_on (state old.disk) (state mid.disk) (state new.disk) is.keeps two.keeps;
      calm = calm_on old mid new (state old.disk) (state mid.disk) (state new.disk) is.calm
          two.faults;
      same = c.withdrew.ensures.same ∙ is.same;
      gives = gives_kept (g.S.Source.given c.args.source.now) (g.S.Source.given c.loop-name.source)
          (g.S.Source.given c.withdrew.new.self) [] is.gives c.withdrew.ensures.gives;
      run = λ s holds honest.
          let so_far = is.run s holds (two.keeps.was_honest honest) in
          let attempt = c.in_ok-attempt.attempt in (
            withdrew_next old mid (state old.disk) (state mid.disk) s c.args.names.now
                c.loop-name.name-index (g.S.Source.is_fine c.loop-name.source) so_far.0 new
                (state new.disk) c.name-item.result c.loop-name-test.true c.name-item.is attempt
                (g.S.Source.is_fine c.withdrew.new.self)
                (λ t held. subst (λ n. HasRun mid new (state mid.disk) (state new.disk) t
                (Withdraw n ∷ []) (marks_of (Ok attempt)) None)
                c.in_ok-clone.ensures.cases (two.run t held))
                (λ t held. subst (λ n. ComesOf mid.view.journal.layout t (Withdraw n) attempt)
                c.in_ok-clone.ensures.cases (two.right t held.agrees))
                c.withdrew.ensures.fine,
            both_trans (g.S.Source.was_told c.args.source.now)
                (g.S.Source.was_told c.loop-name.source) (g.S.Source.was_told c.withdrew.new.self)
                so_far.0.answers (Withdrew c.name-item.result attempt ∷ []) [] [] so_far.1
                c.withdrew.ensures.told,
          );
      stays = c.withdrew.ensures.stays ∙ is.stays;
      fine = λ e. is.fine (c.withdrew.ensures.fine e).0;
    }

pub returns-clause-runs : goal.returns-clause-runs
returns-clause-runs g c = λ s holds honest.
    let state = g.D.Disk.state in
    let so_far = c.loop-name.invariant.run s holds honest in (
      withdrew_all c.args.server.now c.loop-name.server (state c.args.server.now.disk)
          (state c.loop-name.server.disk) s c.args.names.now c.loop-name.name-index
          (g.S.Source.is_fine c.loop-name.source) so_far.0 c.loop-name-test.false,
      so_far.1,
    )
