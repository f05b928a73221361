use Rattle.std.proofs.Common.{◌≡◌, ◌∙◌, ◌≤◌, ◌<◌, ◌-◌, ℕ, length, None, Ok, Option, Some, [], ◌∷◌}
use Rattle.std.proofs.Common.{refl, sym, ap, subst, arith}
use Rattle.std.proofs.lemmas.Option.{slice_get_within}
use Rattle.std.specs.Prelude.{slice_get}
use Rattle.disk_model.proofs.Laws.{keeps_none, keeps_on, unchanged_none}
use Rattle.mot_numbers.proofs.Laws.{same_error}
use Rattle.mot_journal.specs.Image.{Standing}
use Rattle.mot_repository.specs.Repository.{Holds}
use Rattle.mot_update.specs.HasRun.{HasRun, marks_of_settling}
use Rattle.mot_update.specs.Inner.{IsDoneRightly, commands_if, given_if, marks_if}
use Rattle.mot_update.specs.Looking.{Gives}
use Rattle.mot_update.specs.declared.settling.SettleOutcome.{SettleOutcome}
use Rattle.mot_update.specs.Told.{AreAnswers, TellsSince, answers_of}
use Rattle.mot_update.proofs.Answers.{answers-settled, both_gives, both_kept, both_nil, both_on}
use Rattle.mot_update.proofs.Answers.{both_trans}
use Rattle.mot_update.proofs.Faults.{calm_here, calm_on, fault_on}
use Rattle.mot_update.proofs.Looks.{accepted_settled, gives_nil, gives_trans, settled_all}
use Rattle.mot_update.proofs.Looks.{settled_fault, settled_left, settled_more, settled_none}
use Rattle.mot_update.proofs.looking.settle_all.Goals as goal

-- of as many names, fewer are left
fewer : (many many' from name to to' : ℕ) → many' ≡ many → from ≤ name → name < to → to' ≡ to
    → name < many → many' - to' < many - from
fewer many many' from name to to' same le lt stays within = omega arith

pub loop-wanted-init : goal.loop-wanted-init
loop-wanted-init g c =
    let state = g.D.Disk.state c.args.server.now.disk in
    record {
      keeps = keeps_none state;
      calm = calm_here c.args.server.now state;
      same = refl;
      so_far = λ s holds honest. (
        settled_none c.args.server.now state s (g.S.Source.names c.args.source.now)
            (g.S.Source.place c.args.source.now) (g.S.Source.given c.args.source.now)
            (g.S.Source.is_fine c.args.source.now)
            (g.met.D.Disk.sound c.args.server.now.disk honest) honest (unchanged_none state) holds,
        both_nil (g.S.Source.was_told c.args.source.now),
      );
      fine = λ e. e;
    }

pub returns-in_default-clause-settled : goal.returns-in_default-clause-settled
returns-in_default-clause-settled g c = λ s holds honest.
    let state = g.D.Disk.state in
    let given = g.S.Source.given in
    let so_far = c.loop-wanted.invariant.so_far s holds honest in
    let told = g.S.Source.was_told in (
      settled_all c.args.server.now c.loop-wanted.server (state c.args.server.now.disk)
          (state c.loop-wanted.server.disk) s (g.S.Source.names c.args.source.now)
          (g.S.Source.place c.args.source.now) (g.S.Source.place c.loop-wanted.source)
          (given c.args.source.now) (given c.loop-wanted.source) (given c.next.new.self)
          (g.S.Source.is_fine c.loop-wanted.source) (g.S.Source.is_fine c.next.new.self)
          so_far.0 c.in_default.ensures.gives
          (λ e. (
            c.in_default.ensures.fine e,
            subst (λ l. length l ≤ g.S.Source.place c.loop-wanted.source)
                c.loop-wanted.invariant.same (c.in_default.ensures.every e),
          )),
      both_kept (told c.args.source.now) (told c.loop-wanted.source) (told c.next.new.self)
          so_far.0.answers so_far.0.wanted so_far.1 c.in_default.ensures.told,
    )

pub returns-in_err-settled-clause-settled : goal.returns-in_err-settled-clause-settled
returns-in_err-settled-clause-settled g c = λ s holds honest.
    let state = g.D.Disk.state in
    let given = g.S.Source.given in
    let place = g.S.Source.place in
    let names = g.S.Source.names c.args.source.now in
    let old = c.args.server.now in
    let mid = c.loop-wanted.server in
    let new = c.settle_taken.new.server in
    let begun = c.loop-wanted.source in
    let taken = c.settle_taken.new.source in
    let w = c.in-Some.wanted in
    let is = c.loop-wanted.invariant in
    let two = c.in_err-settled.ensures in
    let was = two.keeps.was_honest honest in
    let next = c.in-Some.ensures in
    let n = next.named in
    let so_far = is.so_far s holds was in
    let told = g.S.Source.was_told in
    rw (same_error c.from_residual.result c.in_err-settled.field-0.0 c.from_residual.ensures.1) (
      settled_fault old mid new (state old.disk) (state mid.disk) (state new.disk) s names
          (place c.args.source.now) (place begun) (place taken) (given c.args.source.now)
          (given begun) (given taken) (given taken) (g.S.Source.is_fine begun) w c.requires (
            n.0,
            n.1,
            subst (λ p. n.0 < p) (sym two.source.1) n.2,
            subst (λ l. slice_get l n.0 ≡ Some w.name) is.same n.3,
          )
          (gives_trans (given begun) (given c.next.new.self) (given taken) [] (w ∷ []) next.gives
          two.gives)
          (gives_nil (given taken)) so_far.0 (g.S.Source.is_fine taken)
          c.in_err-settled.field-0.0 (λ t held. two.run t held honest),
      both_gives (told c.args.source.now) (told begun) (told taken) so_far.0.answers
          so_far.0.wanted (w ∷ []) so_far.1
          (both_gives (told begun) (g.S.Source.offers c.next.new.self w) (told taken) [] []
          (w ∷ []) next.told two.told),
    )

pub returns-in_default-clause-faults : goal.returns-in_default-clause-faults
returns-in_default-clause-faults g c = c.loop-wanted.invariant.calm

pub returns-in_err-settled-clause-faults : goal.returns-in_err-settled-clause-faults
returns-in_err-settled-clause-faults g c =
    let state = g.D.Disk.state in
    let old = c.args.server.now in
    let mid = c.loop-wanted.server in
    let new = c.settle_taken.new.server in
    let refusal = c.in_err-settled.field-0.0 in
    rw (same_error c.from_residual.result refusal c.from_residual.ensures.1)
    (fault_on old mid (state old.disk) (state mid.disk) (state new.disk) refusal
    c.loop-wanted.invariant.calm c.in_err-settled.ensures.faults)

pub loop-wanted-preserved : goal.loop-wanted-preserved
loop-wanted-preserved g c =
    let state = g.D.Disk.state in
    let given = g.S.Source.given in
    let place = g.S.Source.place in
    let was_told = g.S.Source.was_told in
    let names = g.S.Source.names c.args.source.now in
    let old = c.args.server.now in
    let mid = c.loop-wanted.server in
    let new = c.settle_taken.new.server in
    let begun = c.loop-wanted.source in
    let taken = c.settle_taken.new.source in
    let last = c.settled.new.self in
    let w = c.in-Some.wanted in
    let settled = c.in-Some-2.settled in
    let some = c.in-Some-2.is in
    let is = c.loop-wanted.invariant in
    let two = c.in_ok-settled.ensures in
    let next = c.in-Some.ensures in
    let told = c.settled.ensures in
    let n = next.named in
    record {
      keeps = keeps_on (state old.disk) (state mid.disk) (state new.disk) is.keeps two.keeps;
      calm = calm_on old mid new (state old.disk) (state mid.disk) (state new.disk) is.calm
          two.faults;
      same = told.same ∙ two.source.0 ∙ next.same ∙ is.same;
      so_far = λ s holds honest.
          let was = two.keeps.was_honest honest in
          let so_far = is.so_far s holds was in
          let answers = answers_of w.name settled in
          let right : (t : Standing) → Holds mid.view t (state mid.disk)
          → IsDoneRightly mid.view.journal.layout t w (Ok (Some settled)) =
          λ t held. subst (λ (o : Option SettleOutcome). IsDoneRightly mid.view.journal.layout t w (Ok o))
          some (two.right t held honest) in (
            settled_more old mid new (state old.disk) (state mid.disk) (state new.disk) s names
                (place c.args.source.now) (place begun) (place last)
                (given c.args.source.now) (given begun) (given taken) (given last)
                (g.S.Source.is_fine begun) w c.requires (
                  n.0,
                  n.1,
                  subst (λ p. n.0 < p) (sym (told.stays ∙ two.source.1)) n.2,
                  subst (λ l. slice_get l n.0 ≡ Some w.name) is.same n.3,
                )
                (gives_trans (given begun) (given c.next.new.self) (given taken) [] (w ∷ [])
                next.gives (subst (λ (o : Option SettleOutcome). Gives (given c.next.new.self)
                (given taken) (given_if (Ok o) w)) some two.gives))
                told.gives so_far.0 (marks_of_settling (Ok settled)) answers
                (g.S.Source.is_fine last)
                (λ t held. subst (λ (o : Option SettleOutcome). HasRun mid new (state mid.disk)
                (state new.disk) t (commands_if (Ok o) t.carousel.objects w) (marks_if (Ok o)) None)
                some (two.run t held honest))
                (λ t held. subst (λ l. AreAnswers answers l (marks_of_settling (Ok settled)))
                (sym (right t held).0) (answers-settled settled w))
                (λ t held. (right t held).1)
                (λ e.
                let f = told.fine e in
                let t = two.fine f.0 in (
                  next.fine t.0,
                  told.stays ∙ two.source.1 ∙ next.every t.0,
                  accepted_settled settled f.1,
                )),
            both_trans (was_told c.args.source.now) (was_told begun) (was_told last)
                so_far.0.answers answers so_far.0.wanted (w ∷ []) so_far.1
                (both_on (was_told begun) (was_told taken) (was_told last) answers (w ∷ [])
                (both_gives (was_told begun) (g.S.Source.offers c.next.new.self w)
                (was_told taken) [] [] (w ∷ []) next.told
                (subst (λ (o : Option SettleOutcome). TellsSince (g.S.Source.offers c.next.new.self w)
                (was_told taken) [] (given_if (Ok o) w)) some two.told))
                (subst (λ l. TellsSince (was_told taken) (was_told last) (answers_of l settled) [])
                (two.source.2 ∙ next.last) told.told)),
          );
      fine = λ e. is.fine (next.fine (two.fine (told.fine e).0).0);
    }

pub loop-wanted-preserved-in_default-2 : goal.loop-wanted-preserved-in_default-2
loop-wanted-preserved-in_default-2 g c =
    let state = g.D.Disk.state in
    let given = g.S.Source.given in
    let place = g.S.Source.place in
    let was_told = g.S.Source.was_told in
    let names = g.S.Source.names c.args.source.now in
    let old = c.args.server.now in
    let mid = c.loop-wanted.server in
    let new = c.settle_taken.new.server in
    let begun = c.loop-wanted.source in
    let taken = c.settle_taken.new.source in
    let w = c.in-Some.wanted in
    let none = c.in_default-2.is in
    let is = c.loop-wanted.invariant in
    let two = c.in_ok-settled.ensures in
    let next = c.in-Some.ensures in
    let n = next.named in
    let low = n.1 in
    let high = n.2 in
    let stays = two.source.1 in
    record {
      keeps = keeps_on (state old.disk) (state mid.disk) (state new.disk) is.keeps two.keeps;
      calm = calm_on old mid new (state old.disk) (state mid.disk) (state new.disk) is.calm
          two.faults;
      same = two.source.0 ∙ next.same ∙ is.same;
      so_far = λ s holds honest.
          let was = two.keeps.was_honest honest in
          let so_far = is.so_far s holds was in (
            settled_left old mid new (state old.disk) (state mid.disk) (state new.disk) s names
                (place c.args.source.now) (place begun) (place taken)
                (given c.args.source.now) (given begun) (given taken) (g.S.Source.is_fine begun)
                (g.S.Source.is_fine taken) (omega (arith, low, high, stays))
                (gives_trans (given begun) (given c.next.new.self) (given taken) [] [] next.gives
                (subst (λ (o : Option SettleOutcome). Gives (given c.next.new.self) (given taken)
                (given_if (Ok o) w)) none two.gives))
                (λ e. (two.fine e).1 (ap Ok none)) so_far.0
                (λ t held. subst (λ (o : Option SettleOutcome). HasRun mid new (state mid.disk)
                (state new.disk) t (commands_if (Ok o) t.carousel.objects w) (marks_if (Ok o)) None)
                none (two.run t held honest)),
            both_kept (was_told c.args.source.now) (was_told begun) (was_told taken)
                so_far.0.answers so_far.0.wanted so_far.1
                (both_gives (was_told begun) (g.S.Source.offers c.next.new.self w)
                (was_told taken) [] [] [] next.told
                (subst (λ (o : Option SettleOutcome). TellsSince (g.S.Source.offers c.next.new.self w)
                (was_told taken) [] (given_if (Ok o) w)) none two.told)),
          );
      fine = λ e. is.fine (next.fine (two.fine e).0);
    }

pub loop-wanted-smaller : goal.loop-wanted-smaller
loop-wanted-smaller g c =
    let next = c.in-Some.ensures in
    let two = c.in_ok-settled.ensures in
    let told = c.settled.ensures in
    let n = next.named in
    fewer _ _ _ n.0 _ _ (ap length (told.same ∙ two.source.0 ∙ next.same)) n.1 n.2
    (told.stays ∙ two.source.1) (slice_get_within _ n.0 _ n.3)

pub loop-wanted-smaller-in_default-2 : goal.loop-wanted-smaller-in_default-2
loop-wanted-smaller-in_default-2 g c =
    let next = c.in-Some.ensures in
    let two = c.in_ok-settled.ensures in
    let n = next.named in
    fewer _ _ _ n.0 _ _ (ap length (two.source.0 ∙ next.same)) n.1 n.2 two.source.1
    (slice_get_within _ n.0 _ n.3)

pub returns-in_default-clause-keeps : goal.returns-in_default-clause-keeps
returns-in_default-clause-keeps g c = c.loop-wanted.invariant.keeps

pub returns-in_default-clause-fine : goal.returns-in_default-clause-fine
returns-in_default-clause-fine g c = λ e.
    c.loop-wanted.invariant.fine (c.in_default.ensures.fine e)

pub returns-in_err-settled-clause-keeps : goal.returns-in_err-settled-clause-keeps
returns-in_err-settled-clause-keeps g c =
    let state = g.D.Disk.state in
    keeps_on (state c.args.server.now.disk) (state c.loop-wanted.server.disk)
    (state c.settle_taken.new.server.disk) c.loop-wanted.invariant.keeps
    c.in_err-settled.ensures.keeps

pub returns-in_err-settled-clause-fine : goal.returns-in_err-settled-clause-fine
returns-in_err-settled-clause-fine g c = λ e.
    c.loop-wanted.invariant.fine (c.in-Some.ensures.fine (c.in_err-settled.ensures.fine e).0)

pub returns-in_default-clause-ended : goal.returns-in_default-clause-ended
returns-in_default-clause-ended g c =
    subst (λ l. length l ≤ g.S.Source.place c.next.new.self) (sym c.in_default.ensures.same)
    c.in_default.ensures.ended
