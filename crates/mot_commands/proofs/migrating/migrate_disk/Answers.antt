use Rattle.mot_playout.specs.Attempts.{fault_of}
use Rattle.std.proofs.Common.{◌≡◌, ◌∙◌, Bool, true, false, Some, ap, inl, inr, refl, subst, sym}
use Rattle.std.specs.Prelude.{IsFalse, IsTrue}
use Rattle.std.proofs.KnownBytes.{Keeps-refl}
use Rattle.disk_model.proofs.Laws.{keeps_on}
use Rattle.disk_model.specs.Disk.{IsStill}
use Rattle.mot_journal.specs.declared.layout.Layout.{Layout}
use Rattle.mot_journal.specs.declared.layout.Layout.TheVariants.{One, Two}
use Rattle.mot_journal.specs.Journal.{with_records}
use Rattle.mot_numbers.specs.Refusal.{IsCalm}
use Rattle.mot_repository.specs.Answers.IsMigrationRefusal.{failed, halted, no_memory}
use Rattle.mot_journal.specs.Journal.IsReadingRefusal.{device, no_memory as no_room}
use Rattle.mot_repository.specs.Repository.{IsOf}
use Rattle.mot_commands.specs.Report.{IsMigrated, Migrates, migrated_line}
use Rattle.mot_outcome.specs.Outcome.{Prints}
use Rattle.mot_playout.proofs.Laws.{rises_on, still_unchanged}
use Rattle.mot_commands.proofs.Opened.{migrates_held, migrates_under}
use Rattle.mot_update.proofs.Laws.{opened_throughout}
use Rattle.mot_commands.proofs.migrating.migrate_disk.Given as given
use Rattle.mot_commands.proofs.migrating.migrate_disk.Goals as goal

pub returns-in-Err : goal.returns-in-Err
returns-in-Err g c =
    let state = g.D.Disk.state in
    let opens = c.in-Err.ensures in
    let old = g.W.Write.contents c.args.writer.now in
    subst (λ (e : _). Migrates (fault_of e.result) old old (state c.args.disk) (state e.disk))
    (sym c.unopened.ensures) (record {
      keeps = opens.only_syncs.keeps;
      under = λ s honest each.
          opened_throughout (state c.args.disk) (state c.in-Err.refused.disk) (IsOf s)
          (g.met.D.Disk.sound c.args.disk (opens.only_syncs.keeps.was_honest honest)) each
          (opens.only_syncs.still honest);
      told = inl (
        c.in-Err.refused.refusal,
        refl,
        (opens.refused, opens.calm, λ other. opens.only_syncs.still),
        Keeps-refl _,
      );
    })

-- a journal of another layout than the first is of the second
second : (layout : Layout) → (layout ≡ One → ⊥) → layout ≡ Two
second One not = absurd (not refl)
second Two not = refl

-- what was done was not left
not_done : (done : Bool) → IsFalse done → IsTrue done → ⊥
not_done true not is = cc
not_done false not is = cc

-- what was migrated, whether that was printed or not
migrated : (g : given.Over) (c : goal.After-ended_with g)
    → IsMigrated (migrated_line c.in-Ok-migrate.is_rewritten) (g.D.Disk.state c.args.disk)
    (g.D.Disk.state c.migrate.new.self.disk)
migrated g c =
    let state = g.D.Disk.state in
    let start = state c.args.disk in
    let repository = c.in-Ok.repository in
    let after = c.migrate.new.self in
    let opens = c.in-Ok.ensures in
    let calls = c.in-Ok-migrate.ensures in
    record {
      done = c.in-Ok-migrate.is_rewritten;
      line = refl;
      rewritten = λ honest.
          let opened = opens.opened (calls.keeps.frame.was_honest honest) in
          (with_records repository.view.journal opened.records, opened.read, calls.rewritten);
      already = λ not honest. subst (λ r. IsStill start (state r.disk))
          (sym (calls.still (second repository.view.journal.layout
          (λ one. not_done _ not (calls.rewritten.1 one)))).0)
          (opens.only_syncs.still (calls.keeps.frame.was_honest honest));
      is_two = λ s honest each image left.
          let then = calls.ok s (migrates_held state c.args.disk repository after g.met.D.Disk.sound
          opens.only_syncs opens.opened opens.going calls.keeps s honest each) in
          let records = with_records after.view.journal then.records in (
            then.each image left,
            (records, (then.journal.each image left).read, calls.layout),
          );
    }

pub returns-in-Ok-migrate : goal.returns-in-Ok-migrate
returns-in-Ok-migrate g c =
    let state = g.D.Disk.state in
    let start = state c.args.disk in
    let repository = c.in-Ok.repository in
    let after = c.migrate.new.self in
    let opens = c.in-Ok.ensures in
    let calls = c.in-Ok-migrate.ensures in
    let old = g.W.Write.contents c.args.writer.now in
    let new = g.W.Write.contents c.write_last-result.new.writer in
    let ending = fault_of c.write_last-result.result in
    rw c.ended_with.ensures (subst (λ d. Migrates ending old new start (state d)) (sym c.into_disk.ensures) (record {
      keeps = keeps_on _ _ _ opens.only_syncs.keeps calls.keeps.frame;
      under = migrates_under state c.args.disk repository after g.met.D.Disk.sound opens.only_syncs
          opens.opened opens.going calls.keeps calls.any_moment;
      told = inr (
        migrated_line c.in-Ok-migrate.is_rewritten,
        migrated g c,
        subst (λ text. Prints ending text old new) c.migrated_text.ensures c.write_last-result.ensures,
      );
    }))

pub returns-in-Err-migrate : goal.returns-in-Err-migrate
returns-in-Err-migrate g c =
    let state = g.D.Disk.state in
    let start = state c.args.disk in
    let repository = c.in-Ok.repository in
    let after = c.migrate.new.self in
    let opens = c.in-Ok.ensures in
    let calls = c.in-Err-migrate.ensures in
    let old = g.W.Write.contents c.args.writer.now in
    let refusal = c.in-Err-migrate.refusal in
    let calm : IsCalm refusal start.failures (state after.disk).failures =
    elim calls.untouched [
      | inl is ↦ inl is
      | inr same ↦ inr (ap (λ s. (state s.disk).failures) same ∙ opens.calm)
    ] in
    rw c.ended_with-in-Err-migrate.ensures (subst (λ d. Migrates (Some refusal) old old start (state d))
    (sym c.into_disk-in-Err-migrate.ensures) (record {
      keeps = keeps_on _ _ _ opens.only_syncs.keeps calls.keeps.frame;
      under = migrates_under state c.args.disk repository after g.met.D.Disk.sound opens.only_syncs
          opens.opened opens.going calls.keeps calls.any_moment;
      told = elim calls.refused [
        | halted on is view same ↦ absurd (cc (on, opens.going))
        | no_memory off is view same ↦ inl (
          refusal,
          refl,
          (
            no_room is,
            calm,
            λ other honest. still_unchanged _ _ _
                (opens.only_syncs.still (calls.keeps.frame.was_honest honest)) same,
          ),
          Keeps-refl _,
        )
        | failed off is rises view ↦ inl (
          refusal,
          refl,
          (
            device is
                (rises_on _ _ _ opens.only_syncs.keeps.later calls.keeps.frame.later rises),
            calm,
            λ other. absurd (other is),
          ),
          Keeps-refl _,
        )
      ];
    }))
