use Rattle.mot_playout.specs.Attempts.{fault_of}
use Rattle.std.proofs.Common.{inl, ◌≡◌, ℕ, List, Some, ◌∙◌, ap, refl, sym, subst}
use Rattle.std.proofs.KnownBytes.{Keeps-refl}
use Rattle.std.specs.Prelude.{◌↔◌, IfOk, IsTrue}
use Rattle.disk_model.specs.Disk.{OnlySyncs}
use Rattle.mot_journal.specs.Image.{stands_for, IsClean}
use Rattle.mot_journal.specs.Journal.{StandsWhere, with_records}
use Rattle.mot_commands.specs.Inner.Shown.{report_beside, shown_beside}
use Rattle.mot_commands.specs.Report.{Checks, IsReport, report_in}
use Rattle.mot_commands.proofs.Listed.{report-beside, told}
use Rattle.mot_playout.proofs.Laws.{rises_on, syncs_read}
use Rattle.mot_commands.proofs.checking.check_disk.Given as given
use Rattle.mot_commands.proofs.checking.check_disk.Goals as goal
use Rattle.mot_commands.proofs.checking.check_disk.Goals.{After-ended_with}
use Rattle.mot_repository.specs.OnDisk.IsCheckRefusal.{failed, halted}
use Rattle.mot_journal.specs.Journal.IsReadingRefusal.{device}
use Rattle.mot_objects.specs.declared.carousel.Carousel.{Carousel}
use Rattle.mot_repository.specs.Repository.{RepositoryView}
use Rattle.mot_repository.proofs.Laws.{stands_where}

pub returns-in-Err : goal.returns-in-Err
returns-in-Err g c =
    let state = g.D.Disk.state in
    let opens = c.in-Err.ensures in
    let old = g.W.Write.contents c.args.writer.now in
    subst (λ (e : _). Checks c.args.form (fault_of e.result) old old (state c.args.disk) (state e.disk))
    (sym c.unopened.ensures) (
      opens.only_syncs,
      inl (
        c.in-Err.refused.refusal,
        refl,
        record { why = opens.refused; calm = opens.calm; still = opens.only_syncs.still },
        Keeps-refl _,
      ),
    )

-- what is told of the disk's bytes
text_of : (g : given.Over) → After-ended_with g → List ℕ
text_of g c =
    let view = c.in-Ok.repository.view in
    report_beside c.args.form view.carousel c.in-Ok-is_clean.is_clean view.journal.layout

-- which is what was handed to be printed
same_text : (g : given.Over) (c : After-ended_with g)
    → IfOk c.report_in-report.result (λ report. report.items ≡ text_of g c)
unfolding text_of
same_text g c =
    let same = c.is_clean.ensures.view in
    let form = c.args.form in
    let view = c.in-Ok.repository.view in
    let clean = c.in-Ok-is_clean.is_clean in
    let carousel = c.carousel.ensures.value ∙ ap (λ (v : RepositoryView). v.carousel) same in
    let layout = c.layout.ensures.value ∙ ap (λ (v : RepositoryView). v.journal.layout) same in
    subst (λ l. IfOk c.report_in-report.result
    (λ report. report.items ≡ report_beside form view.carousel clean l)) layout
    (c.report_in-report.ensures view.carousel
    (subst (λ (k : Carousel). IfOk c.text_in-text.result (λ text. text.items ≡ shown_beside form k))
    carousel c.text_in-text.ensures))

-- and a report of these bytes
reported : (g : given.Over) (c : After-ended_with g)
    → (g.D.Disk.state c.into_disk.result).IsHonest
    → IsReport c.args.form (g.D.Disk.state c.args.disk).bytes (text_of g c)
unfolding text_of
reported g c honest =
    let state = g.D.Disk.state in
    let view = c.in-Ok.repository.view in
    let clean = c.in-Ok-is_clean.is_clean in
    let opens = c.in-Ok.ensures in
    let calls = c.in-Ok-is_clean.ensures in
    let now = subst (λ d. (state d).IsHonest) c.into_disk.ensures honest in
    let was = calls.only_reads.keeps.was_honest now in
    let opened = opens.opened was in
    let same = (opens.only_syncs.still was).bytes in
    let bytes = (state c.args.disk).bytes in
    let exact = calls.exact opened.standing now (ap stands_for same ∙ opened.stands)
    (subst (StandsWhere view.journal) (sym same)
    (stands_where view.journal opened.records bytes opened.read)) in
    record {
      standing = opened.standing;
      stands = opened.stands;
      clean = clean;
      exact = subst (λ b. IsTrue clean ↔ IsClean b) same exact;
      journal = with_records view.journal opened.records;
      read = opened.read;
      shown = report-beside c.args.form view.carousel opened.agrees.bodies clean view.journal.layout
          opened.agrees.are_bodies
          ∙ ap (λ k. report_in c.args.form k clean view.journal.layout) (sym opened.agrees.carousel);
    }

pub returns-in-Ok-is_clean : goal.returns-in-Ok-is_clean
returns-in-Ok-is_clean g c =
    let state = g.D.Disk.state in
    let old = g.W.Write.contents c.args.writer.now in
    let new = g.W.Write.contents c.print_text.new.writer in
    let ending = fault_of c.print_text.result in
    let start = state c.args.disk in
    let syncs = subst (λ d. OnlySyncs start (state d)) (sym c.into_disk.ensures)
    (syncs_read _ _ _ c.in-Ok.ensures.only_syncs c.in-Ok-is_clean.ensures.only_reads) in
    let calm = subst (λ d. (state d).failures ≡ start.failures) (sym c.into_disk.ensures)
    (c.in-Ok-is_clean.ensures.calm ∙ c.in-Ok.ensures.calm) in rw c.ended_with.ensures (
      syncs,
      told start (state c.into_disk.result) _ ending (text_of g c) c.report_in-report.result old new syncs
          calm (reported g c) (same_text g c) c.print_text.ensures,
    )

pub returns-in-Err-is_clean : goal.returns-in-Err-is_clean
returns-in-Err-is_clean g c =
    let state = g.D.Disk.state in
    let opens = c.in-Ok.ensures in
    let calls = c.in-Err-is_clean.ensures in
    let old = g.W.Write.contents c.args.writer.now in
    let refusal = c.in-Err-is_clean.refusal in
    let syncs = syncs_read _ _ _ opens.only_syncs calls.only_reads in
    rw c.ended_with-in-Err-is_clean.ensures (subst (λ d. Checks c.args.form (Some refusal) old old (state c.args.disk) (state d))
    (sym c.into_disk-in-Err-is_clean.ensures) (elim calls.refused [
      | halted on is same ↦ absurd (cc (on, opens.going))
      | failed off is rises ↦ (
        syncs,
        inl (
          refusal,
          refl,
          record {
            why = device is
                (rises_on _ _ _ opens.only_syncs.keeps.later calls.only_reads.keeps.later rises);
            calm = inl is;
            still = syncs.still;
          },
          Keeps-refl _,
        ),
      )
    ]))
