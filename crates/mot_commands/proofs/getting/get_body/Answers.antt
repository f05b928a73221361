use Rattle.mot_playout.specs.Attempts.{fault_of}
use Rattle.std.proofs.Common.{◌≡◌, List, None, Some, ap, inl, inr, refl, subst, sym}
use Rattle.std.proofs.KnownBytes.{Keeps-refl}
use Rattle.mot_commands.specs.Report.{Gets, IsUngot}
use Rattle.mot_commands.proofs.Named.{found_nowhere}
use Rattle.mot_commands.proofs.getting.get_body.Goals as goal
use Rattle.mot_objects.specs.Carousel.{Carousel, Object}
use Rattle.mot_outcome.specs.Outcome.{Prints}
use Rattle.mot_playout.proofs.Laws.{opened_standing, rises_on, syncs_read}
use Rattle.mot_update.specs.Updating.{found}

pub returns-in-Err : goal.returns-in-Err
returns-in-Err g c =
    let state = g.D.Disk.state in
    let opens = c.in-Err.ensures in
    let old = g.W.Write.contents c.args.writer.now in
    subst (λ (e : _). Gets c.args.name.now (fault_of e.result) old old (state c.args.disk)
    (state e.disk)) (sym c.unopened.ensures) (
      opens.only_syncs,
      inl (
        c.in-Err.refused.refusal,
        refl,
        inl (record { why = opens.refused; calm = opens.calm; still = opens.only_syncs.still }),
        Keeps-refl _,
      ),
    )

pub returns-in-Ok-read_named : goal.returns-in-Ok-read_named
returns-in-Ok-read_named g c =
    let state = g.D.Disk.state in
    let opens = c.in-Ok.ensures in
    let view = c.in-Ok.repository.view in
    let start = state c.args.disk in
    let mid = state c.in-Ok.repository.disk in
    let calls = c.in-Ok-read_named.ensures in
    let body = c.in-Ok-read_named.body.items in
    let old = g.W.Write.contents c.args.writer.now in
    let new = g.W.Write.contents c.write_last.new.writer in
    let ending = fault_of c.write_last.result in
    rw c.ended_with.ensures (subst (λ d. Gets c.args.name.now ending old new start (state d)) (sym c.into_disk.ensures) (
      syncs_read _ _ _ opens.only_syncs calls.only_reads,
      inr (
        body,
        (λ honest.
            let was = calls.only_reads.keeps.was_honest honest in
            let opened = opens.opened was in
            let s = opened.standing in
            let named = calls.body s (opened_standing start mid view s opened.stands opened
            (opens.only_syncs.still was)) honest in record {
              standing = s;
              stands = opened.stands;
              object = named.0;
              named = named.1;
              whole = named.2;
            }),
        subst (λ t. Prints ending t old new) c.deref.ensures.value c.write_last.ensures,
      ),
    ))

pub returns-in-Err-read_named : goal.returns-in-Err-read_named
returns-in-Err-read_named g c =
    let state = g.D.Disk.state in
    let opens = c.in-Ok.ensures in
    let view = c.in-Ok.repository.view in
    let start = state c.args.disk in
    let mid = state c.in-Ok.repository.disk in
    let now = state c.read_named.new.repository.disk in
    let calls = c.in-Err-read_named.ensures in
    let refusal = c.in-Err-read_named.refusal in
    let name = c.args.name.now in
    let old = g.W.Write.contents c.args.writer.now in
    let why : IsUngot name refusal start now = elim calls.why [
      | inl bad ↦ inr (inl bad)
      | inr (inl none) ↦ inr (inr (inl (
        none.0,
        λ s honest stands.
            let was = calls.only_reads.keeps.was_honest honest in
            let holds = opened_standing start mid view s stands (opens.opened was)
            (opens.only_syncs.still was) in
            subst (λ (l : List Object). found name l ≡ None)
            (sym (ap (λ (k : Carousel). k.objects) holds.agrees.carousel))
            (found_nowhere name view.carousel.objects.items holds.agrees.bodies none.1),
      )))
      | inr (inr (inl is)) ↦ inr (inr (inr (inl is)))
      | inr (inr (inr failed)) ↦ inr (inr (inr (inr (
        failed.0,
        rises_on _ _ _ opens.only_syncs.keeps.later calls.only_reads.keeps.later failed.1,
      ))))
    ] in
    rw c.ended_with-in-Err-read_named.ensures (subst (λ d. Gets name (Some refusal) old old start (state d))
    (sym c.into_disk-in-Err-read_named.ensures)
    (syncs_read _ _ _ opens.only_syncs calls.only_reads, inl (refusal, refl, why, Keeps-refl _)))
