use Rattle.std.proofs.Common.{◌≡◌, ◌<◌, ◌∙◌, ap, refl, sym, subst, arith}
use Rattle.std.specs.Prelude.{vec_len}
use Rattle.std.specs.Io.KnownBytes.{Appends}
use Rattle.std.specs.List.{flat_map}
use Rattle.std.proofs.KnownBytes.{Appends-nil, Appends-trans}
use Rattle.std.proofs.lemmas.Result.{err_from_is_err_and}
use Rattle.disk_model.proofs.Laws.{reads_none, reads_on}
use Rattle.mot_lines.specs.Export.{period_line, put_line}
use Rattle.mot_objects.specs.Carousel as whole
use Rattle.mot_objects.specs.declared.carousel.Carousel.{Carousel}
use Rattle.mot_export.proofs.Printed.{all_objects, front-lines, lines-more, prints-faults}
use Rattle.mot_export.proofs.Printed.{prints-writes, some_object}
use Rattle.mot_export.specs.Inner.Inspected.{IsPrintingFault}
use Rattle.mot_export.proofs.exporting.write_export.Goals as goal
use Rattle.mot_repository.specs.Repository.{RepositoryView}
use Rattle.mot_outcome.specs.Outcome.{Prints}
use Rattle.mot_playout.proofs.Laws.{standing_still}
use Rattle.mot_playout.specs.Attempts.{fault_of}
use Rattle.mot_session.proofs.Laws.{Writes-after}

pub loop-place-init : goal.loop-place-init
loop-place-init g c =
    let state = g.D.Disk.state c.args.repository.now.disk in
    record {
      reads = reads_none state;
      view = refl;
      calm = refl;
      written = λ s holds honest. Appends-nil (g.W.Write.contents c.args.writer.now);
    }

pub loop-place-preserved : goal.loop-place-preserved
loop-place-preserved g c =
    let state = g.D.Disk.state in
    let known = g.W.Write.contents in
    let old = c.args.repository.now in
    let mid = c.loop-place.repository in
    let new = c.write_object.new.repository in
    let is = c.loop-place.invariant in
    let one = c.in_ok-write_object.ensures in
    record {
      reads = reads_on (state old.disk) (state mid.disk) (state new.disk) is.reads one.only_reads;
      view = one.view ∙ is.view;
      calm = one.calm ∙ is.calm;
      written = λ s holds honest.
          let was = one.only_reads.keeps.was_honest honest in
          let held = standing_still old.view mid.view s (state old.disk) (state mid.disk) holds
          (is.reads.unchanged was) is.view in
          let count = c.len-place-end.ensures
          ∙ ap (λ (k : Carousel). vec_len k.objects) c.carousel.ensures.value
          ∙ old.view.carousel.objects.ok.0 in
          let o = some_object old.view s holds.agrees c.loop-place.place
          (subst (λ n. c.loop-place.place < n) count c.loop-place-test.true) in
          subst (Appends (known c.args.writer.now) (known c.write_object.new.writer))
          (sym (lines-more put_line s.carousel.objects c.loop-place.place o.0 o.1))
          (Appends-trans _ _ _ _ _ (is.written s holds was) (one.written s o.0 held honest o.1));
    }

pub returns-in_err-write_object-clause-written : goal.returns-in_err-write_object-clause-written
returns-in_err-write_object-clause-written g c = λ s holds honest.
    let p = err_from_is_err_and c.from_residual.result c.from_residual.ensures.1 in
    let state = g.D.Disk.state in
    let known = g.W.Write.contents in
    let old = c.args.repository.now in
    let mid = c.loop-place.repository in
    let is = c.loop-place.invariant in
    let one = c.in_err-write_object.ensures in
    let was = one.only_reads.keeps.was_honest honest in
    let held = standing_still old.view mid.view s (state old.disk) (state mid.disk) holds
    (is.reads.unchanged was) is.view in
    let count = c.len-place-end.ensures
    ∙ ap (λ (k : Carousel). vec_len k.objects) c.carousel.ensures.value
    ∙ old.view.carousel.objects.ok.0 in
    let o = some_object old.view s holds.agrees c.loop-place.place
    (subst (λ n. c.loop-place.place < n) count c.loop-place-test.true) in
    rw p.1 (front-lines s.carousel.objects c.loop-place.place o.0
    (period_line s.carousel.period) (known c.args.writer.now) (known c.loop-place.writer)
    (known c.write_object.new.writer) o.1 (is.written s holds was)
    (one.written s o.0 held honest o.1))

pub returns-clause-written : goal.returns-clause-written
returns-clause-written g c = λ s holds honest.
    let known = g.W.Write.contents in
    let old = c.args.repository.now in
    let is = c.loop-place.invariant in
    let first = known c.args.writer.now in
    let mid = known c.loop-place.writer in
    let new = known c.write_last.new.writer in
    let ended = c.write_last.result in
    let count = c.len-place-end.ensures
    ∙ ap (λ (k : Carousel). vec_len k.objects) c.carousel.ensures.value
    ∙ old.view.carousel.objects.ok.0 in
    let end = c.loop-place-test.false in
    let all = all_objects old.view s holds.agrees c.loop-place.place (omega (arith, count, end)) in
    let lines = subst (λ l. Appends first mid (flat_map put_line l)) all
    (is.written s holds honest) in
    let text : c.as_slice.result.now ≡ period_line s.carousel.period = c.as_slice.ensures.value
    ∙ c.period_text-period.ensures
    ∙ ap (λ (k : Carousel). period_line k.period) c.carousel-2.ensures.value
    ∙ ap (λ (v : RepositoryView). period_line v.carousel.period) is.view
    ∙ sym (ap (λ (k : whole.Carousel). period_line k.period) holds.agrees.carousel) in
    Writes-after ended (flat_map put_line s.carousel.objects) (period_line s.carousel.period) first mid new lines
    (prints-writes ended (period_line s.carousel.period) mid new
    (subst (λ l. Prints (fault_of ended) l mid new) text c.write_last.ensures))

pub returns-clause-fault : goal.returns-clause-fault
returns-clause-fault g c =
    prints-faults c.write_last.result _ _ _ _ _ c.loop-place.invariant.calm c.write_last.ensures

pub returns-in_err-write_object-clause-fault : goal.returns-in_err-write_object-clause-fault
returns-in_err-write_object-clause-fault g c =
    let p = err_from_is_err_and c.from_residual.result c.from_residual.ensures.1 in
    let now = (g.D.Disk.state c.write_object.new.repository.disk).failures in
    let old = (g.D.Disk.state c.args.repository.now.disk).failures in
    rw p.1 (subst (λ r. IsPrintingFault r old now) (sym p.2)
    (subst (λ n. IsPrintingFault c.in_err-write_object.field-0.0 n now) c.loop-place.invariant.calm
    c.in_err-write_object.ensures.fault))
