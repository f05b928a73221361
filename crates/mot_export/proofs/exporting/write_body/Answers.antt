use Rattle.std.proofs.Common.{◌≡◌, ◌<◌, ◌+◌, ◌∙◌, inl, inr, refl, sym, subst, arith, take, length}
use Rattle.std.proofs.Common.{length-take}
use Rattle.std.specs.Prelude.{slice_range}
use Rattle.std.specs.Io.KnownBytes.{Appends}
use Rattle.std.proofs.KnownBytes.{Appends-nil, Appends-trans}
use Rattle.std.proofs.lemmas.List.{take_all}
use Rattle.hex.specs.Hex.{encode_lower}
use Rattle.std.proofs.lemmas.Result.{err_from_is_err_and}
use Rattle.disk_model.specs.Disk.{Rises}
use Rattle.disk_model.proofs.Laws.{reads_none, reads_on, reads_once}
use Rattle.mot_export.proofs.Printed.{digits-more, digits-none, front-digits, front-piece}
use Rattle.mot_export.proofs.exporting.write_body.Goals as goal
use Rattle.mot_repository.specs.Repository.{object_body}
use Rattle.mot_playout.proofs.Laws.{body_length, standing_still, no_failure}

pub loop-from-init : goal.loop-from-init
loop-from-init g c =
    let state = g.D.Disk.state c.args.repository.now.disk in
    let known = g.W.Write.contents c.args.writer.now in
    record {
      within = omega arith;
      reads = reads_none state;
      view = refl;
      calm = refl;
      written = λ s holds honest. subst (Appends known known) (sym digits-none) (Appends-nil known);
    }

pub loop-from-preserved : goal.loop-from-preserved
loop-from-preserved g c =
    let state = g.D.Disk.state in
    let old = c.args.repository.now in
    let mid = c.loop-from.repository in
    let new = c.read_body.new.self in
    let is = c.loop-from.invariant in
    let one = c.in_ok-read_body.ensures in
    record {
      within = let h = c.min-count.ensures in let t = c.loop-from-test.true in omega (arith, h, t);
      reads = reads_on (state old.disk) (state mid.disk) (state new.disk) is.reads
          (reads_once (state mid.disk) (state new.disk) one.keeps one.unchanged);
      view = one.view ∙ is.view;
      calm = no_failure _ _ one.cause.later one.cause.shown ∙ is.calm;
      written = λ s holds honest.
          let was = one.keeps.was_honest honest in
          let held = standing_still old.view mid.view s (state old.disk) (state mid.disk) holds
          (is.reads.unchanged was) is.view in
          let body = object_body s.carousel.objects c.args.place in
          let min = c.min-count.ensures in
          let long = c.min-count.array_long in
          let size = length-take c.min-count.result c.loop-from.piece in
          let count : length (take c.min-count.result c.loop-from.piece) ≡ c.min-count.result =
          omega (arith, size, long, min) in
          let more = digits-more body c.read_body.new.out c.loop-from.from c.min-count.result
          (subst (λ n. c.read_body.new.out
          ≡ slice_range body c.loop-from.from (c.loop-from.from + n))
          count (one.bytes s held honest)) in
          subst (Appends (g.W.Write.contents c.args.writer.now)
          (g.W.Write.contents c.write_digits.new.writer)) (sym more)
          (Appends-trans _ _ _ _ _ (is.written s holds was) c.in_ok-write_digits.ensures);
    }

pub returns-clause-written : goal.returns-clause-written
returns-clause-written g c = λ s holds honest.
    let body = object_body s.carousel.objects c.args.place in
    let within = c.loop-from.invariant.within in
    let end = c.loop-from-test.false in
    let r = c.args.repository.now in
    let long = body_length r.view s holds.agrees c.body_count-bodies.ensures.paired c.args.place
    (subst (λ n. c.args.place < n) c.body_count-bodies.ensures.value c.if-prove.false) in
    let size = c.body_length-length.ensures.value ∙ sym long in
    let whole = take_all c.loop-from.from body (omega (arith, within, end, size)) in
    subst (λ l. Appends (g.W.Write.contents c.args.writer.now)
    (g.W.Write.contents c.loop-from.writer)
    (encode_lower l)) whole (c.loop-from.invariant.written s holds honest)

pub returns-in_err-read_body-clause-written : goal.returns-in_err-read_body-clause-written
returns-in_err-read_body-clause-written g c = λ s holds honest.
    let p = err_from_is_err_and c.from_residual.result c.from_residual.ensures.1 in
    let was = c.in_err-read_body.ensures.keeps.was_honest honest in
    rw p.1 (front-piece (object_body s.carousel.objects c.args.place) c.loop-from.from
    (g.W.Write.contents c.args.writer.now) (g.W.Write.contents c.loop-from.writer)
    (c.loop-from.invariant.written s holds was))

pub returns-in_err-write_digits-clause-written : goal.returns-in_err-write_digits-clause-written
returns-in_err-write_digits-clause-written g c = λ s holds honest.
    let p = err_from_is_err_and c.from_residual-in_err-write_digits.result
    c.from_residual-in_err-write_digits.ensures.1 in
    let state = g.D.Disk.state in
    let old = c.args.repository.now in
    let mid = c.loop-from.repository in
    let is = c.loop-from.invariant in
    let one = c.in_ok-read_body.ensures in
    let was = one.keeps.was_honest honest in
    let held = standing_still old.view mid.view s (state old.disk) (state mid.disk) holds
    (is.reads.unchanged was) is.view in
    let body = object_body s.carousel.objects c.args.place in
    let min = c.min-count.ensures in
    let long = c.min-count.array_long in
    let size = length-take c.min-count.result c.loop-from.piece in
    let count : length (take c.min-count.result c.loop-from.piece) ≡ c.min-count.result =
    omega (arith, size, long, min) in
    rw p.1 (front-digits body c.read_body.new.out c.loop-from.from c.min-count.result
    (g.W.Write.contents c.args.writer.now) (g.W.Write.contents c.loop-from.writer)
    (g.W.Write.contents c.write_digits.new.writer)
    (subst (λ n. c.read_body.new.out ≡ slice_range body c.loop-from.from (c.loop-from.from + n))
    count (one.bytes s held honest)) (is.written s holds was) c.in_err-write_digits.ensures.1)

pub returns-in_err-read_body-clause-fault : goal.returns-in_err-read_body-clause-fault
returns-in_err-read_body-clause-fault g c =
    let p = err_from_is_err_and c.from_residual.result c.from_residual.ensures.1 in
    let one = c.in_err-read_body.ensures in
    let now = (g.D.Disk.state c.read_body.new.self.disk).failures in
    rw p.1 (inr (
      p.2 ∙ one.fault,
      subst (λ n. Rises n now) c.loop-from.invariant.calm (one.cause.cause refl),
    ))

pub returns-in_err-write_digits-clause-fault : goal.returns-in_err-write_digits-clause-fault
returns-in_err-write_digits-clause-fault g c =
    let p = err_from_is_err_and c.from_residual-in_err-write_digits.result
    c.from_residual-in_err-write_digits.ensures.1 in
    let one = c.in_ok-read_body.ensures in
    rw p.1 (inl (
      p.2 ∙ c.in_err-write_digits.ensures.0,
      no_failure _ _ one.cause.later one.cause.shown ∙ c.loop-from.invariant.calm,
    ))
