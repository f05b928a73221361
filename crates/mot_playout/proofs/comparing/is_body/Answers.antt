use Rattle.std.proofs.Common.{◌≡◌, ◌+◌, ◌-◌, ◌∙◌, ℕ, List, ◌++◌, refl, sym, ap, arith, length, take}
use Rattle.std.proofs.Common.{drop, true, false, not, Bool, subst, length-take}
use Rattle.std.proofs.Math.Seq.{take-add}
use Rattle.std.proofs.lemmas.List.{take_all}
use Rattle.std.proofs.lemmas.Slice.Eq.{bytes_eq-Decides}
use Rattle.std.specs.Prelude.{bytes_eq, slice_range}
use Rattle.disk_model.proofs.Laws.{reads_none, reads_on, reads_once}
use Rattle.disk_model.specs.Disk.{Rises}
use Rattle.mot_numbers.proofs.Laws.{same_error}
use Rattle.std.proofs.lemmas.Result.{IfOk-from_err}
use Rattle.mot_repository.proofs.Laws.{read_standing}
use Rattle.mot_repository.specs.Repository.{object_body}
use Rattle.mot_playout.proofs.Going.{OnErr-always}
use Rattle.mot_playout.proofs.Answered.{not_halted}
use Rattle.mot_playout.proofs.Read.{body_length, holds_still, no_failure}
use Rattle.mot_playout.proofs.comparing.is_body.Goals as goal

equal_bytes : (xs ys : List ℕ) → false ≡ not (bytes_eq xs ys) → xs ≡ ys
equal_bytes xs ys e = (bytes_eq-Decides xs ys).0 (not_from (bytes_eq xs ys) e)
  where
    not_from : (b : Bool) → false ≡ not b → b ≡ true
    not_from true e = refl
    not_from false e = e

same_piece : (body bytes out : List ℕ) (from count n : ℕ) → n ≡ count
    → out ≡ slice_range body from (from + n) → out ≡ slice_range bytes from (from + count)
    → take from body ≡ take from bytes → take (from + count) body ≡ take (from + count) bytes
same_piece body bytes out from count n long read wanted so_far =
    let size : from + count - from ≡ count = omega arith in
    let size2 : from + n - from ≡ count = omega (arith, long) in
    let piece : take count (drop from body) ≡ take count (drop from bytes) =
    ap (λ k. take k (drop from body)) (sym size2) ∙ sym read ∙ wanted
    ∙ ap (λ k. take k (drop from bytes)) size in
    take-add from count body ∙ ap (λ l. l ++ take count (drop from body)) so_far
    ∙ ap (λ l. take from bytes ++ l) piece ∙ sym (take-add from count bytes)

whole : (body bytes : List ℕ) (from : ℕ) → from ≡ length bytes → length body ≡ length bytes
    → take from body ≡ take from bytes → body ≡ bytes
whole body bytes from all long so_far =
    sym (take_all from body (omega (arith, all, long))) ∙ so_far
    ∙ take_all from bytes (omega (arith, all))

differ : (xs ys : List ℕ) → true ≡ not (bytes_eq xs ys) → xs ≡ ys → ⊥
differ xs ys e same = not_both (e ∙ ap not ((bytes_eq-Decides xs ys).1 same))
  where
    not_both : true ≡ false → ⊥
    not_both wrong = cc

piece_is : (body bytes out : List ℕ) (from count n : ℕ) → n ≡ count
    → out ≡ slice_range body from (from + n) → body ≡ bytes
    → out ≡ slice_range bytes from (from + count)
piece_is body bytes out from count n long read same =
    read ∙ ap (λ k. slice_range body from (from + k)) long
    ∙ ap (λ b. slice_range b from (from + count)) same

pub returns-then-body_length-bytes-clause-only_reads :
    goal.returns-then-body_length-bytes-clause-only_reads
returns-then-body_length-bytes-clause-only_reads g c =
    reads_none (g.D.Disk.state c.args.repository.now.disk)

pub returns-then-body_length-bytes-clause-view : goal.returns-then-body_length-bytes-clause-view
returns-then-body_length-bytes-clause-view g c = refl

pub returns-then-body_length-bytes-clause-fault : goal.returns-then-body_length-bytes-clause-fault
returns-then-body_length-bytes-clause-fault g c = tt

pub returns-then-body_length-bytes-clause-rises : goal.returns-then-body_length-bytes-clause-rises
returns-then-body_length-bytes-clause-rises g c = tt

pub returns-then-body_length-bytes-clause-calm : goal.returns-then-body_length-bytes-clause-calm
returns-then-body_length-bytes-clause-calm g c = refl

pub loop-from-init : goal.loop-from-init
loop-from-init g c = record {
  within = omega arith;
  view = refl;
  reads = reads_none (g.D.Disk.state c.args.repository.now.disk);
  calm = refl;
  same = λ s holds honest. refl;
}

pub returns-in_err-read_body-clause-only_reads : goal.returns-in_err-read_body-clause-only_reads
returns-in_err-read_body-clause-only_reads g c =
    let state = g.D.Disk.state in
    let mid = state c.loop-from.repository.disk in
    let now = state c.read_body.new.self.disk in
    let one = c.read_body.ensures in
    reads_on (state c.args.repository.now.disk) mid now c.loop-from.invariant.reads
    (reads_once mid now one.keeps one.unchanged)

pub returns-in_err-read_body-clause-view : goal.returns-in_err-read_body-clause-view
returns-in_err-read_body-clause-view g c = c.read_body.ensures.view ∙ c.loop-from.invariant.view

pub returns-in_err-read_body-clause-fault : goal.returns-in_err-read_body-clause-fault
returns-in_err-read_body-clause-fault g c =
    rw (same_error c.from_residual.result c.in_err-read_body.field-0.0 c.from_residual.ensures.1)
    c.in_err-read_body.ensures.fault

pub returns-in_err-read_body-clause-rises : goal.returns-in_err-read_body-clause-rises
returns-in_err-read_body-clause-rises g c =
    let state = g.D.Disk.state in
    OnErr-always c.from_residual.result _
    (subst (λ n. Rises n (state c.read_body.new.self.disk).failures) c.loop-from.invariant.calm
    (c.in_err-read_body.ensures.cause.cause refl))

pub returns-in_err-read_body-clause-calm : goal.returns-in_err-read_body-clause-calm
returns-in_err-read_body-clause-calm g c =
    IfOk-from_err c.from_residual.result _ c.from_residual.ensures.0

pub returns-in_err-read_body-clause-exact : goal.returns-in_err-read_body-clause-exact
returns-in_err-read_body-clause-exact g c = λ s holds honest.
    IfOk-from_err c.from_residual.result _ c.from_residual.ensures.0

pub returns-then-ne-clause-only_reads : goal.returns-then-ne-clause-only_reads
returns-then-ne-clause-only_reads g c =
    let state = g.D.Disk.state in
    let mid = state c.loop-from.repository.disk in
    let now = state c.read_body.new.self.disk in
    let one = c.read_body.ensures in
    reads_on (state c.args.repository.now.disk) mid now c.loop-from.invariant.reads
    (reads_once mid now one.keeps one.unchanged)

pub returns-then-ne-clause-view : goal.returns-then-ne-clause-view
returns-then-ne-clause-view g c = c.read_body.ensures.view ∙ c.loop-from.invariant.view

pub returns-then-ne-clause-fault : goal.returns-then-ne-clause-fault
returns-then-ne-clause-fault g c = tt

pub returns-then-ne-clause-rises : goal.returns-then-ne-clause-rises
returns-then-ne-clause-rises g c = tt

pub returns-then-ne-clause-calm : goal.returns-then-ne-clause-calm
returns-then-ne-clause-calm g c =
    let one = c.in_ok-read_body.ensures in
    no_failure _ _ one.cause.later one.cause.shown ∙ c.loop-from.invariant.calm

pub returns-then-ne-clause-exact : goal.returns-then-ne-clause-exact
returns-then-ne-clause-exact g c = λ s holds honest.
    let start = c.args.repository.now in
    let mid = c.loop-from.repository in
    let state = g.D.Disk.state in
    let is = c.loop-from.invariant in
    let one = c.in_ok-read_body.ensures in
    let was = one.keeps.was_honest honest in
    let held = holds_still start.view mid.view s (state start.disk) (state mid.disk) holds was
    (is.reads.unchanged was) is.view in
    let min = c.min-count.ensures in
    let long = c.min-count.array_long in (
      λ yes. absurd (not_halted false yes refl),
      λ same. absurd (differ _ _ c.if-ne.ensures
          (piece_is (object_body s.carousel.objects c.args.place) c.args.bytes.now
          c.read_body.new.out c.loop-from.from c.min-count.result
          (length (take c.min-count.result c.loop-from.piece))
          (let x = length-take c.min-count.result c.loop-from.piece in
          omega (arith, x, long, min)) (one.bytes s
          (read_standing mid.view s (state mid.disk) (g.met.D.Disk.sound mid.disk was) held) honest)
          same)),
    )

pub returns-clause-only_reads : goal.returns-clause-only_reads
returns-clause-only_reads g c = c.loop-from.invariant.reads

pub returns-clause-view : goal.returns-clause-view
returns-clause-view g c = c.loop-from.invariant.view

pub returns-clause-fault : goal.returns-clause-fault
returns-clause-fault g c = tt

pub returns-clause-rises : goal.returns-clause-rises
returns-clause-rises g c = tt

pub returns-clause-calm : goal.returns-clause-calm
returns-clause-calm g c = c.loop-from.invariant.calm

pub returns-then-body_length-bytes-clause-exact : goal.returns-then-body_length-bytes-clause-exact
returns-then-body_length-bytes-clause-exact g c = λ s holds honest.
    let r = c.args.repository.now in
    let size = body_length r.view s holds.agrees c.body_count.ensures.paired c.args.place
    c.requires in (
      λ is. absurd (not_halted false is refl),
      λ is. absurd (c.if-body_length-bytes.true
          (c.body_length.ensures.value ∙ sym size ∙ ap length is)),
    )

pub loop-from-preserved : goal.loop-from-preserved
loop-from-preserved g c =
    let start = c.args.repository.now in
    let mid = c.loop-from.repository in
    let now = c.read_body.new.self in
    let state = g.D.Disk.state in
    let is = c.loop-from.invariant in
    let one = c.in_ok-read_body.ensures in
    record {
      within = let h = c.min-count.ensures in let t = c.loop-from-test.true in omega (arith, h, t);
      view = one.view ∙ is.view;
      reads = reads_on (state start.disk) (state mid.disk) (state now.disk) is.reads
          (reads_once (state mid.disk) (state now.disk) one.keeps one.unchanged);
      calm = no_failure _ _ one.cause.later one.cause.shown ∙ is.calm;
      same = λ s holds honest.
          let was = one.keeps.was_honest honest in
          let held = holds_still start.view mid.view s (state start.disk) (state mid.disk) holds was
          (is.reads.unchanged was) is.view in
          let read = one.bytes s
          (read_standing mid.view s (state mid.disk) (g.met.D.Disk.sound mid.disk was) held)
          honest in
          let so_far = is.same s holds was in
          let min = c.min-count.ensures in
          let long = c.min-count.array_long in
          same_piece (object_body s.carousel.objects c.args.place) c.args.bytes.now
          c.read_body.new.out c.loop-from.from c.min-count.result
          (length (take c.min-count.result c.loop-from.piece))
          (let x = length-take c.min-count.result c.loop-from.piece in
          omega (arith, x, long, min)) read
          (equal_bytes _ _ c.if-ne.ensures) so_far;
    }

pub returns-clause-exact : goal.returns-clause-exact
returns-clause-exact g c = λ s holds honest.
    let r = c.args.repository.now in
    let size = body_length r.view s holds.agrees c.body_count.ensures.paired c.args.place
    c.requires in
    let is = c.loop-from.invariant.same s holds honest in
    let within = c.loop-from.invariant.within in
    let bytes : List ℕ = c.args.bytes.now in
    let body : List ℕ = object_body s.carousel.objects c.args.place in
    let t = c.loop-from-test.false in
    let all : c.loop-from.from ≡ length bytes = omega (arith, within, t) in
    let long : length body ≡ length bytes =
    size ∙ sym c.body_length.ensures.value ∙ c.if-body_length-bytes.false in
    (λ yes. whole body bytes c.loop-from.from all long is, λ same. refl)
