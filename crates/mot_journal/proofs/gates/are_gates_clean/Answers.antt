use Rattle.std.proofs.Common.{◌≡◌, ◌<◌, ◌≤◌, ◌+◌, true, ℕ, List, Some, None, length, take, false}
use Rattle.std.proofs.Common.{refl, sym, ◌∙◌, ap, subst, arith}
use Rattle.std.specs.Prelude.{is_some}
use Rattle.std.specs.Int.{div_ceil}
use Rattle.std.proofs.lemmas.List.{length-take}
use Rattle.disk_model.proofs.Laws.{reads_on, reads_once}
use Rattle.disk_model.specs.Disk.{Rises}
use Rattle.std.proofs.lemmas.Result.{IfOk-from_err}
use Rattle.mot_journal.proofs.Calls.{calm}
use Rattle.mot_journal.specs.Image.{gate_reads}
use Rattle.mot_journal.specs.Inner.Steps.{scan, slots_in_half}
use Rattle.mot_journal.proofs.Scan.{none, scan_is_clean, scanned_on, last_piece}
use Rattle.mot_journal.proofs.gates.are_gates_clean.Goals as goal

pub returns-in-None-clause-exact : goal.returns-in-None-clause-exact
returns-in-None-clause-exact g c = λ honest.
    let state = g.D.Disk.state in
    let geometry = c.args.geometry.now in
    let number = c.loop-number.number in
    let old = state c.args.disk.now in
    let honest1 = c.read.ensures.keeps.was_honest honest in
    let n : ℕ = c.min-count.result in
    let piece : List ℕ = take n c.loop-number.piece in
    let long : length piece ≡ n =
    omega (
      arith,
      length-take n c.loop-number.piece,
      c.min-count.array_long,
      c.min-count.ensures,
    ) in
    let lt : number < gate_reads geometry =
    subst (λ m. number < m) (c.div_ceil-number-end.ensures
    ∙ ap (λ h. div_ceil h 4096) c.half_size.ensures.value) c.loop-number-test.true in
    let all : scan false (slots_in_half geometry c.args.half c.args.layout old.bytes) ≡ none =
    c.loop-number.invariant.scanned honest1
    ∙ scanned_on geometry c.args.half c.args.layout old.bytes c.loop-number.is_shut number n
    (length piece) c.read.new.out
    (state c.loop-number.disk).bytes None c.half_size-in-loop-number.result c.half_start.result lt
    c.half_size-in-loop-number.ensures.value c.min-count.ensures c.half_start.ensures.value
    (c.loop-number.invariant.reads.unchanged honest1).bytes (c.in_ok-read.ensures.bytes honest) long
    (c.read.auto.out ∙ long) c.in-None.ensures in
    sym (ap is_some all) ∙ scan_is_clean
    (slots_in_half geometry c.args.half c.args.layout old.bytes)

pub loop-number-preserved : goal.loop-number-preserved
loop-number-preserved g c =
    let state = g.D.Disk.state in
    let geometry = c.args.geometry.now in
    let number = c.loop-number.number in
    let old = state c.args.disk.now in
    let so_far = c.loop-number.invariant in
    record {
      reads = reads_on old (state c.loop-number.disk) (state c.read.new.self) so_far.reads
          (reads_once (state c.loop-number.disk) (state c.read.new.self) c.read.ensures.keeps
          c.read.ensures.unchanged);
      calm = calm c.in_ok-read.ensures.cause ∙ so_far.calm;
      cost = omega (arith, c.read.ensures.called, so_far.cost);
      scanned = λ honest.
          let honest1 = c.read.ensures.keeps.was_honest honest in
          let n : ℕ = c.min-count.result in
          let piece : List ℕ = take n c.loop-number.piece in
          let long : length piece ≡ n =
          omega (
            arith,
            length-take n c.loop-number.piece,
            c.min-count.array_long,
            c.min-count.ensures,
          ) in
          let lt : number < gate_reads geometry =
          subst (λ m. number < m) (c.div_ceil-number-end.ensures
          ∙ ap (λ h. div_ceil h 4096) c.half_size.ensures.value) c.loop-number-test.true in
          so_far.scanned honest1
          ∙ scanned_on geometry c.args.half c.args.layout old.bytes c.loop-number.is_shut number n
          (length piece) c.read.new.out
          (state c.loop-number.disk).bytes (Some c.in-Some.is_now) c.half_size-in-loop-number.result
          c.half_start.result lt
          c.half_size-in-loop-number.ensures.value c.min-count.ensures c.half_start.ensures.value
          (so_far.reads.unchanged honest1).bytes (c.in_ok-read.ensures.bytes honest) long
          (c.read.auto.out ∙ long) c.in-Some.ensures;
    }

pub returns-clause-exact : goal.returns-clause-exact
returns-clause-exact g c = λ honest.
    let old = g.D.Disk.state c.args.disk.now in
    let geometry = c.args.geometry.now in
    let past : gate_reads geometry ≤ c.loop-number.number =
    subst (λ m. m ≤ c.loop-number.number)
    (c.div_ceil-number-end.ensures ∙ ap (λ h. div_ceil h 4096) c.half_size.ensures.value)
    (omega (arith, c.loop-number-test.false)) in
    sym (ap is_some (c.loop-number.invariant.scanned honest
    ∙ last_piece geometry c.args.half c.args.layout old.bytes c.loop-number.is_shut
    c.loop-number.number past))
    ∙ scan_is_clean (slots_in_half geometry c.args.half c.args.layout old.bytes)

not_both : false ≡ true → ⊥
not_both e = cc

-- one read more, of fewer than the most
within : (old mid new number most : ℕ) → mid ≡ old + number → new ≡ mid + 1 → number < most
    → new ≤ old + most
within old mid new number most e f less = omega arith

pub returns-in_err-read-clause-only_reads : goal.returns-in_err-read-clause-only_reads
returns-in_err-read-clause-only_reads g c =
    let state = g.D.Disk.state in
    let mid = state c.loop-number.disk in
    let now = state c.read.new.self in
    reads_on (state c.args.disk.now) mid now c.loop-number.invariant.reads
    (reads_once mid now c.read.ensures.keeps c.read.ensures.unchanged)

pub returns-in_err-read-clause-cause : goal.returns-in_err-read-clause-cause
returns-in_err-read-clause-cause g c = λ is.
    subst (λ n. Rises n (g.D.Disk.state c.read.new.self).failures) c.loop-number.invariant.calm
    (c.in_err-read.ensures.cause.cause refl)

pub returns-in_err-read-clause-calm : goal.returns-in_err-read-clause-calm
returns-in_err-read-clause-calm g c =
    IfOk-from_err c.from_residual.result _ c.from_residual.ensures.0

pub returns-in_err-read-clause-cost : goal.returns-in_err-read-clause-cost
returns-in_err-read-clause-cost g c =
    within _ _ _ _ _ c.loop-number.invariant.cost c.read.ensures.called
    (subst (λ m. c.loop-number.number < m) (c.div_ceil-number-end.ensures
    ∙ ap (λ h. div_ceil h 4096) c.half_size.ensures.value) c.loop-number-test.true)

pub returns-in_err-read-clause-exact : goal.returns-in_err-read-clause-exact
returns-in_err-read-clause-exact g c = λ honest.
    IfOk-from_err c.from_residual.result _ c.from_residual.ensures.0

pub returns-in-None-clause-only_reads : goal.returns-in-None-clause-only_reads
returns-in-None-clause-only_reads g c =
    let state = g.D.Disk.state in
    let mid = state c.loop-number.disk in
    let now = state c.read.new.self in
    reads_on (state c.args.disk.now) mid now c.loop-number.invariant.reads
    (reads_once mid now c.read.ensures.keeps c.read.ensures.unchanged)

pub returns-in-None-clause-cause : goal.returns-in-None-clause-cause
returns-in-None-clause-cause g c = λ is. absurd (not_both is)

pub returns-in-None-clause-calm : goal.returns-in-None-clause-calm
returns-in-None-clause-calm g c =
    calm c.in_ok-read.ensures.cause ∙ c.loop-number.invariant.calm

pub returns-in-None-clause-cost : goal.returns-in-None-clause-cost
returns-in-None-clause-cost g c =
    within _ _ _ _ _ c.loop-number.invariant.cost c.read.ensures.called
    (subst (λ m. c.loop-number.number < m) (c.div_ceil-number-end.ensures
    ∙ ap (λ h. div_ceil h 4096) c.half_size.ensures.value) c.loop-number-test.true)

pub returns-clause-only_reads : goal.returns-clause-only_reads
returns-clause-only_reads g c = c.loop-number.invariant.reads

pub returns-clause-cause : goal.returns-clause-cause
returns-clause-cause g c = λ is. absurd (not_both is)

pub returns-clause-calm : goal.returns-clause-calm
returns-clause-calm g c = c.loop-number.invariant.calm
