use Rattle.std.proofs.Common.{sym, ◌∙◌, refl, arith, rules}
use Rattle.std.proofs.lemmas.Result.{IfErr-weaker}
use Rattle.disk_model.proofs.Laws.{keeps_on}
use Rattle.mot_copy_command.specs.Copied.{already, device}
use Rattle.mot_copy_command.proofs.Moments.{asked_makes, asked_none, filled_then, no_magic, refused_of}
use Rattle.mot_copy_command.proofs.Moments.{rest_then}
use Rattle.mot_copy_command.proofs.Steps.{fault_on}
use Rattle.mot_copy_command.proofs.copying.copy_over.Goals as goal
use Rattle.mot_copy_command.specs.declared.copying.NotCopied.TheVariants.{Refused}
use Rattle.mot_numbers.specs.declared.refusal.Refusal.TheVariants.{AlreadyFormatted, DeviceFault}
use Rattle.mot_repository.specs.Copy.{bytes_in_row, bytes_of_extents}

pub returns-in_default-clause-makes : goal.returns-in_default-clause-makes
returns-in_default-clause-makes g c =
    asked_makes c.args.from.now.view c.args.geometry.now _ _ (g.E.Disk.state c.args.to.now)
    (g.E.Disk.state c.reads_magic.new.disk) (Refused DeviceFault) c.reads_magic.ensures.only_syncs
    (g.met.E.Disk.sound c.args.to.now) (device refl (c.in_default.ensures.cause.cause refl))

pub returns-then-is_formatted-clause-makes : goal.returns-then-is_formatted-clause-makes
returns-then-is_formatted-clause-makes g c =
    asked_makes c.args.from.now.view c.args.geometry.now _ _ (g.E.Disk.state c.args.to.now)
    (g.E.Disk.state c.reads_magic.new.disk) (Refused AlreadyFormatted)
    c.reads_magic.ensures.only_syncs (g.met.E.Disk.sound c.args.to.now)
    (already refl (λ honest. (
      sym (c.in-Ok.ensures.exact honest) ∙ c.if-is_formatted.true,
      c.reads_magic.ensures.only_syncs.still honest,
    )))

pub returns-clause-makes : goal.returns-clause-makes
returns-clause-makes g c =
    let old = g.E.Disk.state c.args.to.now in
    let mid = g.E.Disk.state c.reads_magic.new.disk in
    let new = g.E.Disk.state c.fill.new.to in
    let asks = c.reads_magic.ensures.only_syncs in
    let keeps = c.fill.ensures.keeps.frame in
    let reads = c.fill.ensures.only_reads.keeps.later in
    record {
      keeps = keeps_on old mid new asks.keeps keeps;
      refused = IfErr-weaker c.fill.result _ _
          (λ why is. refused_of (fault_on _ old.failures _ mid.failures _ new.failures
          (omega arith) reads asks.keeps.later keeps.later is)) c.fill.ensures.fault;
      already = λ honest magic.
          absurd (no_magic c.in-Ok.is_formatted c.if-is_formatted.false
          (c.in-Ok.ensures.exact (keeps.was_honest honest) ∙ magic));
      not_over = λ honest.
          search (
            rules,
            sym (c.in-Ok.ensures.exact (keeps.was_honest honest))
                ∙ c.if-is_formatted.false,
          );
      rest = λ honest.
          let honest1 = keeps.was_honest honest in
          rest_then c.args.geometry.now old mid new
          (g.met.E.Disk.sound c.args.to.now (asks.keeps.was_honest honest1))
          (asks.still honest1) (c.fill.ensures.rest honest1);
    }

pub returns-clause-any_moment : goal.returns-clause-any_moment
returns-clause-any_moment g c = λ read_honest honest fold none.
    let view = c.args.from.now.view in
    let old = g.E.Disk.state c.args.to.now in
    let asks = c.reads_magic.ensures.only_syncs in
    let honest1 = c.fill.ensures.keeps.frame.was_honest honest in
    let sound = g.met.E.Disk.sound c.args.to.now (asks.keeps.was_honest honest1) in
    let n = bytes_of_extents view.extents in
    let row = bytes_in_row view.journal.geometry view.extents
    (g.D.Disk.state c.args.from.now.disk).bytes in
    let still = asks.still honest1 in
    filled_then c.args.geometry.now c.args.records.now n row old sound none still
    (c.fill.ensures.any_moment read_honest honest1 fold
    (asked_none c.args.geometry.now c.args.records.now n row old sound none still))
