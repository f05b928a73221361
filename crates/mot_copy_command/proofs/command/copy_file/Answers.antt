use Rattle.mot_playout.specs.Attempts.{fault_of}
use Rattle.std.proofs.Common.{◌≡◌, inl, inr, refl, subst, sym}
use Rattle.std.proofs.KnownBytes.{Keeps-refl}
use Rattle.disk_store.proofs.Laws.{since_opened}
use Rattle.mot_copy_command.specs.Command.{ComesToCopy, CopiesFile, CopiesTo, OpensTwo}
use Rattle.mot_copy_command.proofs.Lifts.{syncs_of}
use Rattle.mot_numbers.specs.declared.refusal.Refusal.TheVariants.{DeviceFault}
use Rattle.mot_outcome.specs.Outcome.{Finishes}
use Rattle.mot_copy_command.proofs.command.copy_file.Goals as goal

pub returns-clause-ended : goal.returns-clause-ended
returns-clause-ended g c =
    let sizes = c.args.task.now.sizes in
    let ids = c.args.task.now.after in
    let old = g.W.Write.contents c.args.writer.now in
    let new = g.W.Write.contents c.copy_disk-ended.new.writer in
    let end = c.copy_disk-ended.result in
    let copies = c.copy_disk-ended.ensures.ended in
    inr (since_opened c.in-Ok.disk.disk end.0.disk.disk
    (CopiesTo sizes ids (fault_of end.0.result) end.1 old new) c.in-Ok.ensures.first end.0.disk.begins
    (syncs_of sizes ids (fault_of end.0.result) end.1 old new _ _ copies).keeps copies)

pub returns-in-Err-clause-ended : goal.returns-in-Err-clause-ended
returns-in-Err-clause-ended g c =
    let old = g.W.Write.contents c.args.writer.now in
    subst (λ (f : _). Finishes (λ r. r ≡ DeviceFault) (λ ending used.
    CopiesFile c.args.task.now.sizes c.args.task.now.after ending used old old) f old old)
    (sym c.unopened.ensures) (inl (refl, record { untouched = tt; silent = Keeps-refl _ }))

pub returns-clause-files : goal.returns-clause-files
returns-clause-files g c =
    let end = c.copy_disk-ended.result in
    subst (λ before. ComesToCopy (fault_of end.0.result) c.args.task.now.new.now end.1 before
    (g.M.System.System.calls c.copy_disk-ended.new.host.system)) c.in-Ok.ensures.calls c.copy_disk-ended.ensures.files

pub returns-in-Err-clause-files : goal.returns-in-Err-clause-files
returns-in-Err-clause-files g c =
    subst (λ (f : _). OpensTwo (fault_of f.result) c.args.task.now.disk.now c.args.task.now.new.now
    f.disk (g.M.System.System.calls c.args.host.now.system) (g.M.System.System.calls c.disk.new.self.system)) (sym c.unopened.ensures)
    (refl, c.in-Err.ensures.calls)
