use Rattle.std.proofs.Common.{refl, subst, Ok, Err}
use Rattle.mot_files.specs.Writing.{Writes}
use Rattle.mot_files.specs.Placing.Replaces.{replaced, unmade, unnamed, unwritten}
use Rattle.mot_files.proofs.Laws.{same_error, step}
use Rattle.mot_files.proofs.beside.replace.Goals as goal

pub returns-in_err-handle : goal.returns-in_err-handle
returns-in_err-handle g c =
    unmade _ (same_error c.from_residual.result c.from_residual.ensures.1) c.in_err-handle.ensures

pub returns-in-Err : goal.returns-in-Err
returns-in-Err g c =
    unwritten c.in_ok-handle.handle c.in-Err.fault c.remove.result _ refl
    (subst (λ calls. Writes c.in_ok-handle.handle (Err c.in-Err.fault)
    (g.S.System.calls c.write_all-written.new.system) c.args.text.now calls) c.in_ok-handle.ensures c.in-Err.ensures)
    (step _ c.remove.ensures c.close.ensures)

pub returns-in-Err-rename : goal.returns-in-Err-rename
returns-in-Err-rename g c =
    unnamed c.in_ok-handle.handle c.in-Err-rename.fault c.remove-in-Err-rename.result _ refl
    (subst (λ calls. Writes c.in_ok-handle.handle (Ok tt)
    (g.S.System.calls c.write_all-written.new.system) c.args.text.now calls) c.in_ok-handle.ensures c.in_default.ensures)
    (step _ c.remove-in-Err-rename.ensures (step _ c.in-Err-rename.ensures c.close.ensures))

pub returns : goal.returns
returns g c =
    replaced c.in_ok-handle.handle _ refl
    (subst (λ calls. Writes c.in_ok-handle.handle (Ok tt)
    (g.S.System.calls c.write_all-written.new.system) c.args.text.now calls) c.in_ok-handle.ensures c.in_default.ensures)
    (step _ c.in_default-rename.ensures c.close.ensures)
