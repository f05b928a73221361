use Rattle.std.proofs.Common.{refl}
use Rattle.mot_line_folder.specs.LineFiles.IsNamed.{seen, unheld, unseen}
use Rattle.mot_files.proofs.Laws.{step}
use Rattle.mot_line_folder.proofs.Steps.{failed_is}
use Rattle.mot_line_folder.proofs.line_file.LineFile.is_named.Goals as goal

pub returns-in_err-held : goal.returns-in_err-held
returns-in_err-held g c =
    unheld c.in_err-held.field-0.0 (failed_is _ _ c.from_residual.ensures.1) c.in_err-held.ensures

pub returns-in-Ok : goal.returns-in-Ok
returns-in-Ok g c =
    seen c.in_ok-held.held c.in-Ok.named c.is_same.result refl c.is_same.ensures
    (step _ (rw c.as_str.ensures.value at c.in-Ok.ensures) c.in_ok-held.ensures)

pub returns-in-Err : goal.returns-in-Err
returns-in-Err g c =
    unseen c.in_ok-held.held c.in-Err.fault c.refused_name.ensures
    (step _ (rw c.as_str.ensures.value at c.in-Err.ensures) c.in_ok-held.ensures)
