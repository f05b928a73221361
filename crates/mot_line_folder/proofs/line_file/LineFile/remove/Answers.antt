use Rattle.std.proofs.Common.{refl}
use Rattle.mot_line_folder.specs.LineFiles.Removes.{named, other, unknown}
use Rattle.mot_line_folder.proofs.Steps.{failed_is}
use Rattle.mot_line_folder.proofs.line_file.LineFile.remove.Goals as goal

pub returns-in_err-is_named : goal.returns-in_err-is_named
returns-in_err-is_named g c =
    unknown c.in_err-is_named.field-0.0 (failed_is _ _ c.from_residual.ensures.1) c.in_err-is_named.ensures

pub returns-then-branch : goal.returns-then-branch
returns-then-branch g c =
    named c.remove.result (g.S.System.calls c.is_named.new.system) c.unless_gone.ensures
    (rw c.if-branch.true at c.in_ok-is_named.ensures)
    (rw c.as_str.ensures.value at c.remove.ensures)

pub returns : goal.returns
returns g c = other refl (rw c.if-branch.false at c.in_ok-is_named.ensures)
