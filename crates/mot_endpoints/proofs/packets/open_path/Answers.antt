use Rattle.std.proofs.Common.{false, refl, true}
use Rattle.mot_endpoints.specs.Packets.OpensPath.{asked, unopened}
use Rattle.mot_endpoints.proofs.Exits.{err_of}
use Rattle.mot_files.proofs.Laws.{step}
use Rattle.mot_endpoints.proofs.packets.open_path.Goals as goal

pub returns-in_err-handle : goal.returns-in_err-handle
returns-in_err-handle g c =
    unopened c.in_err-handle.field-0.0 (err_of c.from_residual.ensures.1) c.in_err-handle.ensures

pub returns-then-is_terminal : goal.returns-then-is_terminal
returns-then-is_terminal g c =
    asked c.in_ok-handle.handle true refl (step _ c.if-is_terminal.ensures c.in_ok-handle.ensures)

pub returns : goal.returns
returns g c =
    asked c.in_ok-handle.handle false refl (step _ c.if-is_terminal.ensures c.in_ok-handle.ensures)
