use Rattle.std.proofs.Common.{refl}
use Rattle.mot_line_folder.specs.LineFiles.IsFound.{kept, left, none, unopened, unseen}
use Rattle.mot_files.proofs.Laws.{step}
use Rattle.mot_line_folder.proofs.line_file.find.Goals as goal

pub returns-in-Err : goal.returns-in-Err
returns-in-Err g c = unseen c.in-Err.fault c.refused.ensures c.in-Err.ensures

pub returns-then-not-is_regular : goal.returns-then-not-is_regular
returns-then-not-is_regular g c =
    none c.in-Ok.named refl (λ is. let h = c.if-not-is_regular.ensures.1 is in cc) c.in-Ok.ensures

pub returns-in-Err-open : goal.returns-in-Err-open
returns-in-Err-open g c =
    unopened c.in-Ok.named c.in-Err-open.fault c.refused-in-Err-open.ensures
    (c.if-not-is_regular.ensures.0 refl) (step _ c.in-Err-open.ensures c.in-Ok.ensures)

pub returns-in-Lines : goal.returns-in-Lines
returns-in-Lines g c =
    kept c.in-Ok.named c.in-Ok-open.handle c.in-Lines.field-0 c.in-Lines.is (c.if-not-is_regular.ensures.0 refl)
    (rw (step _ c.in-Ok-open.ensures c.in-Ok.ensures) at c.look_into-found.ensures)

pub returns : goal.returns
returns g c =
    left c.in-Ok.named c.in-Ok-open.handle (g.S.System.calls c.look_into-found.new.system)
    (λ of is. c.in_default.not-Lines of is)
    (c.if-not-is_regular.ensures.0 refl)
    (rw (step _ c.in-Ok-open.ensures c.in-Ok.ensures) at c.look_into-found.ensures)
    c.close.ensures
