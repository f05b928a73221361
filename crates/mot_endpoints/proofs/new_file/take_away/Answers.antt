use Rattle.std.proofs.Common.{refl}
use Rattle.mot_endpoints.specs.Placing.TakesAway.{other, same, unheld, unseen}
use Rattle.mot_files.proofs.Laws.{step}
use Rattle.mot_endpoints.proofs.new_file.take_away.Goals as goal

pub returns-in-Err : goal.returns-in-Err
returns-in-Err g c = unseen c.in-Err.field-0 c.in-Err.ensures

pub returns-in-Err-look_at : goal.returns-in-Err-look_at
returns-in-Err-look_at g c =
    unheld c.in-Ok.named c.in-Err-look_at.field-0 (step _ c.in-Err-look_at.ensures c.in-Ok.ensures)

pub returns-then-is_same : goal.returns-then-is_same
returns-then-is_same g c =
    same c.in-Ok.named c.in-Ok-look_at.held c.remove.result (c.if-is_same.ensures.0 refl)
    (step _ c.remove.ensures (step _ c.in-Ok-look_at.ensures c.in-Ok.ensures))

pub returns-else-is_same : goal.returns-else-is_same
returns-else-is_same g c =
    other c.in-Ok.named c.in-Ok-look_at.held (λ is. let h = c.if-is_same.ensures.1 is in cc)
    (step _ c.in-Ok-look_at.ensures c.in-Ok.ensures)
