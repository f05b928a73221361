use Rattle.mot_files.specs.Placing.Places.{placed, unnamed, unopened, unsynced}
use Rattle.mot_files.proofs.Laws.{same_error, step}
use Rattle.mot_files.proofs.beside.take_place.Goals as goal

pub returns-in_err-sync : goal.returns-in_err-sync
returns-in_err-sync g c =
    unsynced _ (same_error c.from_residual.result c.from_residual.ensures.1) c.in_err-sync.ensures

pub returns-in_err-rename : goal.returns-in_err-rename
returns-in_err-rename g c =
    unnamed _ (same_error c.from_residual-in_err-rename.result c.from_residual-in_err-rename.ensures.1)
    (step _ c.in_err-rename.ensures c.in_ok-sync.ensures)

pub returns-in_err-inside : goal.returns-in_err-inside
returns-in_err-inside g c =
    unopened _ (same_error c.from_residual-in_err-inside.result c.from_residual-in_err-inside.ensures.1)
    (step _ c.in_err-inside.ensures (step _ c.in_ok-rename.ensures c.in_ok-sync.ensures))

pub returns : goal.returns
returns g c =
    placed c.in_ok-inside.inside
    (step _ c.close.ensures (step _ c.sync-answer.ensures (step _ c.in_ok-inside.ensures
    (step _ c.in_ok-rename.ensures c.in_ok-sync.ensures))))
