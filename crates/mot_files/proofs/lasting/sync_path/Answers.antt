use Rattle.mot_files.specs.Lasting.SyncsPath.{tried, unopened}
use Rattle.mot_files.proofs.Laws.{same_error, step}
use Rattle.mot_files.proofs.lasting.sync_path.Goals as goal

pub returns-in_err-handle : goal.returns-in_err-handle
returns-in_err-handle g c =
    unopened _ (same_error c.from_residual.result c.from_residual.ensures.1) c.in_err-handle.ensures

pub returns : goal.returns
returns g c =
    tried c.in_ok-handle.handle c.sync-answer.result c.unless_unable.ensures
    (step _ c.close.ensures (step _ c.sync-answer.ensures c.in_ok-handle.ensures))
