use Rattle.std.proofs.lemmas.Result.{IfOk-weaker}
use Rattle.mot_export.proofs.inspecting.text_about.Goals as goal

pub returns-in-Ok : goal.returns-in-Ok
returns-in-Ok g c = λ s agrees.
    IfOk-weaker c.text_of.result _ _ (λ text shown. record {
      told = c.in-Ok.inspection;
      figures = c.in-Ok.ensures.figures s agrees;
      shown = shown;
    }) c.text_of.ensures
