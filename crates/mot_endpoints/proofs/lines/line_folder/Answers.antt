use Rattle.std.proofs.Common.{◌∷◌, [], refl}
use Rattle.mot_endpoints.specs.Opened.BeginsTo.{unfit, vain}
use Rattle.mot_endpoints.proofs.lines.line_folder.Goals as goal

pub returns-in-Err-clause-opens : goal.returns-in-Err-clause-opens
returns-in-Err-clause-opens g c =
    rw c.in-Some.is
    (vain [] _ [] _ refl refl (c.unread.ensures, (c.in-Err.fault, c.in-Err.ensures.calls)))

pub returns-in_default-new-clause-opens : goal.returns-in_default-new-clause-opens
returns-in_default-new-clause-opens g c =
    rw c.in-Some.is (unfit (_ ∷ []) [] refl (rw c.no_memory.ensures refl)
    (_, c.in-Ok.ensures.calls, refl))

pub returns-clause-checked : goal.returns-clause-checked
returns-clause-checked g c = rw c.in-Ok.ensures.path c.in-Ok.ensures.checked
