use Rattle.std.proofs.KnownBytes.{Keeps-refl}
use Rattle.mot_air.proofs.on_air.play_into.Goals as goal

pub returns-in-Output-clause-played : goal.returns-in-Output-clause-played
returns-in-Output-clause-played g c = c.play_opened.ensures.played

pub returns-in-Output-clause-quiet : goal.returns-in-Output-clause-quiet
returns-in-Output-clause-quiet g c = λ output. Keeps-refl _
