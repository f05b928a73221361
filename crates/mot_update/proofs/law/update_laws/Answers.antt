use Rattle.mot_update.proofs.Exported.{exports_are_taken}
use Rattle.mot_update.proofs.Made.{hold}
use Rattle.mot_update.proofs.law.update_laws.Goals as goal

pub returns : goal.returns
returns c = record { laws = hold; exports = exports_are_taken }
