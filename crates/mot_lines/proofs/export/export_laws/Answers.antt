use Rattle.mot_lines.proofs.Exported.{export_laws}
use Rattle.mot_lines.proofs.export.export_laws.Goals as goal

pub returns : goal.returns
returns c = record { exports = export_laws }
