use Rattle.std.proofs.Common.{refl}
use Rattle.mot_line_folder.specs.LineFiles.Stamps.{held, unheld}
use Rattle.mot_line_folder.proofs.line_file.LineFile.stamp.Goals as goal

pub returns-in-Ok : goal.returns-in-Ok
returns-in-Ok g c = held c.in-Ok.held c.of.result refl c.of.ensures c.in-Ok.ensures

pub returns-in-Err : goal.returns-in-Err
returns-in-Err g c = unheld c.in-Err.field-0 refl c.in-Err.ensures
