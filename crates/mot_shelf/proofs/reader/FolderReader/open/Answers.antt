use Rattle.std.proofs.Common.{refl}
use Rattle.mot_shelf.specs.Gives.Asks.{opened, unopened}
use Rattle.mot_shelf.proofs.reader.FolderReader.open.Goals as goal

pub returns-in-Ok-clause-asks : goal.returns-in-Ok-clause-asks
returns-in-Ok-clause-asks g c = λ given. opened c.in-Ok.handle c.in-Ok.ensures refl refl

pub returns-in-Err-clause-asks : goal.returns-in-Err-clause-asks
returns-in-Err-clause-asks g c = λ given. unopened c.in-Err.error c.in-Err.ensures refl refl
