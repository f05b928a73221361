use Rattle.std.proofs.Common.{refl}
use Rattle.mot_shelf.specs.Gives.Asks.{names_kept, names_unkept}
use Rattle.mot_shelf.proofs.reader.FolderReader.keep_names.Goals as goal

pub returns-in-Ok-clause-asks : goal.returns-in-Ok-clause-asks
returns-in-Ok-clause-asks g c = λ given. names_kept c.in-Ok.ensures refl refl

pub returns-in-Err-clause-asks : goal.returns-in-Err-clause-asks
returns-in-Err-clause-asks g c = λ given.
    names_unkept (c.in-Err.fault, c.in-Err.ensures) refl refl
