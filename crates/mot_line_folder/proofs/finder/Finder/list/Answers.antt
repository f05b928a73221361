use Rattle.std.proofs.Common.{refl}
use Rattle.mot_line_folder.specs.Spooling.OnlyReads.{more}
use Rattle.mot_line_folder.proofs.OnlyReads.{and_then}
use Rattle.mot_line_folder.proofs.finder.Finder.list.Goals as goal

pub returns-in-Ok-false-clause-reads : goal.returns-in-Ok-false-clause-reads
returns-in-Ok-false-clause-reads g c =
    and_then c.in_ok-folder.ensures.reads c.read_names-is_whole.ensures.reads

pub returns-in_default-clause-reads : goal.returns-in_default-clause-reads
returns-in_default-clause-reads g c =
    more _ _ (and_then c.in_ok-folder.ensures.reads c.read_names-is_whole.ensures.reads) refl c.close.ensures

pub returns-in_default-clause-closes : goal.returns-in_default-clause-closes
returns-in_default-clause-closes g c = λ _. (c.in_ok-folder.folder, _, c.close.ensures)
