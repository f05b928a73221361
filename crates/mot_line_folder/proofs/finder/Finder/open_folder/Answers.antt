use Rattle.std.proofs.Common.{ap, refl}
use Rattle.mot_line_folder.specs.Spooling.OnlyReads.{none}
use Rattle.mot_line_folder.proofs.OnlyReads.{one_call}
use Rattle.mot_line_folder.proofs.finder.Finder.open_folder.Goals as goal

pub returns-in-Some-clause-reads : goal.returns-in-Some-clause-reads
returns-in-Some-clause-reads g c = none refl

pub returns-in_err-path-clause-reads : goal.returns-in_err-path-clause-reads
returns-in_err-path-clause-reads g c =
    none (ap (λ (s : _). g.S.System.calls s) c.begin_anew.ensures.system)

pub returns-in-Ok-clause-reads : goal.returns-in-Ok-clause-reads
returns-in-Ok-clause-reads g c = one_call _ refl (rw c.begin_anew.ensures.system at c.in-Ok.ensures)

pub returns-clause-reads : goal.returns-clause-reads
returns-clause-reads g c = one_call _ refl (rw c.begin_anew.ensures.system at c.in-Err.ensures)
