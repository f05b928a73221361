use Rattle.std.proofs.Common.{Err, Ok}
use Rattle.mot_files.proofs.Laws.{step}
use Rattle.mot_line_folder.specs.Spooling.FinishesFile.{cut, ended, goes_on}
use Rattle.mot_line_folder.proofs.spool.Spool.finish_file.Goals as goal

pub returns-then-lines-clause-finishes : goal.returns-then-lines-clause-finishes
returns-then-lines-clause-finishes g c = cut c.if-lines.true c.close.ensures

pub returns-in-Ok-eq0-clause-finishes : goal.returns-in-Ok-eq0-clause-finishes
returns-in-Ok-eq0-clause-finishes g c =
    ended c.read.new.room (g.S.System.calls c.read.new.self) c.take_away.ensures.takes.0 c.if-lines.false
    (rw c.in-Ok-eq0.field-0-test at c.in-Ok-eq0.ensures.noted) c.take_away.ensures.takes.1

pub returns-in-Ok-clause-finishes : goal.returns-in-Ok-clause-finishes
returns-in-Ok-clause-finishes g c =
    goes_on c.read.new.room (Ok c.in-Ok.field-0) c.if-lines.false
    (λ same. let h = same in absurd (c.in-Ok.field-0-test.1 cc))
    (step _ c.close-in-Ok.ensures c.in-Ok.ensures.noted)

pub returns-in-Err-clause-finishes : goal.returns-in-Err-clause-finishes
returns-in-Err-clause-finishes g c =
    goes_on c.read.new.room (Err c.in-Err.field-0) c.if-lines.false (λ same. let h = same in cc)
    (step _ c.close-in-Err.ensures c.in-Err.ensures.noted)
