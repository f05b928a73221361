use Rattle.std.proofs.Common.{refl, ◌∙◌}
use Rattle.mot_line_folder.specs.Spooling.ServesFile.{ended, failed, given}
use Rattle.mot_line_folder.proofs.spool.Spool.read_file.Goals as goal

pub returns-in-Ok-eq0-clause-serves : goal.returns-in-Ok-eq0-clause-serves
returns-in-Ok-eq0-clause-serves g c =
    ended c.read.new.self.is_cut (g.S.System.calls c.read.new.system) c.take_away.ensures.takes.0
    (rw c.in-Ok-eq0.field-0-test at c.in-Ok-eq0.ensures.reads)
    (rw (c.read.ensures.handle, c.read.ensures.path) at c.take_away.ensures.takes.1)
    refl (c.take_away.ensures.open ∙ c.requires)

pub returns-in-Ok-clause-serves : goal.returns-in-Ok-clause-serves
returns-in-Ok-clause-serves g c =
    given c.read.new.self c.in-Ok.count c.in-Ok.ensures.reads c.read.ensures.handle c.read.ensures.path
    c.in-Ok.count-test.1 refl refl

pub returns-in-Err-clause-serves : goal.returns-in-Err-clause-serves
returns-in-Err-clause-serves g c =
    failed c.read.new.self.is_cut (g.S.System.calls c.read.new.system) c.in-Err.fault c.error.result c.leave_unread.ensures.leaves.0
    c.in-Err.ensures.reads
    (rw c.read.ensures.handle at c.leave_unread.ensures.leaves.1) refl refl c.requires
