use Rattle.std.proofs.Common.{refl, sym}
use Rattle.disk_model.proofs.Laws.{reads_none}
use Rattle.mot_playout.specs.Playing.{IsReadRefusal}
use Rattle.mot_playout.proofs.ReadRefusals.{at_once, read_refused}
use Rattle.mot_playout.proofs.server.Server.body_is.Goals as goal

pub returns-then-halted-clause-only_reads : goal.returns-then-halted-clause-only_reads
returns-then-halted-clause-only_reads g c = reads_none (g.D.Disk.state c.args.self.now.disk)

pub returns-then-halted-clause-view : goal.returns-then-halted-clause-view
returns-then-halted-clause-view g c = refl

pub returns-then-halted-clause-player : goal.returns-then-halted-clause-player
returns-then-halted-clause-player g c = refl

pub returns-then-halted-clause-going : goal.returns-then-halted-clause-going
returns-then-halted-clause-going g c = tt

pub returns-then-halted-clause-refused : goal.returns-then-halted-clause-refused
returns-then-halted-clause-refused g c =
    IsReadRefusal.halted (sym c.if-halted.ensures.value) refl refl

pub returns-then-halted-clause-calm : goal.returns-then-halted-clause-calm
returns-then-halted-clause-calm g c = tt

pub returns-then-halted-clause-exact : goal.returns-then-halted-clause-exact
returns-then-halted-clause-exact g c = λ s holds honest. tt

pub returns-clause-only_reads : goal.returns-clause-only_reads
returns-clause-only_reads g c = rw (← c.self.view_is) c.is_body.ensures.only_reads

pub returns-clause-view : goal.returns-clause-view
returns-clause-view g c = rw (← c.self.view_is) c.is_body.ensures.view

pub returns-clause-player : goal.returns-clause-player
returns-clause-player g c = rw (← c.self.view_is) refl

pub returns-clause-going : goal.returns-clause-going
returns-clause-going g c = at_once c.is_body.result _ (sym c.if-halted.ensures.value)

pub returns-clause-refused : goal.returns-clause-refused
returns-clause-refused g c =
    read_refused c.is_body.result _ _ _ _ (sym c.if-halted.ensures.value) c.is_body.ensures.fault
    (rw (← c.self.view_is) c.is_body.ensures.rises)

pub returns-clause-calm : goal.returns-clause-calm
returns-clause-calm g c = rw (← c.self.view_is) c.is_body.ensures.calm

pub returns-clause-exact : goal.returns-clause-exact
returns-clause-exact g c = rw (← c.self.view_is) c.is_body.ensures.exact
