use Rattle.std.proofs.Common.{None, [], refl}
use Rattle.disk_model.proofs.Laws.{unchanged_none}
use Rattle.mot_update.proofs.Laws.{has_read}
use Rattle.mot_update.proofs.between.NoUpdateUpdate.update.Goals as goal

pub returns-clause-run : goal.returns-clause-run
returns-clause-run g c = λ s holds honest.
    let old = c.args.server.now in
    let state = g.D.Disk.state old.disk in
    record {
      commands = [];
      marks = [];
      run = (has_read old old state state s None (g.met.D.Disk.sound old.disk honest) refl refl
          honest (unchanged_none state) holds).0;
      told = refl;
    }
