use Rattle.std.proofs.Common.{refl}
use Rattle.mot_line_folder.specs.Spooling.OnlyReads.{more, none}
use Rattle.mot_line_folder.proofs.finder.Finder.read_names.Goals as goal

pub returns-in_err-room-clause-reads : goal.returns-in_err-room-clause-reads
returns-in_err-room-clause-reads g c = none refl

pub loop-init : goal.loop-init
loop-init g c = record { reads = none refl; folder = refl }

pub returns-in-Ok-eq0-clause-reads : goal.returns-in-Ok-eq0-clause-reads
returns-in-Ok-eq0-clause-reads g c = more _ _ c.loop.invariant.reads refl c.in-Ok-eq0.ensures.noted

pub returns-in_err-keep_all-in-Ok-clause-reads : goal.returns-in_err-keep_all-in-Ok-clause-reads
returns-in_err-keep_all-in-Ok-clause-reads g c = more _ _ c.loop.invariant.reads refl c.in-Ok.ensures.noted

pub returns-in-Err-clause-reads : goal.returns-in-Err-clause-reads
returns-in-Err-clause-reads g c = more _ _ c.loop.invariant.reads refl c.in-Err.ensures.noted

pub loop-preserved : goal.loop-preserved
loop-preserved g c = record {
  reads = more _ _ c.loop.invariant.reads refl c.in-Ok.ensures.noted;
  folder = c.loop.invariant.folder;
}
