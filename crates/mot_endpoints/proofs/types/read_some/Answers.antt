use Rattle.std.proofs.Common.{length, take, ◌-◌}
use lib.Seq.{length-take-le}
use Rattle.mot_endpoints.proofs.ReadsOf.{take_more}
use Rattle.mot_line_folder.proofs.Laws.{given_is}
use Rattle.mot_endpoints.proofs.types.read_some.Goals as goal

pub returns-in-Ok-clause-noted : goal.returns-in-Ok-clause-noted
returns-in-Ok-clause-noted g c = (
  take c.in-Ok.count c.read.new.room,
  length-take-le c.in-Ok.count c.read.new.room c.in-Ok.ensures.fits,
  given_is c.args.handle c.in-Ok.count c.read.new.room (g.S.System.calls c.args.system.now)
      (g.S.System.calls c.read.new.self) c.in-Ok.ensures.fits c.in-Ok.ensures.noted,
  take_more c.args.at (length c.args.room.now - c.args.at) c.in-Ok.count c.args.room.now
      c.read.new.room c.requires c.in-Ok.ensures.fits,
)
