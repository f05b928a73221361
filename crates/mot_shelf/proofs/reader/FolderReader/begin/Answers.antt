use Rattle.std.proofs.Common.{None, ap, refl}
use Rattle.mot_shelf.specs.Gives.Asks.{closed}
use Rattle.mot_shelf.specs.View.{FolderView}
use Rattle.mot_shelf.proofs.reader.FolderReader.begin.Goals as goal

pub returns-clause-asks : goal.returns-clause-asks
returns-clause-asks g c = λ given.
    closed c.close_listing.ensures
    (ap {B = FolderView} (λ seen. record {
      path = c.args.self.now.path.now;
      at_once = c.args.self.now.at_once;
      listing = None;
      seen = seen;
      calls = g.S.System.calls c.close_listing.new.system;
    }) c.none_seen.ensures) refl
