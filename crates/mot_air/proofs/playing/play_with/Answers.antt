use Rattle.std.proofs.Common.{◌⊎◌}
use Rattle.std.specs.Prelude.{IsSomeAnd}
use Rattle.mot_air.specs.Playing.{AirsOn, tale_of}
use Rattle.mot_air.proofs.Retold.{fed_as, fed_out}
use Rattle.mot_air.proofs.playing.play_with.Goals as goal
use Rattle.mot_update.specs.Opening.{IsUnopened}

pub returns-clause-ended : goal.returns-clause-ended
returns-clause-ended g c =
    fed_out g.D.Disk.state (tale_of g.U.Update.tells c.args.how c.args.update.now c.feed_disk.new.update)
    c.args.how (g.O.Outlet.writes c.args.outlet.now) (g.O.Outlet.writes c.feed_disk.new.outlet)
    (g.D.Disk.state c.args.disk) c.feed_disk.result c.end_of.result c.end_of.ensures
    c.feed_disk.ensures.ended

pub returns-clause-lives : goal.returns-clause-lives
returns-clause-lives g c =
    let state = g.D.Disk.state in λ geometry first done was.
    fed_as (λ ending d. (state d).IsHonest → IsSomeAnd ending (λ r.
    IsUnopened r (state c.args.disk) (state d))
    ⊎ AirsOn geometry first done (tale_of g.U.Update.tells c.args.how c.args.update.now
    c.feed_disk.new.update) c.args.how ending (g.O.Outlet.writes c.args.outlet.now)
    (g.O.Outlet.writes c.feed_disk.new.outlet) (state c.args.disk) (state d))
    c.feed_disk.result c.end_of.result c.end_of.ensures
    (c.feed_disk.ensures.lives geometry first done was)
