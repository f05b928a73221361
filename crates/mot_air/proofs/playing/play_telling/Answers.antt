use Rattle.std.proofs.Common.{◌∙◌}
use Rattle.mot_air.specs.Inner.Fed.{disk_of, ending_of}
use Rattle.mot_air.proofs.Retold.{fed_out, plays_as, reported_retold}
use Rattle.mot_air.proofs.playing.play_telling.Goals as goal

pub returns : goal.returns
returns g c =
    let how = c.args.how in
    let fed = c.feed_reported-fed.result in
    let before = g.O.Outlet.writes c.args.outlet.now in
    let after = g.O.Outlet.writes c.feed_reported-fed.new.outlet in
    let start = g.D.Disk.state c.args.disk in
    fed_out g.D.Disk.state _ how before after start fed c.end_of.result
    c.end_of.ensures
    (plays_as _ _ (reported_retold g.U.Update.tells how _ c.feed_reported-fed.new.reported
    c.into_parts-update.result.0 (c.into_parts-update.ensures.update ∙ c.tell_end.ensures))
    how (ending_of fed) before after start (g.D.Disk.state (disk_of fed)) c.feed_reported-fed.ensures)
