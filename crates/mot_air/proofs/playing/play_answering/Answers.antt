use Rattle.std.proofs.Common.{◌∙◌, ◌-◌, ap, subst, sym}
use Rattle.mot_air.specs.Inner.Fed.{disk_of, ending_of}
use Rattle.mot_air.specs.Telling.{EndsReading, lines_at}
use Rattle.mot_air.proofs.Retold.{answered_retold, fed_out, plays_as, seen}
use Rattle.mot_air.proofs.playing.play_answering.Goals as goal
use Rattle.mot_line_folder.specs.Spool.{spool_system, spool_view}
use Rattle.mot_line_folder.specs.Spooling.{GaveLines}

pub returns : goal.returns
returns g c =
    let how = c.args.how in
    let fed = c.feed_lines-fed.result in
    let ended = c.end_of.result in
    let before = g.O.Outlet.writes c.args.outlet.now in
    let after = g.O.Outlet.writes c.feed_lines-fed.new.outlet in
    let start = g.D.Disk.state c.args.disk in
    let last = c.feed_lines-fed.new.lines in
    let see = spool_view g.F.System.calls in
    let made = c.lines_between-lines.ensures in
    let place = c.args.lines.place in (
      seen last see,
      sym (c.into_parts-spool.ensures.update ∙ c.tell_end.ensures ∙ c.finish.ensures.update),
      subst (λ e. EndsReading e (see last.reader) c.into_calls.result.all)
          (sym c.end_of.ensures.ending)
          (subst (EndsReading (ending_of fed) (see last.reader))
          (sym (c.into_calls.ensures ∙ ap g.F.System.calls c.into_system.ensures
          ∙ ap (λ (r : _). g.F.System.calls (spool_system r))
          c.into_parts-spool.ensures.reader))
          c.finish.ensures.lines),
      fed_out g.D.Disk.state _ how before after start fed ended c.end_of.ensures
          (plays_as _ _ (answered_retold c.lines_between-lines.result last GaveLines see
          g.U.Update.tells how (c.args.lines.every - 1) c.args.update
          (lines_at place.path.now (g.F.System.calls place.system)) c.args.lines.hand made.every made.due made.unread made.hand
          (ap (λ (r : _). r.update) made.reported))
          how (ending_of fed) before after start (g.D.Disk.state (disk_of fed))
          c.feed_lines-fed.ensures),
    )
