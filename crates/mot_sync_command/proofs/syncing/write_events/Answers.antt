use Rattle.mot_log.specs.Text.{look_line}
use Rattle.mot_sync_command.proofs.Written.{line_more}
use Rattle.mot_sync_command.proofs.syncing.write_events.Goals as goal

pub loop-event-preserved : goal.loop-event-preserved
loop-event-preserved g c =
    line_more look_line c.args.events.now c.loop-event.event-index c.event-item.result
    (g.L.Write.contents c.args.log.now) (g.L.Write.contents c.loop-event.log)
    (g.L.Write.contents c.write_event.new.log) c.loop-event-test.true c.event-item.is
    c.loop-event.invariant c.in_ok-write_event.ensures.written
