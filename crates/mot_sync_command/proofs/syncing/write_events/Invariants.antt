use Rattle.std.proofs.Common.{flat_map, take}
use Rattle.std.specs.Io.KnownBytes.{Appends}
use Rattle.mot_log.specs.Text.{look_line}
use Rattle.mot_sync_command.proofs.syncing.write_events.Given as goal

abbrev pub invariant-loop-event : goal.invariant-loop-event
invariant-loop-event g l = Appends (g.L.Write.contents l.initial.log) (g.L.Write.contents l.log)
    (flat_map look_line (take l.event-index l.events))
