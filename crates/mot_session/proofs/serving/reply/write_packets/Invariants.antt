use Rattle.std.proofs.Common.{take}
use Rattle.std.specs.List.{flat_map}
use Rattle.std.specs.Io.KnownBytes.{Appends}
use Rattle.mot_lines.specs.Text.{packet_line}
use Rattle.mot_session.specs.Session.{packets_at}
use Rattle.mot_session.proofs.serving.reply.write_packets.Given as goal

abbrev pub invariant-loop-number : goal.invariant-loop-number
invariant-loop-number g l =
    Appends (g.W.Write.contents l.initial.writer) (g.W.Write.contents l.writer)
    (flat_map packet_line (take l.number (packets_at l.geometry l.group)))
