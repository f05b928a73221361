use Rattle.std.proofs.Common.{ap, refl, subst, sym}
use Rattle.std.specs.List.{flat_map}
use Rattle.mot_lines.specs.Text.{packet_line}
use Rattle.mot_numbers.specs.declared.geometry.Geometry.{Geometry}
use Rattle.mot_session.specs.Served.{Writes}
use Rattle.mot_session.specs.OnAnyDisk.{no_memory, raw}
use Rattle.mot_session.specs.Session.{packets_at}
use Rattle.mot_session.proofs.serving.reading.write_raw.Goals as goal

pub returns-in-Ok : goal.returns-in-Ok
returns-in-Ok g c = λ view count same. (
  flat_map packet_line (packets_at view.journal.geometry c.in-Ok.group.items),
  raw c.args.kind c.args.tid c.args.body.now refl refl
      (ap (λ l. flat_map packet_line (packets_at view.journal.geometry l)) c.in-Ok.ensures),
  subst (λ (h : Geometry). Writes c.write_packets.result
      (flat_map packet_line (packets_at h c.in-Ok.group.items))
      (g.W.Write.contents c.args.writer.now) (g.W.Write.contents c.write_packets.new.writer))
      (sym same) (rw c.deref.ensures.value at c.write_packets.ensures),
)

pub returns-in-Err : goal.returns-in-Err
returns-in-Err g c = λ view count same. (_, no_memory tt refl refl, c.write_refusal.ensures)
