use Rattle.std.proofs.Common.{◌≡◌, ◌++◌, ◌+◌, take, drop, sym, ap, ◌∙◌, subst, length, ◌≤◌}
use Rattle.std.specs.List.{flat_map}
use Rattle.std.specs.Io.KnownBytes.{Appends}
use Rattle.std.proofs.KnownBytes.{Appends-trans}
use Rattle.std.proofs.lemmas.List.{take_all}
use Rattle.mot_numbers.specs.Geometry.{packet_room}
use Rattle.std.proofs.lemmas.Result.{err_from_is_err_and}
use Rattle.mot_lines.specs.Text.{packet_line}
use Rattle.mot_packets.proofs.Laws.{length-packets_of_group}
use Rattle.mot_session.specs.Session.{packets_at}
use Rattle.mot_session.specs.Served.{WritesFront}
use Rattle.mot_session.proofs.Fronts.{WritesFront-after, WritesFront-before}
use Rattle.mot_session.proofs.Joined.{lines-parts}
use Rattle.mot_session.proofs.Packets.{packets-more}
use Rattle.mot_session.proofs.serving.reply.write_packets.Goals as goal

pub loop-number-preserved : goal.loop-number-preserved
loop-number-preserved g c =
    let n = c.loop-number.number in
    let all = packets_at c.args.geometry.now c.args.group.now in
    let text : c.as_slice.result.now ≡ packet_line c.cut_packet-packet.result.items =
    c.as_slice.ensures.value ∙ c.set_packet_text.ensures in
    let more = packets-more c.args.geometry.now c.args.group.now c.cut_packet-packet.result.items n
    (rw (c.packet_count-number-end.ensures.count, c.length_of_packets-length.ensures)
    at c.loop-number-test.true)
    (rw (c.room.ensures, c.length_of_packets-length.ensures, c.address_of_packets-address.ensures)
    at c.cut_packet-packet.ensures.written) in
    subst (Appends (g.W.Write.contents c.args.writer.now)
    (g.W.Write.contents c.write_whole.new.writer))
    (ap (λ l. flat_map packet_line (take n all) ++ l) text ∙ sym more)
    (Appends-trans _ _ _ _ _ c.loop-number.invariant c.in_ok-write_whole.ensures)

pub returns-in_err-write_whole : goal.returns-in_err-write_whole
returns-in_err-write_whole g c =
    let p = err_from_is_err_and c.from_residual.result c.from_residual.ensures.1 in
    let n = c.loop-number.number in
    let all = packets_at c.args.geometry.now c.args.group.now in
    let text : c.as_slice.result.now ≡ packet_line c.cut_packet-packet.result.items =
    c.as_slice.ensures.value ∙ c.set_packet_text.ensures in
    let more = packets-more c.args.geometry.now c.args.group.now c.cut_packet-packet.result.items n
    (rw (c.packet_count-number-end.ensures.count, c.length_of_packets-length.ensures)
    at c.loop-number-test.true)
    (rw (c.room.ensures, c.length_of_packets-length.ensures, c.address_of_packets-address.ensures)
    at c.cut_packet-packet.ensures.written) in
    let front = WritesFront-after (flat_map packet_line (take n all))
    c.as_slice.result.now _ _ _ c.loop-number.invariant c.in_err-write_whole.ensures in
    let whole = WritesFront-before
    (flat_map packet_line (take n all) ++ c.as_slice.result.now)
    (flat_map packet_line (drop (n + 1) all)) _ _ front in
    rw p.1 (subst (λ l. WritesFront l (g.W.Write.contents c.args.writer.now)
    (g.W.Write.contents c.write_whole.new.writer))
    (ap (λ l. (flat_map packet_line (take n all) ++ l) ++ flat_map packet_line (drop (n + 1) all))
    text
    ∙ ap (λ l. l ++ flat_map packet_line (drop (n + 1) all)) (sym more)
    ∙ lines-parts packet_line all (n + 1)) whole)

pub returns : goal.returns
returns g c =
    let all = packets_at c.args.geometry.now c.args.group.now in
    let few : length all ≤ c.loop-number.number =
    rw (length-packets_of_group (packet_room c.args.geometry.now) c.args.geometry.now.address 0
    c.args.group.now)
    (rw (c.packet_count-number-end.ensures.count, c.length_of_packets-length.ensures)
    at c.loop-number-test.false) in
    subst (λ l. Appends (g.W.Write.contents c.args.writer.now)
    (g.W.Write.contents c.loop-number.writer) (flat_map packet_line l))
    (take_all c.loop-number.number all few) c.loop-number.invariant
