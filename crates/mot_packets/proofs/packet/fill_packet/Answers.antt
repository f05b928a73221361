use Rattle.std.proofs.Common.{◌≡◌, refl, arith, ap, ◌∙◌}
use Rattle.std.proofs.lemmas.List.Elements.{All-from_get_or, All-same}
use Rattle.mot_numbers.specs.Reading.{IsByte, AreBytes}
use Rattle.mot_numbers.proofs.Laws.{code_of-fits, room_of-code}
use Rattle.mot_packets.specs.Packet.{PacketFields, read_packet}
use Rattle.mot_packets.specs.Written.{IsPacket, covered_bytes, bytes_of_packet}
use Rattle.mot_packets.specs.Inner.{fields_of}
use Rattle.mot_packets.proofs.HeaderWord.{IsLength-room_of, code_of_room-room_of}
use Rattle.mot_packets.proofs.ReadBack.{AreBytes-bytes_of_packet, read_packet-bytes_of_packet}
use Rattle.mot_packets.proofs.packet.fill_packet.Goals as goal

whole : (c : goal.After-array_append_number-2) →
    c.array_append_number-2.new.out.items
    ≡ bytes_of_packet (fields_of c.args.header c.args.useful.now)
unfolding bytes_of_packet
whole c =
    let p : PacketFields = fields_of c.args.header c.args.useful.now in
    let before : c.append_zeros.new.packet.items ≡ covered_bytes p =
    rw (
      c.append_zeros.ensures.items,
      c.append_useful.ensures.items,
      c.push.ensures.items,
      c.array_append_number.ensures.items,
      c.requires.empty,
      c.room-room.ensures,
      c.word.ensures.word,
      code_of_room-room_of c.args.header.length,
    ) refl in
    rw (
      c.array_append_number-2.ensures.items,
      c.crc16-checksum.ensures,
      c.as_slice.ensures.value,
      before,
    ) refl

pub returns-clause-written : goal.returns-clause-written
returns-clause-written c = whole c

pub returns-clause-reads : goal.returns-clause-reads
returns-clause-reads c =
    let p : PacketFields = fields_of c.args.header c.args.useful.now in
    let is_packet : IsPacket p = record {
      room = IsLength-room_of c.args.header.length;
      index = c.args.header.index_in_range;
      address = (c.word.ensures.range.0, omega arith);
      useful = omega arith;
    } in
    ap read_packet (whole c) ∙ read_packet-bytes_of_packet p is_packet

pub returns-clause-bytes : goal.returns-clause-bytes
returns-clause-bytes c =
    let p : PacketFields = fields_of c.args.header c.args.useful.now in
    let room = room_of-code c.args.header.length in
    let code = code_of-fits c.args.header.length in
    let useful : AreBytes c.args.useful.now =
    All-from_get_or IsByte c.args.useful.now 0 (λ i _. omega (arith, c.type_inv.useful i)) in
    All-same IsByte c.array_append_number-2.new.out.items (bytes_of_packet p) (whole c)
    (AreBytes-bytes_of_packet p (omega arith) useful)
