use Rattle.std.proofs.Common.{ap, ◌∙◌, sym, arith}
use Rattle.std.specs.Int.{div_ceil}
use Rattle.mot_numbers.specs.PacketLength.{room_of}
use Rattle.mot_numbers.proofs.Laws.{code_of-fits, room_of-code}
use Rattle.mot_packets.proofs.Gathering.{gather-goes_on, gather-of_pieces, length-of_pieces}
use Rattle.mot_packets.proofs.OfGroup.{read_each-packets_of_group}
use Rattle.mot_packets.proofs.packet.packet_count.Goals as goal

pub returns-clause-gathers : goal.returns-clause-gathers
returns-clause-gathers c = λ address index group packets len some read.
    let code = code_of-fits c.args.full_length in
    let room = room_of-code c.args.full_length in (
      length-of_pieces (room_of c.args.full_length) address index group packets read
          ∙ ap (λ n. div_ceil n (room_of c.args.full_length)) len
          ∙ sym (c.div_ceil.ensures ∙ ap (div_ceil c.args.len) c.room.ensures),
      gather-of_pieces (room_of c.args.full_length) address index group packets (omega arith)
          (omega arith)
          read,
    )

pub returns-clause-goes_on : goal.returns-clause-goes_on
returns-clause-goes_on c =
    λ address index group packets more parts groups len some read read' same e.
    let code = code_of-fits c.args.full_length in
    let room = room_of-code c.args.full_length in
    gather-goes_on (room_of c.args.full_length) address index group packets more parts groups
    (omega arith)
    (omega arith) read read' same e

pub returns-clause-packets : goal.returns-clause-packets
returns-clause-packets c = λ address index group low high.
    read_each-packets_of_group c.args.full_length address index group low (omega arith)
