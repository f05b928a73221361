use Rattle.mot_packets.proofs.Only.{read_packet-only}
use Rattle.mot_packets.proofs.ReadBack.{read_packet-bytes_of_packet}
use Rattle.mot_packets.proofs.packet.cut_packet.Goals as goal

pub returns-clause-reads_back : goal.returns-clause-reads_back
returns-clause-reads_back c = read_packet-bytes_of_packet

pub returns-clause-only : goal.returns-clause-only
returns-clause-only c = read_packet-only
