-- A header with useful data, as a packet's fields.
use Rattle.std.specs.Prelude.{ℕ, List}
use Rattle.mot_numbers.specs.PacketLength.{room_of}
use Rattle.mot_packets.specs.Packet.{PacketFields}
use Rattle.mot_packets.specs.declared.header.Header.{Header}

abbrev pub fields_of : Header → List ℕ → PacketFields
fields_of header useful = record {
  room = room_of header.length;
  address = header.address;
  index = header.index;
  first = header.is_first;
  last = header.is_last;
  useful = useful;
}
