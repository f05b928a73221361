-- What holds of the definitions, for the crates above.

-- a packet that can be written reads back, and only its own bytes read as it
pub use Rattle.mot_packets.proofs.ReadBack.{read_packet-bytes_of_packet}
pub use Rattle.mot_packets.proofs.ReadBack.{AreBytes-bytes_of_packet}
pub use Rattle.mot_packets.proofs.Only.{read_packet-only}
-- the packets of a group can be written
pub use Rattle.mot_packets.proofs.OfGroup.{IsPacket-piece_at, read_each-packets_of_group}
pub use Rattle.mot_packets.proofs.OfGroup.{length-packets_of_group, get_or-packets_of_group}
-- one packet of a group, in front of the rest of it or of other groups
pub use Rattle.mot_packets.proofs.Gathering.{groups_after-piece, groups_after-last_piece, more_left}
-- the packets of a group, in front of others with their address
pub use Rattle.mot_packets.proofs.Gathering.{groups_after-pieces_of, gather-of_pieces}
pub use Rattle.mot_packets.proofs.Gathering.{gather-goes_on, gather_front-goes_on}
pub use Rattle.mot_packets.proofs.Gathering.{gather-of_front, gather_front-gather, length-of_pieces}
pub use Rattle.mot_packets.proofs.Gathering.{have_address-pieces_of, have_one_address-have_address}
