-- What holds of the definitions, for the crates above.

-- who begins to listen at any packet has only segments of the turn on air; and the whole carousel
-- where two turns have ended
pub use Rattle.mot_listening.proofs.Heard.{IsOnAir, heard-on, opened-on, sent-on}
pub use Rattle.mot_listening.proofs.Counts.{packets-are, packets_for}
pub use Rattle.mot_listening.proofs.OfTurn.{changed-on}
-- few bodies come early, and the one that comes with a change is among them
pub use Rattle.mot_listening.proofs.Early.{IsEarlyOn, early-changed, early-heard, early-opened}
pub use Rattle.mot_listening.proofs.Early.{early-sent, early-short, hears-new}
pub use Rattle.mot_listening.proofs.DirectoryNext.{asked_packets, asks_once, room-kept}
pub use Rattle.mot_listening.proofs.DirectoryNext.{group-fewer, group_left, some-packets}
pub use Rattle.mot_listening.proofs.DirectoryNext.{until_asked}
pub use Rattle.mot_listening.proofs.Rest.{IsRest, changed-comes, rest-behind_turn, rest-ended}
pub use Rattle.mot_listening.proofs.Rest.{rest-heard, rest-sent}
pub use Rattle.mot_listening.proofs.TuneIn.{hears-change, hears-directory, hears-only}
pub use Rattle.mot_listening.proofs.TuneIn.{hears-settled, hears-two_ends, hears-within}
-- where a player begins that sends the newest bodies first
pub use Rattle.mot_listening.proofs.Starts.{start-comes, start-early, start-on, start-rest}
-- a turn ends however many changes come, and up to its end each body that stays comes whole
pub use Rattle.mot_listening.proofs.Ends.{turns_end_soon}
pub use Rattle.mot_listening.proofs.Whole.{bodies_come_whole}
-- the packets of a group and of segments, by their lengths
pub use Rattle.mot_listening.proofs.Counted.{count-segments, group-lengths}
-- those of a carousel's turn, by the length of its directory and those of its objects
pub use Rattle.mot_listening.proofs.Counted.{carousel-lengths, sizes}
-- what is counted of packets one after the other
pub use Rattle.mot_listening.proofs.Counted.{entity-more, packet-more, packets-all, segment-more}
pub use Rattle.mot_listening.proofs.Counted.{segments-all}
