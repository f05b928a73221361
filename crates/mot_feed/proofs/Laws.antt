-- What holds of the definitions, for the crates above.

-- at each packet the carousel keeps its rules, so of each whole turn
pub use Rattle.mot_feed.proofs.Fed.{rules_behind, rules_front, rules_of_turn}
-- nothing was added
pub use Rattle.mot_feed.proofs.Grown.{grows_nil}
-- the directory is asked for often up to any of the events; and what is heard of a window keeps the
-- rules
pub use Rattle.mot_feed.proofs.Listening.{often-front, rules_of_window}
-- what happens in two parts
pub use Rattle.mot_feed.proofs.Ends.{HappenApart, happen-apart}
-- the laws of any feed
pub use Rattle.mot_feed.proofs.Ends.{nobody_starves}
pub use Rattle.mot_feed.proofs.Fed.{continuous}
pub use Rattle.mot_feed.proofs.Listening.{listeners_hear}
pub use Rattle.mot_feed.proofs.OnAir.{changed_turns_read, turns_read}
