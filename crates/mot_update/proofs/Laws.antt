-- What holds of the definitions, for the crates above.

-- runs of commands: one behind another, one that was read behind, one that was answered
pub use Rattle.mot_update.proofs.Runs.{answered_one, has_read, join, not_none}
-- what is there twice is the same
pub use Rattle.mot_update.proofs.Found.{same_err, same_ok, same_some}
-- faults of calls one after the other
pub use Rattle.mot_update.proofs.Faults.{attempted, calm_here, calm_on, fault_on}
-- names that differ, and one more
pub use Rattle.mot_update.proofs.Looks.{names-push}
-- what is told of commands, one after the other
pub use Rattle.mot_update.proofs.Answers.{tells_on}
-- each wanted object is there behind an update, and what is not known is gone
pub use Rattle.mot_update.proofs.Made.{made}
-- a new carousel takes what another one was
pub use Rattle.mot_update.proofs.Exported.{exports_are_taken}
-- what a disk that was just opened stands for, and one that an opening refused
pub use Rattle.mot_update.proofs.Opened.{AllAre, all_hold, held, openable}
pub use Rattle.mot_update.proofs.Opened.{opened_throughout, read_so, unopened_is}
-- what commands leave behind an opening, and how they ended
pub use Rattle.mot_update.proofs.Endings.{ends_off, opened_leaves}
