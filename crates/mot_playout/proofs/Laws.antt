-- What holds of the definitions, for the crates above.

-- commands in a row, and what a crash leaves of them
pub use Rattle.mot_playout.proofs.Runs.{after_none, after_one, after_both}
pub use Rattle.mot_playout.proofs.Runs.{more, less_sure, none_of, before_or_after}
pub use Rattle.mot_playout.proofs.Survival.{after_history_none}
-- what was left of a disk that was formatted here
pub use Rattle.mot_playout.proofs.Lives.{keeps_commands, none_kept, none_or_left}
pub use Rattle.mot_playout.proofs.Survival.{passing, if_err}
-- why a command is refused on a disk of layout 2
pub use Rattle.mot_playout.proofs.Marked.{IsRefused, refused_by}
-- calls that change nothing, one after the other, and how long a body is
pub use Rattle.mot_playout.proofs.Read.{body_length, holds_still, rises_on, standing_still}
pub use Rattle.mot_playout.proofs.Openings.{still_unchanged}
-- what a disk stands for is held once it is opened
pub use Rattle.mot_playout.proofs.Openings.{opened_holds, opened_standing}
-- a device fault leaves the carousel in memory as it was
pub use Rattle.mot_playout.proofs.Runs.{still_agrees}
-- a geometry that is valid
pub use Rattle.mot_numbers.proofs.Laws.{valid_is}
-- a halted server refuses, and nothing changes; and a refusal is not Ok
pub use Rattle.mot_playout.proofs.Answered.{not_halted, not_ok}
-- runs one after the other, and calls that only read
pub use Rattle.mot_playout.proofs.Joins.{runs_join, reads_leave, reads_leave_of, accepted-join}
-- where a player stands behind accepted commands, in parts, and where it does not follow
pub use Rattle.mot_playout.proofs.Places.{after-both, behind_both, begins_anew}
-- the turn of a carousel can be followed by that after a command
pub use Rattle.mot_playout.proofs.OneChange.{followable}
-- the packets of a turn, up to the one that ends it
pub use Rattle.mot_playout.proofs.Going.{IsGoing-none, IsGoing-more, HasPlayedTurn-ended}
-- a disk that is synced at most, and then read at most
pub use Rattle.mot_playout.proofs.Openings.{syncs_read}
-- a call in which the disk has not failed
pub use Rattle.mot_playout.proofs.Read.{no_failure}
