-- What holds of the definitions, for the crates above.
use Rattle.mot_repository.specs.Inner.Following.{StandingsAreSound}
use Rattle.mot_repository.proofs.Soundness.{keeps}
-- an object's body lies where its extent says
pub use Rattle.mot_repository.proofs.Bodies.{body_held}
-- the bytes after a standing's data area are those of its image
pub use Rattle.mot_repository.proofs.Soundness.{standings_rest}
-- what is held is what is read
pub use Rattle.mot_repository.proofs.Preparing.{read_standing}
-- a journal stands where an image has its records
pub use Rattle.mot_repository.proofs.Places.{stands_where}
-- what a command comes to: the parts of an accepted one, and each refusal is one of five
pub use Rattle.mot_repository.proofs.Outcomes.{IsAccepted, accepted_parts, accepted_of, refused_so}
-- what is kept in memory agrees with something
pub use Rattle.mot_repository.proofs.Outcomes.{some_standing}
-- a disk with the records of a copy and the bodies in a row stands for the copy
pub use Rattle.mot_repository.proofs.Copied.{copy_stands}
-- objects with other ids
pub use Rattle.mot_repository.proofs.Renumbered.{numbered, renumbered-at, renumbered-bytes}
pub use Rattle.mot_repository.proofs.Renumbered.{renumbered-length, copied_ids-count}
-- the records of a copy, one after the other, and as many bytes of bodies as of extents
pub use Rattle.mot_repository.proofs.Copied.{packed-next, bytes-same}
pub use Rattle.mot_repository.proofs.Extents.{record_with, set_of_object}
pub use Rattle.mot_repository.proofs.Extents.{records-none, records-some, is_zero, isnt_zero}
-- what an image of bytes stands for keeps the rules of objects
pub use Rattle.mot_repository.proofs.Rules.{rules_kept}

-- and is sound
pub standings-are_sound : StandingsAreSound
standings-are_sound = keeps
