-- What holds of the definitions, for the crates above.

-- a group that can be written reads back, with its content, and only its own bytes read as it
pub use Rattle.mot_groups.proofs.ReadBack.{read_group-bytes_of_group, content_of-bytes_of_group}
pub use Rattle.mot_groups.proofs.ReadBack.{AreBytes-bytes_of_group, length-bytes_of_group}
pub use Rattle.mot_groups.proofs.Only.{read_group-only}
-- an entity that is cut at a size reads as itself
pub use Rattle.mot_groups.proofs.Cut.{IsCut-pieces, length-first_pieces, entity_of-own}
