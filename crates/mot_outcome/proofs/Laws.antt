-- What holds of the definitions, for the crates above.

-- what a run came to that only explained its words
pub use Rattle.mot_outcome.proofs.Explained.{explained}
-- what the result of a task says that came of another one
pub use Rattle.mot_outcome.proofs.Begun.{concludes, concludes_more, concludes_so, ended_so}
-- what was printed of a text in parts
pub use Rattle.mot_outcome.proofs.Parts.{Prints-after, Prints-before, Prints-passed}
-- what follows from a fact of a result
pub use Rattle.mot_outcome.proofs.Results.{IfErr-one, IfOk-one}
-- what a command needs, one after the other
pub use Rattle.mot_outcome.proofs.Comings.{begun_after, begun_first, both_met, opened_after, opens_more}
