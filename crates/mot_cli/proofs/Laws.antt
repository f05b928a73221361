-- What holds of the definitions, for the crates above.

-- the command line is of the kind that the parser's clauses speak of
pub use Rattle.mot_cli.proofs.Lines.{motcar_simple}
-- what words ask for that match a command line, or that it refuses
pub use Rattle.mot_cli.proofs.Asked.{AreWrong-fault, AreWrong-none, AskBy-matched}
pub use Rattle.mot_cli.proofs.Asked.{AskForHelp-shown}
