-- What holds of the definitions, for the crates above.

-- what a folder gave goes on by one call, and then on, and it is the same folder
pub use Rattle.mot_shelf.proofs.Going.{gives_on, gives_one, gives_path}
