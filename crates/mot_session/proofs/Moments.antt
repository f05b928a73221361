-- What `IsKeptFrom` says follows from what is said of a crash since the start and of one at the
-- end: its moments may all be the last one. (So what tells of a moment is
-- `serve_line_and_restart`.)
use Rattle.std.proofs.Common.{ℕ, List}
use Rattle.mot_objects.specs.declared.command.Command.{Command}

abbrev Kept : Type 1
Kept = ℕ → List Command → List Command → Type 0
