-- What only private contracts and proofs need.
use Rattle.std.specs.Prelude.{List, ◌≡◌, ◌++◌}
use Rattle.mot_files.specs.Call.{Call}

-- calls were made, and none is forgotten
abbrev pub Extends : (old new : List Call) → Type 0
Extends old new = (more : List Call) × (new ≡ old ++ more)
