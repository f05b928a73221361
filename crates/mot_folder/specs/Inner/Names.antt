-- The names of a folder's files, by their places.
use Rattle.std.specs.Prelude.{ℕ, List, [], Option, Some, None}

-- the name at a place, where there is one
abbrev pub name_or_none : Option (List ℕ) → List ℕ
name_or_none None = []
name_or_none (Some name) = name
