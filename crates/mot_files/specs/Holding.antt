-- What a table of handles holds.
use Rattle.std.specs.Prelude.{ℕ, Option, slice_get}
use Rattle.std.specs.Option.{option_flatten}
use Rattle.mot_files.specs.declared.table.Table.{Table}

-- what stands at this place
abbrev pub held : {T : Type 0} → Table T → ℕ → Option T
held table place = option_flatten (slice_get table.places.items place)
