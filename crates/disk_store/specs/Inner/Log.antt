-- What a disk in memory records of a call.
use Rattle.std.specs.Prelude.{◌≡◌, ℕ, List, [], ◌∷◌, ◌++◌}
use Rattle.std.specs.Global.{Vec}
use Rattle.disk_store.specs.declared.memory.event.Event.{Event}
use Rattle.disk_store.specs.declared.memory.event.Event.TheVariants.{Wrote}

-- the log has a write of these bytes more
abbrev pub HasWriteMore : ℕ → List ℕ → List Event → List Event → Type 0
HasWriteMore at bytes old new = (v : Vec ℕ) × (v.items ≡ bytes) × (new ≡ old ++ Wrote at v ∷ [])
