-- Entries about names.
use Rattle.std.proofs.Common.{ℕ, List, ◌<◌, length, set, refl, Contains, Bool, true, false, not, IsTrue, ◌↔◌, Option, Some, None, ◌≡◌}
use Rattle.std.specs.Prelude.{IsSome}
use Rattle.std.specs.Option.{option_or}
use Rattle.std.proofs.lemmas.List.{get_or-set_same, length-set}

-- what was set is there
pub set_contains : {X : Type 0} (xs : List X) (k : ℕ) (x : X) → k < length xs → Contains (set xs k x) x
set_contains xs k x few = (k, rw (length-set xs k x) few, get_or-set_same xs k x x few)

-- what tells that two are not the same
pub not_iff : {P : Type 0} (is : Bool) → (IsTrue is ↔ P) → (IsTrue (not is) ↔ ¬ P)
not_iff true when = ((λ wrong. let h = wrong in cc), (λ no. absurd (no (when.0 refl))))
not_iff false when = ((λ right p. let h = when.1 p in cc), (λ no. refl))

-- what is there comes first
pub or_first : {X : Type 0} (first second : Option X) → IsSome first
    → option_or first second ≡ first
or_first None second some = absurd (let h = some in cc)
or_first (Some x) second some = refl
