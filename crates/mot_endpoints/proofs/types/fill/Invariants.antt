use Rattle.std.proofs.Common.{ℕ, List, ◌≡◌, ◌≤◌, ◌++◌, ◌-◌, length, take}
use Rattle.mot_files.specs.Reading.{joined, reads}
use Rattle.mot_endpoints.proofs.types.fill.Given as goal

abbrev pub invariant-loop-at : goal.invariant-loop-at
invariant-loop-at g l =
    (l.at ≤ length l.room) × ((chunks : List (List ℕ))
    × (g.S.System.calls l.system ≡ g.S.System.calls l.initial.system ++ reads l.handle chunks)
    × (take l.at l.room ≡ joined chunks))

abbrev pub decreases-loop-at : goal.decreases-loop-at
decreases-loop-at g l = length l.initial.room - l.at
