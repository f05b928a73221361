use Rattle.std.proofs.Common.{◌≡◌, ℕ, List, length}
use Rattle.std.specs.Prelude.{bytes_eq}
use Rattle.std.specs.List.{list_any}
use Rattle.mot_devices.specs.Mounts.{parts_of}
use Rattle.mot_devices.proofs.mounts.is_line_of.Given as goal

abbrev pub invariant-loop-line : goal.invariant-loop-line
invariant-loop-line l =
    list_any (λ (line : List ℕ). bytes_eq line l.wanted) (parts_of 10 l.lines)
    ≡ list_any (λ (line : List ℕ). bytes_eq line l.wanted) (parts_of 10 l.rest)

abbrev pub decreases-loop-line : goal.decreases-loop-line
decreases-loop-line l = length l.rest
