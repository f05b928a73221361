use Rattle.std.proofs.Common.{◌≡◌, ◌≤◌, length}
use Rattle.mot_suffixes.proofs.types.find_last.Given as goal
use Rattle.mot_suffixes.specs.Types.{last_of_suffix}

-- none was found behind the rest
abbrev pub invariant-loop-rest : goal.invariant-loop-rest
invariant-loop-rest l = record {
  same : last_of_suffix l.suffix l.types ≡ last_of_suffix l.suffix l.rest;
  shorter : length l.rest ≤ length l.types;
}

abbrev pub decreases-loop-rest : goal.decreases-loop-rest
decreases-loop-rest l = length l.rest
