use Rattle.std.proofs.Common.{◌≡◌, ◌+◌, ◌-◌, ◌≤◌, drop, length}
use Rattle.mot_player.specs.Inner.Difference.{alike, plans_of}
use Rattle.mot_player.proofs.difference.alike.Given as goal

abbrev pub invariant-loop-at : goal.invariant-loop-at
invariant-loop-at l = record {
  within : (l.at ≤ length l.old) × (l.at ≤ length l.new);
  alike : alike (plans_of l.old) (plans_of l.new)
      ≡ l.at + alike (plans_of (drop l.at l.old)) (plans_of (drop l.at l.new));
}

abbrev pub decreases-loop-at : goal.decreases-loop-at
decreases-loop-at l = length l.old - l.at
