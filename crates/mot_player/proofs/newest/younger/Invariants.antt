use Rattle.std.proofs.Common.{◌≡◌, ◌+◌, ◌≤◌, drop}
use Rattle.mot_player.specs.Inner.Difference.{plans_of}
use Rattle.mot_player.specs.Inner.Newest.{ids_of}
use Rattle.mot_player.specs.Start.{younger}
use Rattle.mot_player.proofs.newest.younger.Given as goal

abbrev pub invariant-loop-body : goal.invariant-loop-body
invariant-loop-body l = record {
  counted : l.count + younger l.cursor l.old (ids_of (plans_of (drop l.body-index l.bodies)))
      ≡ younger l.cursor l.old (ids_of (plans_of l.bodies));
  few : l.count ≤ l.body-index;
}
