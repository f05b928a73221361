use Rattle.std.proofs.Common.{◌≡◌, ◌+◌, ◌++◌, drop}
use Rattle.mot_player.specs.Inner.Difference.{plans_of}
use Rattle.mot_player.specs.Inner.Newest.{first_from, ids_of}
use Rattle.mot_player.specs.Start.{is_new}
use Rattle.mot_player.proofs.newest.newest.Given as goal

abbrev pub invariant-loop-body : goal.invariant-loop-body
invariant-loop-body l = record {
  entity : l.entity ≡ l.body-index;
  queue : l.queue.items
      ++ first_from (is_new l.most l.cursor (ids_of (plans_of l.bodies))) l.left (l.entity + 1)
      (plans_of (drop l.body-index l.bodies))
      ≡ first_from (is_new l.most l.cursor (ids_of (plans_of l.bodies))) l.most 1
      (plans_of l.bodies);
}
