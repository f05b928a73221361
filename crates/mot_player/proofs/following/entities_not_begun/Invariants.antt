use Rattle.std.proofs.Common.{◌≡◌, ◌+◌, ◌≤◌, drop}
use Rattle.mot_player.specs.Inner.Course.{entities_not_begun}
use Rattle.mot_player.proofs.following.entities_not_begun.Given as goal

abbrev pub invariant-loop-waiting : goal.invariant-loop-waiting
invariant-loop-waiting l = record {
  counted : l.count + entities_not_begun (drop l.waiting-index l.queue)
      ≡ entities_not_begun l.queue;
  few : l.count ≤ l.waiting-index;
}
