use Rattle.std.proofs.Common.{◌≡◌, ◌+◌, ◌≤◌, ◌++◌, drop, vec_capacity, vec_len}
use Rattle.mot_player.specs.Inner.Course.{kept_of}
use Rattle.mot_player.proofs.following.keep.Given as goal

abbrev pub invariant-loop-w : goal.invariant-loop-w
invariant-loop-w l = record {
  kept : l.queue.items ++ kept_of l.difference (drop l.w-index l.waiting)
      ≡ l.fn.queue.items ++ kept_of l.difference l.waiting;
  few : vec_len l.queue ≤ vec_len l.fn.queue + l.w-index;
  room : vec_capacity l.queue ≡ vec_capacity l.fn.queue;
}
