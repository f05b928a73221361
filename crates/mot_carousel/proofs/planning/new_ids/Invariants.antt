use Rattle.std.proofs.Common.{◌≡◌, ◌+◌, ◌-◌, ◌≤◌, ◌++◌, vec_len, vec_capacity}
use Rattle.mot_carousel.specs.Inner.{used_ids_of}
use Rattle.mot_carousel.specs.NewIds.{new_ids}
use Rattle.mot_carousel.proofs.planning.new_ids.Given as goal

-- what was taken, and what is still to be, are the new ids
abbrev pub invariant-loop : goal.invariant-loop
invariant-loop l = record {
  objects : (new_ids l.count l.fn.last (used_ids_of l.carousel)).0
      ≡ l.ids.items ++ (new_ids (l.count - l.counter) l.id l.used.items).0;
  directory : (new_ids l.count l.fn.last (used_ids_of l.carousel)).1
      ≡ (new_ids (l.count - l.counter) l.id l.used.items).1;
  taken : vec_len l.ids ≡ l.counter;
  used : vec_len l.used ≤ 251 + l.counter;
  room : l.count ≤ vec_capacity l.ids;
  used_room : vec_len l.used + l.count ≤ vec_capacity l.used + l.counter;
}
