use Rattle.std.proofs.Common.{◌≡◌, ◌≤◌, ◌*◌, take}
use Rattle.std.specs.List.{sum_by}
use Rattle.mot_objects.specs.declared.object.Object.{Object}
use Rattle.mot_export.proofs.inspection.used_bytes.Given as goal

-- the lengths so far
abbrev pub invariant-loop-object : goal.invariant-loop-object
invariant-loop-object l = record {
  sum : l.bytes ≡ sum_by (λ (o : Object). o.length) (take l.object-index l.carousel.objects.items);
  few : l.bytes ≤ l.object-index * 4294967295;
}
