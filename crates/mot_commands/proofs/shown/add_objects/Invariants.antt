use Rattle.std.proofs.Common.{◌≡◌, ◌++◌, take}
use Rattle.std.specs.List.{flat_map}
use Rattle.mot_commands.specs.Inner.Shown.{object_json_beside}
use Rattle.mot_commands.proofs.shown.add_objects.Given as goal

-- the lines so far
abbrev pub invariant-loop-object : goal.invariant-loop-object
invariant-loop-object l = record {
  lines : l.text.items
      ≡ l.initial.text.items ++ flat_map object_json_beside (take l.object-index l.objects);
}
