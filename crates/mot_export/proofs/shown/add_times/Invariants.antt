use Rattle.std.proofs.Common.{◌≡◌, ◌++◌, take}
use Rattle.std.specs.List.{flat_map}
use Rattle.mot_export.specs.Inspecting.{time_json}
use Rattle.mot_export.proofs.shown.add_times.Given as goal

-- the lines so far
abbrev pub invariant-loop-time : goal.invariant-loop-time
invariant-loop-time l = record {
  lines : l.text.items ≡ l.initial.text.items ++ flat_map time_json (take l.time-index l.times);
}
