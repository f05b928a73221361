use Rattle.std.proofs.Common.{◌≡◌, ◌*◌, ◌≤◌, take, map, All}
use Rattle.std.specs.Prelude.{sum_by}
use Rattle.mot_directory.specs.Directory.{IsEntry, entry_size}
use Rattle.mot_directory.specs.Inner.{entry_beside}
use Rattle.mot_directory.proofs.directory.entries_size.Given as goal

abbrev pub invariant-loop-object : goal.invariant-loop-object
invariant-loop-object l = record {
  sum : l.size ≡ sum_by entry_size (take l.object-index l.objects);
  longest : l.size ≤ 336 * l.object-index;
  fits : All IsEntry (map entry_beside (take l.object-index l.objects));
}
