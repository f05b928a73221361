use Rattle.std.proofs.Common.{◌≡◌, take}
use Rattle.mot_objects.specs.Name.{sum_of}
use Rattle.mot_objects.proofs.name.sum_of.Given as goal

abbrev pub invariant-loop-byte : goal.invariant-loop-byte
invariant-loop-byte l = l.sum ≡ sum_of (take l.byte-index l.bytes)
