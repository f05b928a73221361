use Rattle.std.proofs.Common.{◌≡◌, min, take}
use Rattle.mot_status.specs.Inner.{bytes_of}
use Rattle.mot_status.proofs.figures.bytes_of.Given as goal

abbrev pub invariant-loop-object : goal.invariant-loop-object
invariant-loop-object l = l.bytes ≡ min (bytes_of (take l.object-index l.objects))
    18446744073709551615
