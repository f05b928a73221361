use Rattle.std.proofs.Common.{arith}
use Rattle.mot_journal.proofs.formatting.reads_magic.Goals as goal

pub slice_bounds-read-end : goal.slice_bounds-read-end
slice_bounds-read-end g c = omega arith

pub read-requires : goal.read-requires
read-requires g c = omega arith

pub eq-requires : goal.eq-requires
eq-requires g c = omega arith
