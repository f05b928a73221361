use Rattle.std.proofs.Common.{arith}
use Rattle.mot_carousel.proofs.FirstFit.{gap_found, no_gap}
use Rattle.mot_carousel.proofs.gap.first_fit.Goals as goal

pub returns : goal.returns
returns c = no_gap c.args.extents.now c.args.len c.args.data_len c.loop-start.start (omega arith)
    c.loop-start.invariant.before

pub returns-then-end-from : goal.returns-then-end-from
returns-then-end-from c =
    gap_found c.args.extents.now c.args.len c.args.data_len c.raised-above.result.0 (omega arith)
    (c.raised-above.ensures.free (omega arith))
    (λ k free. c.raised-above.ensures.next k (c.loop-start.invariant.before k free) free)
