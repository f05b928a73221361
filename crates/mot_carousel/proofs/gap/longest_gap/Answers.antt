use Rattle.std.proofs.Common.{◌∙◌, sym, arith}
use Rattle.mot_carousel.proofs.LongestGap.{more_than_all, none_above, zero_bytes_fit}
use Rattle.mot_carousel.proofs.gap.longest_gap.Goals as goal

pub loop-fits-init : goal.loop-fits-init
loop-fits-init c = record {
  low = omega arith;
  high = omega arith;
  has = zero_bytes_fit c.args.extents.now c.args.data_len;
  none = λ n le. more_than_all c.args.extents.now n c.args.data_len (omega (arith, le));
}

pub loop-fits-preserved : goal.loop-fits-preserved
loop-fits-preserved c =
    let is = c.loop-fits.invariant in
    let low = is.low in
    let high = is.high in
    let test = c.loop-fits-test.true in
    record {
      low = omega (arith, low, test);
      high = omega (arith, high, low, test);
      has = is.has;
      none = λ n le. none_above c.args.extents.now _ n c.args.data_len
          (sym c.first_fit.ensures ∙ c.in-None.is) le;
    }
