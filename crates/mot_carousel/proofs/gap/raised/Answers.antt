use Rattle.std.proofs.Common.{◌+◌, ℕ, List, sym, ap, ◌∙◌, arith, get_or, rules}
use Rattle.std.proofs.lemmas.Bool.{le-leb, or_left, or_right}
use Rattle.std.proofs.lemmas.List.{take_all}
use Rattle.mot_carousel.proofs.Sweep.{are_apart, apart-free, apart-next, met-next}
use Rattle.mot_carousel.proofs.gap.raised.Goals as goal
use Rattle.mot_carousel.proofs.gap.raised.Goals.{then-above-from}
use Rattle.mot_carousel.proofs.gap.raised.Goals.{else-above-from+then-end-above}
use Rattle.mot_carousel.proofs.gap.raised.Goals.{else-above-from+else-end-above}

pub returns-clause-free : goal.returns-clause-free
returns-clause-free c = λ fits.
    apart-free c.args.extents.now c.loop-from.above c.loop-from.beyond c.args.len
    (ap (are_apart c.loop-from.above c.loop-from.beyond)
    (sym (take_all c.loop-from.from-index c.args.extents.now c.loop-from-test.false))
    ∙ c.loop-from.invariant.apart) fits

pub loop-from-preserved : goal.loop-from-preserved
loop-from-preserved c =
    let xs : List (ℕ × ℕ) = c.args.extents.now in
    let i : ℕ = c.loop-from.from-index in
    let above : ℕ = c.loop-from.above in
    let beyond : ℕ = c.loop-from.beyond in
    let was = c.loop-from.invariant in
    let least = was.least in
    let low = was.low in
    let begin = c.from-begin.ensures in
    let size = c.from.ensures in
    let len = c.from-in-loop-from.ensures in
    elim c.if-above-from.branch [
      | then-above-from w ↦
          let test = w.if-above-from.true in
          let min = w.min-beyond.ensures in
          rw (w.above-is, w.beyond-is) (record {
            least = least;
            low = low;
            rises = λ same. let before = was.rises same in omega (arith, before, test, min, len, same);
            apart = apart-next xs i above beyond above w.min-beyond.result (0, 0)
                c.loop-from-test.true was.apart (omega arith) (omega (arith, min))
                (or_right _ _ (le-leb w.min-beyond.result (get_or xs i (0, 0)).0
                (omega (arith, min, begin))));
            next = was.next;
          })
      | else-above-from+then-end-above w ↦
          let test = w.if-above-from.false in
          let high = w.if-end-above.true in
          let end : ℕ = c.from-begin.result + c.from.result in
          rw (w.above-is, w.beyond-is) (record {
            least = omega (arith, least, high);
            low = search rules;
            rises = λ same. absurd (omega (arith, least, high, same));
            apart = apart-next xs i above beyond end beyond (0, 0) c.loop-from-test.true was.apart
                (omega (arith, high)) (omega arith)
                (or_left _ _ (le-leb ((get_or xs i (0, 0)).0 + (get_or xs i (0, 0)).1) end
                (omega (arith, begin, size))));
            next = λ k le free.
                let far = was.next k le free in
                let beside = met-next xs i (0, 0) c.args.len k above c.loop-from-test.true free far
                (omega (arith, test, begin, len)) in
                omega (arith, beside, begin, size);
          })
      | else-above-from+else-end-above w ↦
          let under = w.if-end-above.false in
          rw (w.above-is, w.beyond-is) (record {
            least = least;
            low = low;
            rises = was.rises;
            apart = apart-next xs i above beyond above beyond (0, 0) c.loop-from-test.true was.apart
                (omega arith) (omega arith)
                (or_left _ _ (le-leb ((get_or xs i (0, 0)).0 + (get_or xs i (0, 0)).1) above
                (omega (arith, under, begin, size))));
            next = was.next;
          })
    ]
