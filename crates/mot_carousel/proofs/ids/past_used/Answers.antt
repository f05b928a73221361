use Rattle.std.proofs.Common.{◌∙◌, arith, subst, Bool, refl}
use Rattle.std.proofs.lemmas.List.{take_all}
use Rattle.std.proofs.lemmas.List.Sums.{prefix_len-le-length}
use Rattle.mot_carousel.proofs.Window.{Marks, marks-none, marks-set, marks-far, marks-passed}
use Rattle.mot_carousel.proofs.ids.past_used.Goals as goal
use Rattle.mot_carousel.proofs.ids.past_used.Goals.{then-places-lt-WINDOW, else-places-lt-WINDOW}

pub loop-id-init : goal.loop-id-init
loop-id-init c = marks-none c.args.first 1024 refl

pub loop-id-preserved : goal.loop-id-preserved
loop-id-preserved c =
    let there = c.places_above-places.ensures.there ∙ c.id-item.is in
    elim c.if-places-lt-WINDOW.branch [
      | then-places-lt-WINDOW w ↦ rw w.window-is (marks-set c.args.first c.args.used.now
          c.loop-id.id-index c.id-item.result c.places_above-places.result c.loop-id.window
          c.loop-id-test.true there w.if-places-lt-WINDOW.true c.loop-id.invariant)
      | else-places-lt-WINDOW w ↦ rw w.window-is (marks-far c.args.first c.args.used.now
          c.loop-id.id-index c.id-item.result c.places_above-places.result c.loop-id.window
          c.loop-id-test.true there c.places_above-places.ensures.on_circle
          w.if-places-lt-WINDOW.false c.loop-id.invariant)
    ]

pub overflow_cast-true_before_false : goal.overflow_cast-true_before_false
overflow_cast-true_before_false c = omega (
  arith,
  c.true_before_false.ensures,
  c.loop-id.invariant.size,
  prefix_len-le-length (λ (b : Bool). b) c.loop-id.window,
)

pub returns : goal.returns
returns c = marks-passed c.args.first c.args.used.now c.loop-id.window c.true_before_false.result
    c.id_above.result (omega arith) (omega arith)
    (subst (λ ids. Marks c.args.first ids c.loop-id.window)
    (take_all c.loop-id.id-index c.args.used.now c.loop-id-test.false) c.loop-id.invariant)
    c.true_before_false.ensures c.id_above.ensures
