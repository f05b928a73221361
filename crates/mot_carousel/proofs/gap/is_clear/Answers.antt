use Rattle.std.proofs.Common.{◌≡◌, ◌+◌, ℕ, true, inl, inr, get_or, refl, sym, ap, ◌∙◌, arith}
use Rattle.std.proofs.lemmas.Bool.{and_from, le-leb, or_left, or_right}
use Rattle.std.proofs.lemmas.List.{take_all}
use Rattle.std.proofs.lemmas.List.Folds.{list_all_more}
use Rattle.mot_carousel.specs.Gap.{is_beside, is_free}
use Rattle.mot_carousel.proofs.gap.is_clear.Goals as goal

pub offset_bounds-extents-from-index : goal.offset_bounds-extents-from-index
offset_bounds-extents-from-index c = omega arith

pub overflow_add-end : goal.overflow_add-end
overflow_add-end c = omega arith

pub loop-from-init : goal.loop-from-init
loop-from-init c = refl

pub loop-from-preserved : goal.loop-from-preserved
loop-from-preserved c =
    let start : ℕ = c.args.start in
    let len : ℕ = c.args.len in
    let e : ℕ × ℕ = get_or c.args.extents.now c.loop-from.from-index (0, 0) in
    let here : is_beside start len e ≡ true = elim c.else-saturating_add-from.either [
      | inl lies ↦ or_right _ _ (le-leb (e.0 + e.1) start (omega arith))
      | inr far ↦ or_left _ _ (le-leb (start + len) e.0 (omega arith))
    ] in
    list_all_more (is_beside start len) c.args.extents.now c.loop-from.from-index (0, 0)
    c.loop-from-test.true
    ∙ and_from _ _ c.loop-from.invariant here

pub returns : goal.returns
returns c =
    sym c.loop-from.invariant
    ∙ ap (λ extents. is_free extents c.args.len c.args.start)
    (take_all c.loop-from.from-index c.args.extents.now c.loop-from-test.false)
