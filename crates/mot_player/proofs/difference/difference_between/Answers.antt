use Rattle.std.proofs.Common.{◌≡◌, ◌+◌, ◌<◌, ◌∙◌, ap, sym, arith, ℕ, List, true, false, drop}
use Rattle.std.proofs.Common.{length}
use Rattle.mot_player.specs.Inner.Difference.{are_alike, added, plans_of}
use Rattle.mot_player.specs.declared.planned_body.PlannedBody.{PlannedBody}
use Rattle.mot_player.proofs.Differences.{between-none, between-some, changed-here, none-here}
use Rattle.mot_player.proofs.Differences.{removed-here, same-test}
use Rattle.mot_player.proofs.difference.difference_between.Goals as goal
use Rattle.mot_player.proofs.difference.difference_between.Goals.{else-news-gt0-via-then-news-gt0+else-are_alike-2, else-news-gt0-via-else-news-gt0}

pub returns-then-olds-eq0 : goal.returns-then-olds-eq0
returns-then-olds-eq0 c =
    c.added.ensures
    ∙ ap (λ (bs : List PlannedBody). added (length bs)) c.split_at-2.ensures.back
    ∙ between-none c.args.old.now c.args.new.now c.alike-at.result c.alike-at.ensures.alike
    (sym (ap length c.split_at.ensures.back) ∙ c.if-olds-eq0.true)

pub returns-then-are_alike : goal.returns-then-are_alike
returns-then-are_alike c =
    let at : ℕ = c.alike-at.result in
    let olds : List PlannedBody = c.args.old.now in
    let news : List PlannedBody = c.args.new.now in
    let some : 0 < length (drop at olds) =
    omega (arith, ap length c.split_at.ensures.back, c.if-olds-eq0.false) in
    let os : c.split_at-3.result.1.now ≡ drop 1 (drop at olds) =
    c.split_at-3.ensures.back ∙ ap (drop 1) c.split_at.ensures.back in
    sym (removed-here (at + 1) (plans_of (drop 1 (drop at olds))) (plans_of (drop at news))
    (same-test _ _ (drop 1 (drop at olds)) (drop at news) true os c.split_at-2.ensures.back
    c.if-are_alike.ensures))
    ∙ between-some olds news at c.alike-at.ensures.alike some

pub returns-then-are_alike-2 : goal.returns-then-are_alike-2
returns-then-are_alike-2 c =
    let at : ℕ = c.alike-at.result in
    let olds : List PlannedBody = c.args.old.now in
    let news : List PlannedBody = c.args.new.now in
    let some : 0 < length (drop at olds) =
    omega (arith, ap length c.split_at.ensures.back, c.if-olds-eq0.false) in
    let more : 0 < length (drop at news) =
    omega (arith, ap length c.split_at-2.ensures.back, c.if-news-gt0.true) in
    let os : c.split_at-3.result.1.now ≡ drop 1 (drop at olds) =
    c.split_at-3.ensures.back ∙ ap (drop 1) c.split_at.ensures.back in
    let ns : c.split_at-then-news-gt0.result.1.now ≡ drop 1 (drop at news) =
    c.split_at-then-news-gt0.ensures.back ∙ ap (drop 1) c.split_at-2.ensures.back in
    sym (changed-here (at + 1) (plans_of (drop 1 (drop at olds))) (drop at news) more
    (same-test _ _ (drop 1 (drop at olds)) (drop at news) false os c.split_at-2.ensures.back
    c.if-are_alike.ensures)
    (same-test _ _ (drop 1 (drop at olds)) (drop 1 (drop at news)) true os ns
    c.if-are_alike-2.ensures))
    ∙ between-some olds news at c.alike-at.ensures.alike some

pub returns : goal.returns
returns c =
    let at : ℕ = c.alike-at.result in
    let olds : List PlannedBody = c.args.old.now in
    let news : List PlannedBody = c.args.new.now in
    let some : 0 < length (drop at olds) =
    omega (arith, ap length c.split_at.ensures.back, c.if-olds-eq0.false) in
    let os : c.split_at-3.result.1.now ≡ drop 1 (drop at olds) =
    c.split_at-3.ensures.back ∙ ap (drop 1) c.split_at.ensures.back in
    let first : are_alike (plans_of (drop 1 (drop at olds))) (plans_of (drop at news)) ≡ false =
    same-test _ _ (drop 1 (drop at olds)) (drop at news) false os c.split_at-2.ensures.back
    c.if-are_alike.ensures in
    let other : 0 < length (drop at news)
    → are_alike (plans_of (drop 1 (drop at olds))) (plans_of (drop 1 (drop at news))) ≡ false =
    λ more. elim c.else-news-gt0.branch [
      | else-news-gt0-via-then-news-gt0+else-are_alike-2 w ↦ same-test _ _ (drop 1 (drop at olds))
          (drop 1 (drop at news)) false os
          (w.split_at-then-news-gt0.ensures.back ∙ ap (drop 1) c.split_at-2.ensures.back)
          w.if-are_alike-2.ensures
      | else-news-gt0-via-else-news-gt0 w ↦ absurd (omega (
        arith,
        more,
        ap length c.split_at-2.ensures.back,
        w.if-news-gt0.false,
      ))
    ] in
    sym (none-here (at + 1) (plans_of (drop 1 (drop at olds))) (drop at news) first other)
    ∙ between-some olds news at c.alike-at.ensures.alike some
