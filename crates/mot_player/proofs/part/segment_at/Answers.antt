use Rattle.std.proofs.Common.{◌≡◌, ℕ, ◌+◌, ◌-◌, ◌*◌, ◌<◌, min, arith, ap, ◌∙◌}
use Rattle.std.specs.Int.{div_ceil}
use Rattle.std.specs.Prelude.{◌==◌}
use Rattle.mot_player.specs.Inner.Entities.{entity_length}
use Rattle.mot_player.proofs.NextSegment.{is_last-count}
use Rattle.mot_player.proofs.part.segment_at.Goals as goal

pub returns-clause-is_last : goal.returns-clause-is_last
returns-clause-is_last c =
    let size : ℕ = c.args.segment_size in
    let len : ℕ = entity_length c.args.turn.now c.args.entity in
    let at : ℕ = c.args.segment * c.from-size.result in
    let same : c.from-size.result ≡ size = c.from-size.ensures ∙ c.get.ensures.value in
    let some : 0 < size = omega (arith, c.get.ensures.range.0) in
    ap (λ (k : ℕ). c.args.segment + 1 == k)
    (c.segment_count.ensures.count
    ∙ ap (λ (l : ℕ). div_ceil l size) c.entity_length-entity_len.ensures.value)
    ∙ is_last-count size c.args.segment len at c.min-len.result some c.requires.segment
    (ap (λ (k : ℕ). c.args.segment * k) same)
    (c.min-len.ensures ∙ ap (λ (l : ℕ). min (l - at) c.from-size.result)
    c.entity_length-entity_len.ensures.value
    ∙ ap (λ (k : ℕ). min (len - at) k) same)
