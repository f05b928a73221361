use Rattle.std.proofs.Common.{true, false, refl, sym, ◌∙◌, ap}
use Rattle.std.specs.Prelude.{bytes_eq}
use Rattle.mot_player.proofs.Kept.{index-of_other}
use Rattle.mot_player.proofs.groups.LastGroup.next_index.Goals as goal
use Rattle.mot_player.proofs.groups.LastGroup.next_index.Goals.{else-is_same_front-via-then-is_same_front+else-eq}
use Rattle.mot_player.proofs.groups.LastGroup.next_index.Goals.{else-is_same_front-via-else-is_same_front}

pub returns-else-is_same_front-clause-value : goal.returns-else-is_same_front-clause-value
returns-else-is_same_front-clause-value c =
    let kept = c.args.self.now in
    let some = sym c.is_empty.ensures ∙ c.if-is_empty.false in
    let sized = kept.whole ∙ sym c.requires in
    elim c.else-is_same_front.branch [
      | else-is_same_front-via-then-is_same_front+else-eq w ↦ index-of_other kept c.args.front.now c.args.segment.now
          true false sized some
          (sym c.is_same_front.ensures ∙ w.if-is_same_front.true)
          (ap (λ xs. bytes_eq xs c.args.segment.now) (sym w.as_slice.ensures.value)
          ∙ sym w.eq.ensures ∙ w.if-eq.false) refl
      | else-is_same_front-via-else-is_same_front w ↦ index-of_other kept c.args.front.now c.args.segment.now false
          (bytes_eq kept.segment.items c.args.segment.now)
          sized some (sym c.is_same_front.ensures ∙ w.if-is_same_front.false) refl refl
    ]
