use Rattle.std.proofs.Common.{[], ◌∷◌, ◌++◌, length, take, ap, sym, ◌∙◌, arith}
use Rattle.std.proofs.lemmas.List.{take_more, take_all}
use Rattle.mot_carousel.proofs.planning.copy_with_room.Goals as goal

pub loop-object-preserved : goal.loop-object-preserved
loop-object-preserved c =
    let objects = c.args.objects.now in
    let k = c.loop-object.object-index in
    record {
      items = c.push_reserved.ensures.items
          ∙ ap (λ l. l ++ c.in_ok-clone.field-0 ∷ []) c.loop-object.invariant.items
          ∙ ap (λ o. take k objects ++ o ∷ []) (c.in_ok-clone.ensures.cases ∙ c.object-item.is)
          ∙ sym (take_more objects k c.object-item.result c.loop-object-test.true);
      room = c.push_reserved.ensures.capacity ∙ c.loop-object.invariant.room;
    }

pub returns-clause-items : goal.returns-clause-items
returns-clause-items c =
    c.loop-object.invariant.items ∙ take_all _ c.args.objects.now c.loop-object-test.false

pub returns-clause-room : goal.returns-clause-room
returns-clause-room c =
    omega (
      arith,
      ap length (returns-clause-items c),
      c.loop-object.copy.ok.0,
      c.loop-object.invariant.room,
    )
