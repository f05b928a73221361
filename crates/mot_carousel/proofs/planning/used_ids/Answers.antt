use Rattle.std.proofs.Common.{◌≡◌, ◌<◌, ◌≤◌, ◌∷◌, ◌++◌, [], ℕ, suc, length, map, take, get_or, ap}
use Rattle.std.proofs.Common.{sym, ◌∙◌, arith}
use Rattle.std.proofs.lemmas.List.{map_more, length-map, take_all}
use Rattle.mot_carousel.specs.Inner.{used_ids_of}
use Rattle.mot_carousel.proofs.planning.used_ids.Goals as goal
use Rattle.mot_carousel.proofs.planning.used_ids.Goals.{After-loop-object}
use Rattle.mot_objects.specs.declared.object.Object.{Object}

abbrev id_of : Object → ℕ
id_of o = o.tid

pub loop-object-preserved : goal.loop-object-preserved
loop-object-preserved c =
    let carousel = c.args.carousel.now in
    let k = c.loop-object.object-index in
    let o = c.object-item.result in
    let lt : k < length carousel.objects.items =
    rw c.deref-object-items.ensures.value at c.loop-object-test.true in
    let item : o ≡ get_or carousel.objects.items k o =
    c.object-item.is ∙ ap (λ l. get_or l k o) c.deref-object-items.ensures.value in
    let more = map_more id_of carousel.objects.items k o lt in
    record {
      items = c.push_reserved-in-loop-object.ensures.items
          ∙ ap (λ l. l ++ o.tid ∷ []) c.loop-object.invariant.items
          ∙ ap (λ l. carousel.directory ∷ l)
          (ap (λ p. map id_of (take k carousel.objects.items) ++ id_of p ∷ []) item ∙ sym more);
      room = c.push_reserved-in-loop-object.ensures.capacity ∙ c.loop-object.invariant.room;
    }

all_ids : (c : After-loop-object) → c.loop-object.ids.items ≡ used_ids_of c.args.carousel.now
all_ids c =
    let carousel = c.args.carousel.now in
    let past : length carousel.objects.items ≤ c.loop-object.object-index =
    rw c.deref-object-items.ensures.value at c.loop-object-test.false in
    c.loop-object.invariant.items
    ∙ ap (λ l. carousel.directory ∷ map id_of l) (take_all _ carousel.objects.items past)

how_many : (c : After-loop-object)
    → length c.loop-object.ids.items ≡ suc (length c.args.carousel.now.objects.items)
how_many c = ap length (all_ids c) ∙ ap suc (length-map c.args.carousel.now.objects.items id_of)

pub returns-clause-items : goal.returns-clause-items
returns-clause-items c = all_ids c

pub returns-clause-few : goal.returns-clause-few
returns-clause-few c = omega (arith, how_many c, c.loop-object.ids.ok.0)

pub returns-clause-room : goal.returns-clause-room
returns-clause-room c =
    omega (arith, how_many c, c.loop-object.ids.ok.0, c.loop-object.invariant.room)
