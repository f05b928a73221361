use Rattle.std.proofs.Common.{not, sym, ap, ◌∙◌, arith}
use Rattle.mot_repository.proofs.Apart.{id_before, id_behind}
use Rattle.mot_repository.proofs.Bounds.{id_above}
use Rattle.mot_repository.proofs.opening.fold.are_ids_distinct.Goals as goal

pub returns-then-has_id : goal.returns-then-has_id
returns-then-has_id c =
    id_before c.args.objects.now c.args.place c.index-objects-place.result c.requires.within
    c.index-objects-place.is c.requires.others
    (sym c.has_id.ensures ∙ c.if-has_id.true)

pub returns : goal.returns
returns c =
    ap not c.has_id-2.ensures
    ∙ id_behind c.args.objects.now c.args.place c.index-objects-place.result c.requires.within
    c.index-objects-place.is c.requires.others
    (sym c.has_id.ensures ∙ c.if-has_id.false)

pub returns-then-get-greatest : goal.returns-then-get-greatest
returns-then-get-greatest c =
    id_above c.args.objects.now c.args.place c.index-objects-place.result c.args.greatest
    c.requires.within c.index-objects-place.is c.requires.others c.requires.bounded
    (let is = c.get.ensures.value in let above = c.if-get-greatest.true in omega (arith, is, above))
