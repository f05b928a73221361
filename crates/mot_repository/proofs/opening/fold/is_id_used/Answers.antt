use Rattle.std.proofs.Common.{sym, arith}
use Rattle.mot_repository.proofs.Bounds.{id_unused}
use Rattle.mot_repository.proofs.opening.fold.is_id_used.Goals as goal

pub returns-then-get-greatest : goal.returns-then-get-greatest
returns-then-get-greatest c =
    let is = c.get.ensures.value in
    let above = c.if-get-greatest.true in
    sym (id_unused c.args.greatest c.args.tid c.args.objects.now c.requires
    (omega (arith, is, above)))
