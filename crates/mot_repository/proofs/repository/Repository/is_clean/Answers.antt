use Rattle.std.proofs.Common.{◌∙◌, sym, subst}
use Rattle.std.proofs.lemmas.Result.{IfOk-weaker}
use Rattle.mot_repository.specs.Inner.Fold.{IsInOrder, view_with}
use Rattle.mot_repository.proofs.Places.{stands_where}
use Rattle.mot_repository.proofs.repository.Repository.is_clean.Goals as goal

pub invariant_of-self : goal.invariant_of-self
invariant_of-self g c =
    let r = c.self.inside in
    subst (IsInOrder (view_with r.journal r.inventory.carousel r.inventory.extents.items r.halted))
    (sym c.is_clean.ensures.only_reads.keeps.len) c.self.invariant

pub returns-clause-held : goal.returns-clause-held
returns-clause-held g c = rw (← c.self.view_is) (λ s honest holds.
    let r = c.self.inside in
    let old = g.D.Disk.state r.disk in
    let sound = g.met.D.Disk.sound r.disk holds.journal.honest in
    let has = holds.journal.each old.bytes sound.bytes in
    IfOk-weaker c.is_clean.result _ _ (λ clean is. is ∙ has.clean.gates)
    (c.is_clean.ensures.exact honest
    (stands_where r.journal holds.records old.bytes has.read)))
