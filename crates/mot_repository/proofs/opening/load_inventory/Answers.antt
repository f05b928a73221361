use Rattle.std.proofs.Common.{sym, ap, ◌∙◌, inr}
use Rattle.std.proofs.lemmas.Result.{err_from_is_err_and}
use Rattle.mot_journal.specs.Image.{catalogue_of}
use Rattle.mot_numbers.specs.declared.geometry.Geometry.{Geometry}
use Rattle.mot_repository.proofs.OpenDisk.{load_refused, fold_refused, is_in_order}
use Rattle.mot_repository.proofs.OpenDisk.{fold_refused_same, fold_reason}
use Rattle.mot_repository.proofs.opening.load_inventory.Goals as goal

pub returns-in_err-loaded-clause-refused : goal.returns-in_err-loaded-clause-refused
returns-in_err-loaded-clause-refused g c =
    let p = err_from_is_err_and c.from_residual.result c.from_residual.ensures.1 in
    rw (p.1, p.2) (load_refused (g.D.Disk.state c.args.disk.now) (g.D.Disk.state c.load_with_reason.new.disk)
    c.in_err-loaded.field-0.0.refusal c.in_err-loaded.ensures.refused)

pub returns-in_err-inventory-clause-refused : goal.returns-in_err-inventory-clause-refused
returns-in_err-inventory-clause-refused g c =
    let p = err_from_is_err_and c.from_residual-in_err-inventory.result
    c.from_residual-in_err-inventory.ensures.1 in
    rw (p.1, p.2) (fold_refused (g.D.Disk.state c.args.disk.now) (g.D.Disk.state c.load_with_reason.new.disk)
    c.in_ok-loaded.loaded.journal c.in_ok-loaded.loaded.records.items c.in_err-inventory.field-0.0.refusal
    c.in_ok-loaded.ensures.loaded
    (fold_refused_same c.geometry-geometry.result c.in_ok-loaded.loaded.journal.geometry
    c.in_ok-loaded.loaded.records.items c.in_err-inventory.field-0.0.refusal
    c.geometry-geometry.ensures
    c.in_err-inventory.ensures.refused))

pub returns-clause-in_order : goal.returns-clause-in_order
returns-clause-in_order g c =
    is_in_order c.in_ok-loaded.loaded.journal c.in_ok-inventory.inventory.carousel
    c.in_ok-inventory.inventory.extents.items c.in_ok-loaded.loaded.records.items
    (g.D.Disk.state c.args.disk.now).len c.in_ok-loaded.ensures.valid
    c.in_ok-loaded.ensures.long_enough c.in_ok-loaded.ensures.sound
    c.in_ok-inventory.ensures.typed
    (ap (λ (x : Geometry). catalogue_of x.objects c.in_ok-loaded.loaded.records.items)
    (sym c.geometry-geometry.ensures) ∙ c.in_ok-inventory.ensures.folded)
    c.in_ok-inventory.inventory.paired c.in_ok-loaded.ensures.going

pub returns-in_err-inventory-clause-going : goal.returns-in_err-inventory-clause-going
returns-in_err-inventory-clause-going g c =
    let p = err_from_is_err_and c.from_residual-in_err-inventory.result
    c.from_residual-in_err-inventory.ensures.1 in
    rw p.1 tt

pub returns-in_err-inventory-clause-in_order : goal.returns-in_err-inventory-clause-in_order
returns-in_err-inventory-clause-in_order g c =
    let p = err_from_is_err_and c.from_residual-in_err-inventory.result
    c.from_residual-in_err-inventory.ensures.1 in
    rw p.1 tt

pub returns-in_err-inventory-clause-loaded : goal.returns-in_err-inventory-clause-loaded
returns-in_err-inventory-clause-loaded g c =
    let p = err_from_is_err_and c.from_residual-in_err-inventory.result
    c.from_residual-in_err-inventory.ensures.1 in
    rw p.1 (λ honest. tt)

pub returns-in_err-inventory-clause-cost : goal.returns-in_err-inventory-clause-cost
returns-in_err-inventory-clause-cost g c =
    let p = err_from_is_err_and c.from_residual-in_err-inventory.result
    c.from_residual-in_err-inventory.ensures.1 in
    rw p.1 (record { at_most = c.load_with_reason.ensures.cost.at_most; exact = tt })

pub returns-in_err-inventory-clause-calm : goal.returns-in_err-inventory-clause-calm
returns-in_err-inventory-clause-calm g c =
    let p = err_from_is_err_and c.from_residual-in_err-inventory.result
    c.from_residual-in_err-inventory.ensures.1 in
    rw p.1 (inr c.in_ok-loaded.ensures.calm)

pub returns-in_err-inventory-clause-reason : goal.returns-in_err-inventory-clause-reason
returns-in_err-inventory-clause-reason g c =
    let p = err_from_is_err_and c.from_residual-in_err-inventory.result
    c.from_residual-in_err-inventory.ensures.1 in
    rw (p.1, p.2) c.in_err-inventory.ensures.reason

pub returns-in_err-inventory-clause-so : goal.returns-in_err-inventory-clause-so
returns-in_err-inventory-clause-so g c =
    let p = err_from_is_err_and c.from_residual-in_err-inventory.result
    c.from_residual-in_err-inventory.ensures.1 in
    rw (p.1, p.2) (λ honest. fold_reason (g.D.Disk.state c.args.disk.now).bytes
    c.in_ok-loaded.loaded.journal c.in_ok-loaded.loaded.records.items
    c.geometry-geometry.result.objects c.in_err-inventory.field-0.0.reason
    (c.in_ok-loaded.ensures.loaded honest)
    (ap (λ (x : Geometry). x.objects) c.geometry-geometry.ensures)
    c.in_err-inventory.ensures.so)
