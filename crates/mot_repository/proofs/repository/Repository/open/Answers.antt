use Rattle.std.proofs.Common.{◌≡◌, ⊎_elim, inl, inr, false, sym, ap, subst, ◌∙◌}
use Rattle.std.specs.Prelude.{is_err}
use Rattle.disk_model.specs.Disk.{OnlySyncs}
use Rattle.mot_repository.specs.Opening.{IsOpened}
use Rattle.mot_repository.proofs.Answering.{calm_where_ok}
use Rattle.mot_repository.proofs.OpenDisk.{is_opened, refused_later, where_ok, syncs_on}
use Rattle.mot_repository.proofs.OpenDisk.{reason_later}
use Rattle.mot_repository.proofs.OpenDisk.{three_calls}
use Rattle.mot_repository.proofs.repository.Repository.open.Goals as goal

pub returns-in-Ok-clause-opened : goal.returns-in-Ok-clause-opened
returns-in-Ok-clause-opened g c = λ honest.
    let same = c.of.ensures.disk in
    let end = subst (λ d. (g.D.Disk.state d).IsHonest) same honest in
    let first = c.sync.ensures.keeps.frame.was_honest
    (c.load_inventory.ensures.only_reads.keeps.was_honest end) in
    let ok : is_err c.sync.result ≡ false = sym c.is_err.ensures.value ∙ c.if-is_err.false in
    subst (λ d. IsOpened (g.D.Disk.state c.args.disk) (g.D.Disk.state d) c.of.result.view)
    (sym same)
    (is_opened (g.D.Disk.state c.args.disk) (g.D.Disk.state c.sync.new.self)
    (g.D.Disk.state c.load_inventory.new.disk) c.of.result.view
    c.in-Ok.journal c.in-Ok.inventory.carousel c.in-Ok.inventory.extents.items c.of.ensures.view
    (g.met.D.Disk.sound c.args.disk first)
    (c.sync.ensures.still first) (where_ok c.sync.result ok (c.sync.ensures.firm first))
    (c.load_inventory.ensures.only_reads.unchanged end)
    (c.in-Ok.ensures.loaded end) c.in-Ok.inventory.paired c.in-Ok.ensures.going)

pub returns-in-Err-clause-refused : goal.returns-in-Err-clause-refused
returns-in-Err-clause-refused g c =
    refused_later (g.D.Disk.state c.args.disk) (g.D.Disk.state c.sync.new.self)
    (g.D.Disk.state c.load_inventory.new.disk) c.sync.result c.in-Err.fault.refusal
    c.sync.ensures.cause
    (sym c.is_err.ensures.value ∙ c.if-is_err.false)
    (λ honest. (c.sync.ensures.still
    (c.sync.ensures.keeps.frame.was_honest
    (c.load_inventory.ensures.only_reads.keeps.was_honest honest))).bytes)
    c.in-Err.ensures.refused

pub returns-then-is_err-clause-only_syncs : goal.returns-then-is_err-clause-only_syncs
returns-then-is_err-clause-only_syncs g c = record {
  keeps = c.sync.ensures.keeps.frame;
  still = λ honest. c.sync.ensures.still (c.sync.ensures.keeps.frame.was_honest honest);
}

pub returns-in-Ok-clause-only_syncs : goal.returns-in-Ok-clause-only_syncs
returns-in-Ok-clause-only_syncs g c =
    let state = g.D.Disk.state in
    subst (λ d. OnlySyncs (state c.args.disk) (state d)) (sym c.of.ensures.disk)
    (syncs_on (state c.args.disk) (state c.sync.new.self) (state c.load_inventory.new.disk)
    c.sync.ensures.keeps.frame c.sync.ensures.still c.load_inventory.ensures.only_reads)

pub returns-in-Ok-clause-calm : goal.returns-in-Ok-clause-calm
returns-in-Ok-clause-calm g c =
    let state = g.D.Disk.state in
    let ok : is_err c.sync.result ≡ false = sym c.is_err.ensures.value ∙ c.if-is_err.false in
    ap (λ d. (state d).failures) c.of.ensures.disk ∙ c.in-Ok.ensures.calm
    ∙ where_ok c.sync.result ok (calm_where_ok c.sync.result c.sync.ensures.cause)

pub returns-in-Ok-clause-cost : goal.returns-in-Ok-clause-cost
returns-in-Ok-clause-cost g c =
    let state = g.D.Disk.state in
    ap (λ d. (state d).calls) c.of.ensures.disk
    ∙ three_calls _ _ _ c.sync.ensures.called c.in-Ok.ensures.cost.exact

pub returns-in-Err-clause-only_syncs : goal.returns-in-Err-clause-only_syncs
returns-in-Err-clause-only_syncs g c =
    let state = g.D.Disk.state in
    syncs_on (state c.args.disk) (state c.sync.new.self) (state c.load_inventory.new.disk)
    c.sync.ensures.keeps.frame c.sync.ensures.still c.load_inventory.ensures.only_reads

pub returns-in-Err-clause-calm : goal.returns-in-Err-clause-calm
returns-in-Err-clause-calm g c =
    let ok : is_err c.sync.result ≡ false = sym c.is_err.ensures.value ∙ c.if-is_err.false in
    let synced = where_ok c.sync.result ok (calm_where_ok c.sync.result c.sync.ensures.cause) in
    ⊎_elim (λ is. inl is) (λ same. inr (same ∙ synced)) c.in-Err.ensures.calm

pub returns-in-Err-clause-so : goal.returns-in-Err-clause-so
returns-in-Err-clause-so g c = λ honest.
    let mid = c.load_inventory.ensures.only_reads.keeps.was_honest honest in
    reason_later c.in-Err.fault.reason (g.D.Disk.state c.sync.new.self).bytes
    (g.D.Disk.state c.args.disk).bytes
    (c.sync.ensures.still (c.sync.ensures.keeps.frame.was_honest mid)).bytes
    (c.in-Err.ensures.so honest)
