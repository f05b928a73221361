use Rattle.std.proofs.Common.{◌≡◌, ◌∙◌, subst}
use Rattle.disk_store.specs.Calls.{making_calls}
use Rattle.disk_model.specs.Disk.{IsNew}
use Rattle.disk_store.specs.File.{calls_on, file_state}
use Rattle.disk_store.proofs.FileCalls.{begun_made, made_bytes}
use Rattle.disk_store.proofs.file.FileDiskFrom.fill.Goals as goal

pub begin-requires : goal.begin-requires
begin-requires g c =
    let is : c.sync_folder.new.self.history.calls ≡ making_calls c.args.len =
    rw (rw (rw (rw c.in_ok-made.ensures at c.in_ok-fill.ensures) at c.in_ok-sync_all.ensures) at c.in_default.ensures)
    at c.in_ok-sync_folder.ensures in
    begun_made c.args.len g.S.Start.bytes _ is

pub returns-clause-new : goal.returns-clause-new
returns-clause-new g c =
    let is : calls_on c.begin.result ≡ making_calls c.args.len =
    c.begin.ensures.history
    ∙ rw (rw (rw (rw c.in_ok-made.ensures at c.in_ok-fill.ensures) at c.in_ok-sync_all.ensures) at c.in_default.ensures)
    at c.in_ok-sync_folder.ensures in
    subst (λ bytes. IsNew bytes (file_state c.begin.result))
    (made_bytes c.args.len g.S.Start.bytes _ is) c.begin.ensures.new

pub returns-clause-order : goal.returns-clause-order
returns-clause-order g c =
    c.begin.ensures.history
    ∙ rw (rw (rw (rw c.in_ok-made.ensures at c.in_ok-fill.ensures) at c.in_ok-sync_all.ensures) at c.in_default.ensures)
    at c.in_ok-sync_folder.ensures
