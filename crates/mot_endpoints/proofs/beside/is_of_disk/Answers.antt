use Rattle.std.proofs.Common.{refl, sym}
use Rattle.mot_endpoints.specs.Names.IsOfDisk.{seen, unseen}
use Rattle.mot_endpoints.proofs.beside.is_of_disk.Goals as goal

pub returns-in-Ok : goal.returns-in-Ok
returns-in-Ok g c =
    seen c.in-Ok.folder (sym c.if-not-is_store_name.ensures) (rw c.folder_of.ensures at
    (rw c.in-Ok.ensures at (rw c.folder_of-in-Ok.ensures at c.leads_to.ensures)))

pub returns-in-Err : goal.returns-in-Err
returns-in-Err g c =
    unseen c.in-Err.field-0 (sym c.if-not-is_store_name.ensures) refl
    (rw c.folder_of.ensures at c.in-Err.ensures)
