use Rattle.std.proofs.Common.{false, refl, true}
use Rattle.mot_endpoints.specs.Packets.IsPlace.{of_disk, seen, unseen}
use Rattle.mot_endpoints.proofs.packets.place_at.Goals as goal

pub returns-then-is_of_disk : goal.returns-then-is_of_disk
returns-then-is_of_disk g c = of_disk refl c.if-is_of_disk.ensures

pub returns-in-Err : goal.returns-in-Err
returns-in-Err g c =
    unseen c.in-Err.fault _ c.place_without.ensures c.if-is_of_disk.ensures c.in-Err.ensures

pub returns-then-leads_to : goal.returns-then-leads_to
returns-then-leads_to g c =
    seen c.in-Ok.found true _ c.if-is_of_disk.ensures (rw c.in-Ok.ensures at c.if-leads_to.ensures) refl

pub returns : goal.returns
returns g c =
    seen c.in-Ok.found false _ c.if-is_of_disk.ensures (rw c.in-Ok.ensures at c.if-leads_to.ensures)
    c.place_of.ensures
