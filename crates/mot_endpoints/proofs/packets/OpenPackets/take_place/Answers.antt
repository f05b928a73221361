use Rattle.std.proofs.Common.{Err, Ok, ap, refl}
use Rattle.mot_endpoints.specs.Packets.TakesPlace.{failed, taken}
use Rattle.mot_endpoints.proofs.packets.OpenPackets.take_place.Goals as goal

pub returns-in-Ok-clause-calls : goal.returns-in-Ok-clause-calls
returns-in-Ok-clause-calls g c =
    rw c.in-File.is (
      Ok tt,
      refl,
      taken refl
          (rw (c.folder_of.ensures, c.as_str-beside.ensures.value) at c.in-Ok.ensures),
    )

pub returns-in-Err-clause-calls : goal.returns-in-Err-clause-calls
returns-in-Err-clause-calls g c =
    rw c.in-File.is (
      Err c.in-Err.fault,
      ap Err c.from.ensures,
      failed c.in-Err.fault _ refl
          (rw (c.folder_of.ensures, c.as_str-beside.ensures.value) at c.in-Err.ensures)
          (rw c.as_str-beside.ensures.value at c.take_away.ensures),
    )
