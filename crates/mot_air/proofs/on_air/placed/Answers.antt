use Rattle.std.proofs.Common.{Err, refl, subst}
use Rattle.mot_air.specs.Commands.EndsSending.{unplaced}
use Rattle.mot_air.proofs.on_air.placed.Goals as goal
use Rattle.mot_endpoints.specs.Packets.{TakesItsPlace, destination_of, writer_handle, writer_system}

pub returns-in-Err-take_place-clause-sent : goal.returns-in-Err-take_place-clause-sent
returns-in-Err-take_place-clause-sent g c =
    let before = c.args.opened.now in
    let after = c.reason.new.self in
    let told = g.P.System.calls (writer_system after.writer) in
    let new = g.P.System.calls (writer_system c.take_place.new.self.writer) in
    let fault = c.in-Err-take_place.fault in (
      told,
      before.writer.fault,
      c.reason.result,
      c.reason.ensures.told,
      unplaced fault refl
          (subst (λ d. TakesItsPlace d (writer_handle before.writer) (Err fault) told new)
          c.reason.ensures.destination
          (subst (λ h. TakesItsPlace (destination_of after) h (Err fault) told new)
          c.reason.ensures.handle c.in-Err-take_place.ensures.calls)),
    )
