use Rattle.std.proofs.Common.{subst}
use Rattle.mot_numbers.proofs.Laws.{same_error}
use Rattle.mot_numbers.specs.declared.geometry.Geometry.{Geometry}
use Rattle.mot_player.specs.Reading.{ReadsAs}
use Rattle.mot_playout.specs.Life.{AreNumbered}
use Rattle.mot_playout.specs.Playing.{bytes_of_packets}
use Rattle.mot_playout.proofs.Histories.{not_opened}
use Rattle.mot_playout.proofs.Lives.{unopened}
use Rattle.mot_playout.proofs.Survival.{passing}
use Rattle.mot_playout.proofs.life.first_turn.Goals as goal

pub returns-clause-plays : goal.returns-clause-plays
returns-clause-plays g c = λ geometry first_id sure others stands honest.
    let was = subst (λ d. (g.E.Disk.state d).IsHonest) c.into_disk.ensures honest in
    let packets = bytes_of_packets c.in_ok-server.field-0.packets.items in
    let restarts = c.in_ok-server.ensures in
    record {
      count = stands.after.count;
      few = stands.after.few;
      carousel = stands.last.carousel;
      after = stands.after.after.carousel;
      reads = subst (λ (x : Geometry). ReadsAs packets stands.last.carousel x.segment)
          stands.after.after.geometry (restarts.reads stands.last stands.image_is was);
      numbered = subst (λ (x : Geometry). AreNumbered x 0 packets) stands.after.after.geometry
          (restarts.numbered stands.last stands.image_is was);
    }

pub returns-in_err-server-clause-opens : goal.returns-in_err-server-clause-opens
returns-in_err-server-clause-opens g c = λ geometry first_id sure others stands.
    let failed = c.in_err-server.field-0.0 in
    rw (same_error c.from_residual.result failed c.from_residual.ensures.1) (λ honest.
    passing (g.E.Disk.state c.args.left) (g.E.Disk.state failed.disk) stands.last failed.refusal
    honest stands.image_is c.in_err-server.ensures.refused)

pub returns-in_err-server-clause-blank : goal.returns-in_err-server-clause-blank
returns-in_err-server-clause-blank g c = λ none.
    let failed = c.in_err-server.field-0.0 in
    rw (same_error c.from_residual.result failed c.from_residual.ensures.1) (λ honest.
    unopened (g.E.Disk.state c.args.left) (g.E.Disk.state failed.disk) failed.refusal honest none
    c.in_err-server.ensures.refused)

pub returns-clause-blank : goal.returns-clause-blank
returns-clause-blank g c = λ none honest.
    let server = c.in_ok-server.field-0.server in
    not_opened (g.E.Disk.state c.args.left) (g.E.Disk.state server.disk) server.view none
    (c.in_ok-server.ensures.opened
    (subst (λ d. (g.E.Disk.state d).IsHonest) c.into_disk.ensures honest))
