use Rattle.std.proofs.Common.{⊎_elim}
use Rattle.mot_journal.specs.Image.{rest_of}
use Rattle.mot_journal.specs.Journal.{standing_from}
use Rattle.mot_repository.specs.Repository.{IsOf}
use Rattle.mot_playout.proofs.Histories.{histories_are, not_opened}
use Rattle.mot_playout.proofs.Survival.{if_ok, if_both_ok, if_err, on_ok, passing}
use Rattle.mot_playout.proofs.beginning.format_and_restart.Goals as goal

pub returns-clause-begins : goal.returns-clause-begins
returns-clause-begins g c = λ honest none left.
    let first = g.E.Disk.state c.args.left in
    let opens = c.restart-restarted.ensures in
    let time = c.format_from-formatted.ensures.makes.any_moment honest none in
    ⊎_elim
    (λ magic. if_ok _ _ c.restart-restarted.result
    (λ r opened still_honest.
    absurd (not_opened first (g.E.Disk.state r.server.disk) r.server.view magic
    (opened still_honest))) opens.opened)
    (λ made.
    let image : IsOf (standing_from c.args.geometry.now c.args.directory
    (rest_of c.args.geometry.now first.bytes)) first.bytes =
    record { stands = made.stands; clean = made.clean } in
    if_both_ok _ _ _ c.restart-restarted.result
    (λ r holds reads still_honest. (holds still_honest, reads still_honest))
    (opens.holds (standing_from c.args.geometry.now c.args.directory
    (rest_of c.args.geometry.now first.bytes)) image)
    (opens.reads (standing_from c.args.geometry.now c.args.directory
    (rest_of c.args.geometry.now first.bytes)) image))
    (time.each first.bytes left)

pub returns-clause-histories : goal.returns-clause-histories
returns-clause-histories g c = histories_are

pub returns-clause-makes : goal.returns-clause-makes
returns-clause-makes g c = c.format_from-formatted.ensures.makes

pub returns-clause-opens : goal.returns-clause-opens
returns-clause-opens g c = λ honest left.
    let first = g.E.Disk.state c.args.left in
    on_ok c.format_from-formatted.result (λ made.
    let image : IsOf (standing_from c.args.geometry.now c.args.directory
    (rest_of c.args.geometry.now first.bytes)) first.bytes =
    record {
      stands = (made first.bytes left).stands;
      clean = (made first.bytes left).clean;
    } in
    if_err _ _ c.restart-restarted.result
    (λ e refused still_honest. passing first (g.E.Disk.state e.disk)
    (standing_from c.args.geometry.now c.args.directory
    (rest_of c.args.geometry.now first.bytes)) e.refusal still_honest image refused)
    c.restart-restarted.ensures.refused)
    (c.format_from-formatted.ensures.makes.ok honest)
