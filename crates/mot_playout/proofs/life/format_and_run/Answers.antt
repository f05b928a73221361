use Rattle.std.proofs.Common.{[], ◌++◌, sym, subst}
use Rattle.mot_journal.specs.Image.{rest_of}
use Rattle.mot_journal.specs.Journal.{standing_from}
use Rattle.mot_playout.specs.Runs.{accepted_commands, commands_in_flight}
use Rattle.mot_numbers.proofs.Laws.{same_error}
use Rattle.mot_repository.specs.Opening.{IsPassing}
use Rattle.mot_playout.proofs.Lives.{if_some, keeps_commands, none_kept, none_or_left, run_fault}
use Rattle.mot_playout.proofs.Marked.{marks_of_carousel}
use Rattle.mot_playout.proofs.life.format_and_run.Goals as goal

pub returns-clause-any_moment : goal.returns-clause-any_moment
returns-clause-any_moment g c = λ honest blank image left.
    let state = g.D.Disk.state in
    let opens = c.in_ok-server.ensures in
    let run = c.run-end.ensures.runs in
    let run_honest = subst (λ d. (state d).IsHonest) c.into_disk.ensures honest in
    let open_honest = run.keeps.frame.was_honest run_honest in
    let time = opens.any_moment open_honest blank in
    let rest = rest_of c.args.geometry.now (state c.in_ok-server.server.disk).bytes in
    let leaves = run.leaves (standing_from c.args.geometry.now c.args.directory rest)
    (opens.holds open_honest) in
    let done = c.run-end.result.done.items in
    none_or_left c.args.geometry.now c.args.directory rest
    (accepted_commands c.args.commands.now done
    ++ commands_in_flight c.args.commands.now done c.run-end.result.fault) image
    ((state c.in_ok-server.server.disk).LeftSince (state c.args.disk).moment image)
    (λ old. time.each image old)
    (leaves.any_moment.before (state c.args.disk).moment image time.later
    (subst (λ d. (state d).LeftSince (state c.args.disk).moment image) c.into_disk.ensures left))

pub returns-clause-acknowledged : goal.returns-clause-acknowledged
returns-clause-acknowledged g c = λ honest image may.
    let state = g.D.Disk.state in
    let run_honest = subst (λ d. (state d).IsHonest) c.into_disk.ensures honest in
    let open_honest = c.run-end.ensures.runs.keeps.frame.was_honest run_honest in
    let rest = rest_of c.args.geometry.now (state c.in_ok-server.server.disk).bytes in
    let leaves = c.run-end.ensures.runs.leaves
    (standing_from c.args.geometry.now c.args.directory rest)
    (c.in_ok-server.ensures.holds open_honest) in
    keeps_commands c.args.geometry.now c.args.directory rest _ _ image
    (leaves.at_end image (subst (λ d. (state d).MayLeave image) c.into_disk.ensures may))

-- the marks are right of the carousel
pub returns-clause-marks : goal.returns-clause-marks
returns-clause-marks g c = λ honest.
    let state = g.D.Disk.state in
    let opens = c.in_ok-server.ensures in
    let run = c.run-end.ensures.runs in
    let run_honest = subst (λ d. (state d).IsHonest) c.into_disk.ensures honest in
    let open_honest = run.keeps.frame.was_honest run_honest in
    let rest = rest_of c.args.geometry.now (state c.in_ok-server.server.disk).bytes in
    let leaves = run.leaves (standing_from c.args.geometry.now c.args.directory rest)
    (opens.holds open_honest) in
    marks_of_carousel c.in_ok-server.server.view.journal.layout
    c.args.geometry.now c.args.directory rest c.args.commands.now
    c.run-end.result.done.items leaves.last (opens.layout open_honest) leaves.marked

pub returns-clause-whole : goal.returns-clause-whole
returns-clause-whole g c = c.run-end.ensures.runs.whole

pub returns-clause-fault : goal.returns-clause-fault
returns-clause-fault g c = λ honest.
    let state = g.D.Disk.state in
    let opens = c.in_ok-server.ensures in
    let run = c.run-end.ensures.runs in
    let run_honest = subst (λ d. (state d).IsHonest) c.into_disk.ensures honest in
    let open_honest = run.keeps.frame.was_honest run_honest in
    let going = (opens.holds open_honest).going in
    if_some _ _ c.run-end.result.fault
    (λ refusal is. subst (λ d. IsPassing (state c.args.disk) (state d) refusal)
    (sym c.into_disk.ensures)
    (run_fault (state c.args.disk) (state c.in_ok-server.server.disk)
    (state c.run-end.new.self.disk) c.in_ok-server.server.view c.run-end.new.self.view refusal
    opens.calm going is)) run.fault

pub returns-in_err-server-clause-any_moment : goal.returns-in_err-server-clause-any_moment
returns-in_err-server-clause-any_moment g c =
    let failed = c.in_err-server.field-0.0 in
    rw (same_error c.from_residual.result failed c.from_residual.ensures.1)
    (λ honest blank image left. none_kept c.args.geometry.now c.args.directory [] image
    ((c.in_err-server.ensures.any_moment honest blank).each image left))
