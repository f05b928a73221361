use Rattle.std.proofs.Common.{[], ◌++◌}
use Rattle.mot_playout.specs.Lives.{one_more}
use Rattle.mot_playout.specs.Runs.{accepted_commands, commands_in_flight}
use Rattle.mot_playout.proofs.Survival.{after_history, after_history_none, passing, if_both_ok}
use Rattle.mot_playout.proofs.Survival.{if_ok, if_err}
use Rattle.mot_playout.proofs.Histories.{goes_on}
use Rattle.mot_playout.proofs.headline.run_and_restart.Goals as goal

pub returns-clause-headline : goal.returns-clause-headline
returns-clause-headline g c = λ s now acknowledged history holds left.
    let leaves = c.run-end.ensures.runs.leaves now holds in
    let stands = leaves.any_moment.each (g.E.Disk.state c.args.left).bytes left in
    let first = accepted_commands c.args.commands.now c.run-end.result.done.items in
    let flight = commands_in_flight c.args.commands.now c.run-end.result.done.items
    c.run-end.result.fault in
    if_both_ok _ _ _ c.restart-restarted.result (λ r opened reads honest. (
      stands.last,
      after_history_none s now stands.last acknowledged (first ++ flight) history stands.after,
      stands.image_is,
      opened honest,
      reads honest,
    ))
    (c.restart-restarted.ensures.holds stands.last stands.image_is)
    (c.restart-restarted.ensures.reads stands.last stands.image_is)

pub returns-clause-acknowledged : goal.returns-clause-acknowledged
returns-clause-acknowledged g c = λ s now acknowledged history holds left.
    let leaves = c.run-end.ensures.runs.leaves now holds in
    let stands = leaves.at_end (g.E.Disk.state c.args.left).bytes left in
    let first = accepted_commands c.args.commands.now c.run-end.result.done.items in
    let flight = commands_in_flight c.args.commands.now c.run-end.result.done.items
    c.run-end.result.fault in
    if_both_ok _ _ _ c.restart-restarted.result (λ r opened reads honest. (
      stands.last,
      after_history s now stands.last acknowledged first flight history stands.after,
      stands.image_is,
      opened honest,
      reads honest,
    ))
    (c.restart-restarted.ensures.holds stands.last stands.image_is)
    (c.restart-restarted.ensures.reads stands.last stands.image_is)

pub returns-clause-in_a_row : goal.returns-clause-in_a_row
returns-clause-in_a_row g c = λ geometry first_id before now history holds left.
    let leaves = c.run-end.ensures.runs.leaves now holds in
    let stands = leaves.any_moment.each (g.E.Disk.state c.args.left).bytes left in
    let some = accepted_commands c.args.commands.now c.run-end.result.done.items
    ++ commands_in_flight c.args.commands.now c.run-end.result.done.items c.run-end.result.fault in
    if_ok _ _ c.restart-restarted.result (λ r opened honest. (
      stands.after.count,
      stands.last,
      goes_on geometry first_id before [] some now stands.last history stands.after,
      opened honest,
    ))
    (c.restart-restarted.ensures.holds stands.last stands.image_is)

pub returns-clause-opens : goal.returns-clause-opens
returns-clause-opens g c = λ now holds left.
    let leaves = c.run-end.ensures.runs.leaves now holds in
    let stands = leaves.any_moment.each (g.E.Disk.state c.args.left).bytes left in
    if_err _ _ c.restart-restarted.result
    (λ e why honest. passing (g.E.Disk.state c.args.left) (g.E.Disk.state e.disk) stands.last
    e.refusal honest stands.image_is why)
    c.restart-restarted.ensures.refused

pub returns-clause-in_a_row_after : goal.returns-clause-in_a_row_after
returns-clause-in_a_row_after g c = λ geometry first_id before now history holds left.
    let leaves = c.run-end.ensures.runs.leaves now holds in
    let stands = leaves.at_end (g.E.Disk.state c.args.left).bytes left in
    let done = c.run-end.result.done.items in
    let sure = accepted_commands c.args.commands.now done in
    let flight = commands_in_flight c.args.commands.now done c.run-end.result.fault in
    if_ok _ _ c.restart-restarted.result (λ r opened honest. (
      stands.after.count,
      stands.last,
      one_more before sure flight now stands.last history stands.after,
      opened honest,
    )) (c.restart-restarted.ensures.holds stands.last stands.image_is)
