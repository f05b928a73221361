use Rattle.std.proofs.Common.{◌≡◌, ◌∙◌, Bool, true, false, Err, None, Ok, Result, Some, [], ap}
use Rattle.std.proofs.Common.{refl}
use Rattle.disk_model.specs.Disk.{State}
use Rattle.mot_numbers.specs.declared.refusal.Refusal.{Refusal}
use Rattle.mot_numbers.proofs.Laws.{same_error}
use Rattle.mot_playout.specs.Runs.{ServerView}
use Rattle.mot_repository.proofs.Laws.{some_standing}
use Rattle.mot_update.specs.Faults.{StaysCalm, TellsFaults}
use Rattle.mot_update.specs.HasRun.{marks_of_settling}
use Rattle.mot_update.specs.Inner.{is_command}
use Rattle.mot_update.specs.Looking.{was_stored}
use Rattle.mot_update.specs.declared.settling.Need.{Need}
use Rattle.mot_update.proofs.Room.{room_for}
use Rattle.mot_update.proofs.Runs.{has_read, read_fault, read_then_run}
use Rattle.mot_update.proofs.looking.settle_taken.Goals as goal

-- where a command is needed, no fault came
calm_command : {D : Type 0} (old new : ServerView D) (start now : State) (r : Result Need Refusal)
    → is_command r ≡ true → TellsFaults old new start now r → StaysCalm old new start now
calm_command old new start now (Ok need) is tells = tells
calm_command old new start now (Err refusal) is tells =
    absurd (let no : false ≡ true = is in cc)

-- what is not given was new
was_new : (b : Bool) → (b ≡ false → false ≡ true) → b ≡ true
was_new true there = refl
was_new false there = absurd (let no : false ≡ true = there refl in cc)

pub returns-then-not-take-clause-run : goal.returns-then-not-take-clause-run
returns-then-not-take-clause-run g c = λ s holds honest.
    let old = c.args.server.now in
    let new = c.need_of-need.new.server in
    let state = g.D.Disk.state in
    let one = c.need_of-need.ensures in
    (has_read old new (state old.disk) (state new.disk) s None
    (g.met.D.Disk.sound old.disk holds.journal.honest) one.view one.player honest
    (one.only_reads.unchanged honest) holds).0

pub returns-in_err-need-clause-run : goal.returns-in_err-need-clause-run
returns-in_err-need-clause-run g c = λ s holds honest.
    let old = c.args.server.now in
    let new = c.need_of-need.new.server in
    let state = g.D.Disk.state in
    let one = c.need_of-need.ensures in
    rw (same_error c.from_residual.result c.in_err-need.field-0.0 c.from_residual.ensures.1)
    (read_fault old new (state old.disk) (state new.disk) s _ c.in_err-need.field-0.0
    (g.met.D.Disk.sound old.disk holds.journal.honest)
    one.view one.player honest (one.only_reads.unchanged honest) holds)

pub returns-in_err-settled-clause-run : goal.returns-in_err-settled-clause-run
returns-in_err-settled-clause-run g c = λ s holds honest.
    let old = c.args.server.now in
    let mid = c.need_of-need.new.server in
    let new = c.settle.new.server in
    let state = g.D.Disk.state in
    let one = c.in_ok-need.ensures in
    let two = c.in_err-settled.ensures in
    let refusal = c.in_err-settled.field-0.0 in
    let was = two.keeps.was_honest honest in
    rw (same_error c.from_residual-in_err-settled.result refusal
    c.from_residual-in_err-settled.ensures.1)
    (read_then_run old mid new (state old.disk) (state mid.disk) (state new.disk) s _ _ []
    (Some refusal) (g.met.D.Disk.sound old.disk holds.journal.honest) one.view one.player was
    (one.only_reads.unchanged was) holds (one.need s holds was)
    (λ t held. two.run t held honest))

pub returns-clause-run : goal.returns-clause-run
returns-clause-run g c = λ s holds honest.
    let old = c.args.server.now in
    let mid = c.need_of-need.new.server in
    let new = c.settle.new.server in
    let state = g.D.Disk.state in
    let one = c.in_ok-need.ensures in
    let two = c.in_ok-settled.ensures in
    let was = two.keeps.was_honest honest in
    read_then_run old mid new (state old.disk) (state mid.disk) (state new.disk) s _ _
    (marks_of_settling (Ok c.in_ok-settled.settled)) None
    (g.met.D.Disk.sound old.disk holds.journal.honest) one.view one.player was
    (one.only_reads.unchanged was) holds (one.need s holds was)
    (λ t held. two.run t held honest)

pub returns-clause-lasts : goal.returns-clause-lasts
returns-clause-lasts g c = λ settled is stored.
    let mid = c.need_of-need.new.server in
    let some = some_standing mid.view in
    let same : c.in_ok-settled.settled ≡ settled = cc in
    let room = room_for mid.view some.0 some.1 mid.view.journal.layout c.in_ok-need.field-0
    c.args.wanted c.in_ok-settled.settled (c.in_ok-settled.ensures.right some.0 some.1)
    (ap was_stored same ∙ stored) in
    c.take.ensures.lasts (c.comes_in.ensures.room c.in_ok-need.field-0 c.in_ok-need.was room)
    c.if-not-take.false
