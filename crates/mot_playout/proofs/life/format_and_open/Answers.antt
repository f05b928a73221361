use Rattle.std.proofs.Common.{◌≡◌, ◌⊎◌, ℕ, List, inl, inr, Result, Ok, Err, ap, sym, ◌∙◌, subst}
use Rattle.std.proofs.Common.{refl, true, false, arith, []}
use Rattle.std.proofs.lemmas.Result.{IfOk-from_err}
use Rattle.disk_model.specs.Disk.{State, Rises}
use Rattle.disk_model.proofs.Laws.{keeps_on, stays}
use Rattle.mot_journal.specs.declared.layout.Layout.{Layout}
use Rattle.mot_journal.specs.declared.layout.Layout.TheVariants.{Two}
use Rattle.mot_journal.specs.declared.record.Record.{Record}
use Rattle.mot_journal.specs.Image.{DiskRecords, IsInLayoutTwo, records_of, rest_of}
use Rattle.mot_journal.specs.Journal.{NoneOrFrom, standing_from, with_records}
use Rattle.mot_numbers.proofs.Laws.{same_error}
use Rattle.mot_numbers.specs.declared.refusal.Refusal.{Refusal}
use Rattle.mot_numbers.specs.declared.refusal.Refusal.TheVariants.{DeviceFault, OutOfMemory}
use Rattle.mot_repository.specs.Opening.{IsPassing}
use Rattle.mot_repository.specs.Repository.{Holds, RepositoryView}
use Rattle.mot_playout.proofs.Survival.{passing}
use Rattle.mot_playout.proofs.Openings.{opened_holds}
use Rattle.mot_playout.proofs.Runs.{after_none, none_of}
use Rattle.mot_playout.proofs.life.format_and_open.Goals as goal

-- a disk in layout 2 is opened so
layout_two : (image : List ℕ) (view : RepositoryView) (records : List Record) → IsInLayoutTwo image
    → records_of image ≡ Ok (with_records view.journal records) → view.journal.layout ≡ Two
layout_two image view records two read =
    ap layout_in (sym read ∙ two.1) ∙ two.2
  where
    layout_in : Result DiskRecords Refusal → Layout
    layout_in (Ok r) = r.layout
    layout_in (Err refusal) = Two

-- a passing reason since a moment when the disk had failed as often
passing_since : (old mid new : State) (refusal : Refusal) → mid.failures ≡ old.failures
    → IsPassing mid new refusal → IsPassing old new refusal
passing_since old mid new refusal calm is =
    subst (λ n. (refusal ≡ OutOfMemory) ⊎ ((refusal ≡ DeviceFault) × Rises n new.failures)) calm is

pub returns-in-Err-clause-keeps : goal.returns-in-Err-clause-keeps
returns-in-Err-clause-keeps g c = c.in-Err.ensures.makes.keeps

pub returns-in-Err-clause-still : goal.returns-in-Err-clause-still
returns-in-Err-clause-still g c = c.in-Err.ensures.makes.already

pub returns-in-Err-clause-over : goal.returns-in-Err-clause-over
returns-in-Err-clause-over g c = tt

pub returns-in-Err-clause-holds : goal.returns-in-Err-clause-holds
returns-in-Err-clause-holds g c = tt

pub returns-in-Err-clause-any_moment : goal.returns-in-Err-clause-any_moment
returns-in-Err-clause-any_moment g c = c.in-Err.ensures.makes.any_moment

pub returns-in-Err-clause-layout : goal.returns-in-Err-clause-layout
returns-in-Err-clause-layout g c = tt

pub returns-in-Err-clause-calm : goal.returns-in-Err-clause-calm
returns-in-Err-clause-calm g c = tt

pub returns-in-Err-clause-begins : goal.returns-in-Err-clause-begins
returns-in-Err-clause-begins g c = tt

pub returns-in-Err-clause-refused : goal.returns-in-Err-clause-refused
returns-in-Err-clause-refused g c = λ honest. inl c.in-Err.ensures.makes.refused

pub returns-in_err-server-clause-keeps : goal.returns-in_err-server-clause-keeps
returns-in_err-server-clause-keeps g c =
    let state = g.D.Disk.state in
    let failed = c.in_err-server.field-0.0 in
    rw (same_error c.from_residual.result failed c.from_residual.ensures.1)
    (keeps_on (state c.args.disk) (state c.format_from.new.disk) (state failed.disk)
    c.in_default.ensures.makes.keeps c.in_err-server.ensures.only_syncs.keeps)

pub returns-in_err-server-clause-holds : goal.returns-in_err-server-clause-holds
returns-in_err-server-clause-holds g c =
    IfOk-from_err c.from_residual.result _ c.from_residual.ensures.0

pub returns-in_err-server-clause-any_moment : goal.returns-in_err-server-clause-any_moment
returns-in_err-server-clause-any_moment g c =
    let state = g.D.Disk.state in
    let syncs = c.in_err-server.ensures.only_syncs in
    let failed = c.in_err-server.field-0.0 in
    rw (same_error c.from_residual.result failed c.from_residual.ensures.1) (λ honest blank.
    stays (state c.args.disk) (state c.format_from.new.disk) (state failed.disk)
    (NoneOrFrom c.args.geometry.now c.args.directory)
    (c.in_default.ensures.makes.any_moment (syncs.keeps.was_honest honest) blank)
    (syncs.still honest).time)

pub returns-in_err-server-clause-layout : goal.returns-in_err-server-clause-layout
returns-in_err-server-clause-layout g c =
    IfOk-from_err c.from_residual.result _ c.from_residual.ensures.0

pub returns-in_err-server-clause-calm : goal.returns-in_err-server-clause-calm
returns-in_err-server-clause-calm g c =
    IfOk-from_err c.from_residual.result _ c.from_residual.ensures.0

pub returns-in_err-server-clause-begins : goal.returns-in_err-server-clause-begins
returns-in_err-server-clause-begins g c =
    IfOk-from_err c.from_residual.result _ c.from_residual.ensures.0

pub returns-in_err-server-clause-refused : goal.returns-in_err-server-clause-refused
returns-in_err-server-clause-refused g c =
    let state = g.D.Disk.state in
    let formatted = c.format_from.new.disk in
    let opens = c.in_err-server.ensures in
    let failed = c.in_err-server.field-0.0 in
    rw (same_error c.from_residual.result failed c.from_residual.ensures.1) (λ honest.
    let was = opens.only_syncs.keeps.was_honest honest in
    let made = c.in_default.ensures.makes.ok was (state formatted).bytes
    (g.met.D.Disk.sound formatted was).bytes in
    inr (passing_since (state c.args.disk) (state formatted)
    (state failed.disk) failed.refusal c.in_default.ensures.makes.calm
    (passing (state formatted) (state failed.disk) (standing_from c.args.geometry.now
    c.args.directory (rest_of c.args.geometry.now (state formatted).bytes))
    failed.refusal honest (record { stands = made.stands; clean = made.clean }) opens.refused)))

pub returns-in_err-server-clause-over : goal.returns-in_err-server-clause-over
returns-in_err-server-clause-over g c =
    IfOk-from_err c.from_residual.result _ c.from_residual.ensures.0

pub returns-in_err-server-clause-still : goal.returns-in_err-server-clause-still
returns-in_err-server-clause-still g c =
    let failed = c.in_err-server.field-0.0 in
    rw (same_error c.from_residual.result failed c.from_residual.ensures.1) (λ honest magic.
    absurd (let f : true ≡ false = sym magic ∙ c.in_default.ensures.makes.not_over
    (c.in_err-server.ensures.only_syncs.keeps.was_honest honest) in cc))

pub returns-clause-refused : goal.returns-clause-refused
returns-clause-refused g c = tt

pub returns-clause-still : goal.returns-clause-still
returns-clause-still g c = tt

pub returns-clause-over : goal.returns-clause-over
returns-clause-over g c = λ honest. c.in_default.ensures.makes.not_over
    (c.in_ok-server.ensures.only_syncs.keeps.was_honest honest)

pub returns-clause-keeps : goal.returns-clause-keeps
returns-clause-keeps g c =
    let state = g.D.Disk.state in
    keeps_on (state c.args.disk) (state c.format_from.new.disk) (state c.in_ok-server.server.disk)
    c.format_from.ensures.makes.keeps c.in_ok-server.ensures.only_syncs.keeps

pub returns-clause-holds : goal.returns-clause-holds
returns-clause-holds g c = λ honest.
    let state = g.D.Disk.state in
    let opens = c.in_ok-server.ensures in
    let formatted = c.format_from.new.disk in
    let server = c.in_ok-server.server in
    let was = opens.only_syncs.keeps.was_honest honest in
    let made = c.in_default.ensures.makes.ok was (state formatted).bytes
    (g.met.D.Disk.sound formatted was).bytes in
    subst (λ b. Holds server.view (standing_from c.args.geometry.now c.args.directory
    (rest_of c.args.geometry.now b)) (state server.disk)) (sym
    (opens.only_syncs.still honest).bytes)
    (opened_holds (state formatted) (state server.disk) server.view
    (standing_from c.args.geometry.now c.args.directory
    (rest_of c.args.geometry.now (state formatted).bytes))
    (record { stands = made.stands; clean = made.clean }) (opens.opened honest) honest
    (g.met.D.Disk.sound server.disk honest) (opens.only_syncs.still honest) opens.going)

pub returns-clause-any_moment : goal.returns-clause-any_moment
returns-clause-any_moment g c = λ honest blank.
    let state = g.D.Disk.state in
    let opens = c.in_ok-server.ensures in
    let was = opens.only_syncs.keeps.was_honest honest in
    stays (state c.args.disk) (state c.format_from.new.disk) (state c.in_ok-server.server.disk)
    (NoneOrFrom c.args.geometry.now c.args.directory)
    (c.in_default.ensures.makes.any_moment was blank) (opens.only_syncs.still honest).time

pub returns-clause-layout : goal.returns-clause-layout
returns-clause-layout g c = λ honest.
    let state = g.D.Disk.state in
    let opens = c.in_ok-server.ensures in
    let formatted = c.format_from.new.disk in
    let was = opens.only_syncs.keeps.was_honest honest in
    let two = (c.in_default.ensures.makes.ok was (state formatted).bytes
    (g.met.D.Disk.sound formatted was).bytes).layout in
    let opened = opens.opened honest in
    layout_two (state formatted).bytes c.in_ok-server.server.view opened.records two opened.read

pub returns-clause-calm : goal.returns-clause-calm
returns-clause-calm g c = c.in_ok-server.ensures.calm ∙ c.in_default.ensures.makes.calm

pub returns-clause-begins : goal.returns-clause-begins
returns-clause-begins g c = λ honest.
    let bytes = (g.D.Disk.state c.in_ok-server.server.disk).bytes in
    let s = standing_from c.args.geometry.now c.args.directory
    (rest_of c.args.geometry.now bytes) in
    record {
      standing = s;
      after = after_none s;
      agrees = (returns-clause-holds g c honest).agrees;
      holds = λ going. (refl, returns-clause-holds g c honest);
      leaves = λ image may. none_of s [] [] s image (after_none s)
          ((returns-clause-holds g c honest).each image may);
      few = omega arith;
    }
