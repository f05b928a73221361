use Rattle.std.proofs.Common.{◌∙◌, length, refl, arith}
use Rattle.std.proofs.lemmas.Result.{IfOk-from_err, on_ok_weaker}
use Rattle.disk_model.proofs.Laws.{keeps_all_on}
use Rattle.mot_journal.proofs.Calls.{calm, fails, caused, one_more, costs_failed, costs_all}
use Rattle.mot_journal.proofs.Publishing.{Found, to_sync, to_write, to_end, written}
use Rattle.mot_journal.proofs.writing.publish.Given as given
use Rattle.mot_journal.proofs.writing.publish.Goals as goal
use Rattle.mot_journal.proofs.writing.publish.Goals.{After-write}

-- what the first sync and the write found
found : (g : given.Over) (c : After-write g) → (g.D.Disk.state c.args.disk.now).IsHonest
    → Found c.args.place (length c.args.bytes.now) (g.D.Disk.state c.args.disk.now)
    (g.D.Disk.state c.sync.new.self) (g.D.Disk.state c.write.new.self)
found g c honest =
    let honest1 = c.sync.ensures.keeps.honest honest in
    record {
      sound = g.met.D.Disk.sound c.args.disk.now honest;
      still = c.sync.ensures.still honest;
      synced_sound = g.met.D.Disk.sound c.sync.new.self honest1;
      firm = c.in_ok-sync.ensures.firm honest;
      writes = c.write.ensures.range honest1;
      still_honest = c.write.ensures.keeps.honest honest1;
    }

pub returns-in_err-write-clause-any_moment : goal.returns-in_err-write-clause-any_moment
returns-in_err-write-clause-any_moment g c = λ honest.
    let from = goal.at.returns-in_err-write-clause-any_moment g c in
    record { time = to_write (found g from.After-write honest) }

pub returns-clause-any_moment : goal.returns-clause-any_moment
returns-clause-any_moment g c = λ honest.
    let before = found g (goal.at.returns-clause-any_moment g c).After-write honest in
    record { time = to_end before (c.sync-2.ensures.still before.still_honest) }

pub returns-clause-ok : goal.returns-clause-ok
returns-clause-ok g c = λ honest.
    let before = found g (goal.at.returns-clause-ok g c).After-write honest in
    let last_honest = c.sync-2.ensures.keeps.honest before.still_honest in
    on_ok_weaker c.sync-2.result (λ firm.
    written before refl (c.in_ok-write.ensures.bytes (c.sync.ensures.keeps.honest honest))
    (c.sync-2.ensures.still before.still_honest)
    (g.met.D.Disk.sound c.sync-2.new.self last_honest) firm)
    (c.sync-2.ensures.firm before.still_honest)

pub returns-in_err-sync-clause-keeps : goal.returns-in_err-sync-clause-keeps
returns-in_err-sync-clause-keeps g c =
    c.sync.ensures.keeps

pub returns-in_err-sync-clause-cause : goal.returns-in_err-sync-clause-cause
returns-in_err-sync-clause-cause g c =
    fails c.from_residual.result c.from_residual.ensures.0
    refl
    c.in_err-sync.ensures.cause

pub returns-in_err-sync-clause-cost : goal.returns-in_err-sync-clause-cost
returns-in_err-sync-clause-cost g c =
    let state = g.D.Disk.state in
    costs_failed 3 1 (state c.args.disk.now) (state c.sync.new.self) c.from_residual.result
    c.from_residual.ensures.0 (omega arith)
    c.sync.ensures.called

pub returns-in_err-sync-clause-any_moment : goal.returns-in_err-sync-clause-any_moment
returns-in_err-sync-clause-any_moment g c = λ honest.
    record {
      time = to_sync c.args.place (length c.args.bytes.now)
          (g.met.D.Disk.sound c.args.disk.now honest) (c.sync.ensures.still honest);
    }

pub returns-in_err-sync-clause-ok : goal.returns-in_err-sync-clause-ok
returns-in_err-sync-clause-ok g c = λ honest.
    IfOk-from_err c.from_residual.result _ c.from_residual.ensures.0

pub returns-in_err-write-clause-keeps : goal.returns-in_err-write-clause-keeps
returns-in_err-write-clause-keeps g c =
    let state = g.D.Disk.state in
    keeps_all_on (state c.args.disk.now) (state c.sync.new.self) (state c.write.new.self)
    c.sync.ensures.keeps c.write.ensures.keeps

pub returns-in_err-write-clause-cause : goal.returns-in_err-write-clause-cause
returns-in_err-write-clause-cause g c =
    fails c.from_residual-in_err-write.result c.from_residual-in_err-write.ensures.0
    (calm c.in_ok-sync.ensures.cause)
    c.in_err-write.ensures.cause

pub returns-in_err-write-clause-cost : goal.returns-in_err-write-clause-cost
returns-in_err-write-clause-cost g c =
    let state = g.D.Disk.state in
    costs_failed 3 2 (state c.args.disk.now) (state c.write.new.self)
    c.from_residual-in_err-write.result
    c.from_residual-in_err-write.ensures.0 (omega arith)
    (one_more _ _ _ 1 c.sync.ensures.called c.write.ensures.called)

pub returns-in_err-write-clause-ok : goal.returns-in_err-write-clause-ok
returns-in_err-write-clause-ok g c = λ honest.
    IfOk-from_err c.from_residual-in_err-write.result _ c.from_residual-in_err-write.ensures.0

pub returns-clause-keeps : goal.returns-clause-keeps
returns-clause-keeps g c =
    let state = g.D.Disk.state in
    keeps_all_on (state c.args.disk.now) (state c.write.new.self) (state c.sync-2.new.self)
    (keeps_all_on (state c.args.disk.now) (state c.sync.new.self) (state c.write.new.self)
    c.sync.ensures.keeps c.write.ensures.keeps) c.sync-2.ensures.keeps

pub returns-clause-cause : goal.returns-clause-cause
returns-clause-cause g c =
    caused (calm c.in_ok-write.ensures.cause ∙ calm c.in_ok-sync.ensures.cause)
    c.sync-2.ensures.cause

pub returns-clause-cost : goal.returns-clause-cost
returns-clause-cost g c =
    let state = g.D.Disk.state in
    costs_all 3 (state c.args.disk.now) (state c.sync-2.new.self) c.sync-2.result
    (one_more _ _ _ 2 (one_more _ _ _ 1 c.sync.ensures.called c.write.ensures.called)
    c.sync-2.ensures.called)
