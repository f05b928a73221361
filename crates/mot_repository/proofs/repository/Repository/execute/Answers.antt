use Rattle.std.proofs.Common.{refl, inl}
use Rattle.disk_model.proofs.Laws.{begins}
use Rattle.mot_numbers.proofs.Laws.{same_error}
use Rattle.mot_repository.specs.Answers.{refused}
use Rattle.mot_repository.specs.Repository.{IsBeforeOrAfter}
use Rattle.mot_repository.proofs.Answering.{committed}
use Rattle.disk_model.proofs.Laws.{unchanged_none}
use Rattle.mot_repository.proofs.repository.Repository.execute.Goals as goal

pub returns-in_err-prepared-clause-answered : goal.returns-in_err-prepared-clause-answered
returns-in_err-prepared-clause-answered g c =
    let answer = same_error c.from_residual.result c.in_err-prepared.field-0.0
    c.from_residual.ensures.1 in
    refused c.in_err-prepared.field-0.0 answer c.in_err-prepared.ensures.refused refl
    (unchanged_none (g.D.Disk.state c.args.self.now.disk))

pub returns-clause-answered : goal.returns-clause-answered
returns-clause-answered g c =
    let state = g.D.Disk.state in
    let old = c.args.self.now in
    let new = c.commit.new.self in
    let e = c.commit.ensures in
    committed old.view new.view (state old.disk) (state new.disk) c.args.command.now c.commit.result
    c.in_ok-prepared.ensures.going e.cause e.fault e.halted
    (e.changed c.args.command.now c.in_ok-prepared.ensures.prepared)

pub returns-clause-any_moment : goal.returns-clause-any_moment
returns-clause-any_moment g c = λ s holds.
    c.commit.ensures.any_moment c.args.command.now c.in_ok-prepared.ensures.prepared s holds

pub returns-clause-now : goal.returns-clause-now
returns-clause-now g c = λ s holds.
    c.commit.ensures.now c.args.command.now c.in_ok-prepared.ensures.prepared s holds

pub returns-in_err-prepared-clause-any_moment : goal.returns-in_err-prepared-clause-any_moment
returns-in_err-prepared-clause-any_moment g c = λ s holds.
    let old = c.args.self.now in
    begins (g.D.Disk.state old.disk)
    (IsBeforeOrAfter old.view.journal.layout s c.args.command.now)
    (g.met.D.Disk.sound old.disk holds.journal.honest) (λ image left. inl (holds.each image left))
