use Rattle.std.proofs.Common.{◌≡◌, ◌∙◌, ◌⊎◌, inl, inr, refl, sym, ap, subst, [], ◌∷◌, true, false}
use Rattle.std.proofs.Common.{None, Result, Ok, Err}
use Rattle.std.proofs.Math.Nat.{le_refl}
use Rattle.disk_model.specs.Disk.{State}
use Rattle.mot_numbers.specs.declared.refusal.Refusal.{Refusal}
use Rattle.mot_numbers.specs.declared.refusal.Refusal.TheVariants.{DeviceFault}
use Rattle.mot_objects.specs.declared.command.Command.{Command}
use Rattle.mot_objects.specs.declared.command.Done.{Done}
use Rattle.mot_repository.specs.Answers.{IsAnswered, accepted, failed, refused}
use Rattle.mot_repository.specs.Repository.{RepositoryView}
use Rattle.mot_playout.specs.RunEnds.{is_run_ending}
use Rattle.mot_playout.specs.Runs.{ServerView, place_in}
use Rattle.mot_playout.proofs.Answered.{ends_here, goes_on_false, goes_on_true, going_at, run_fault}
use Rattle.mot_playout.proofs.Places.{any_last, stays_there, turns_there}
use Rattle.mot_playout.proofs.Runs.{after_none, begins, rests}
use Rattle.mot_playout.proofs.server.Server.attempt.Goals as goal

pub returns-then-ends_run-clause-fault : goal.returns-then-ends_run-clause-fault
returns-then-ends_run-clause-fault g c =
    let old = c.args.self.now in
    let state = g.D.Disk.state in
    run_fault old.view old.view c.execute.new.self.view (state old.disk) (state old.disk)
    (state c.execute.new.self.disk)
    c.args.command.now c.in-Err.refusal (le_refl (state old.disk).failures)
    c.in-Err.ensures.keeps.frame.later refl (sym c.ends_run.ensures ∙ c.if-ends_run.true)
    c.in-Err.ensures.answered

-- what is refused, and ends no run, changes nothing
stays : {D : Type 0} (old new : ServerView D) (refusal : Refusal) → is_run_ending refusal ≡ false
    → (refusal ≡ DeviceFault) ⊎ (new ≡ old) → new ≡ old
stays old new refusal goes (inl is) =
    absurd (let e : false ≡ true = sym goes ∙ ap is_run_ending is in cc)
stays old new refusal goes (inr same) = same

same_failures : {D : Type 0} (state : D → State) (old new : ServerView D) → new ≡ old
    → (state new.disk).failures ≡ (state old.disk).failures
same_failures {D} state old new same = ap (λ (v : ServerView D). (state v.disk).failures) same

same_halted : {D : Type 0} (old new : ServerView D) → new ≡ old → new.view.halted ≡ old.view.halted
same_halted {D} old new same = ap (λ (v : ServerView D). v.view.halted) same

pub returns-then-ends_run-clause-calm : goal.returns-then-ends_run-clause-calm
returns-then-ends_run-clause-calm g c = elim c.in-Err.ensures.untouched [
  | inl is ↦ inl is
  | inr same ↦ inr (same_failures g.D.Disk.state c.args.self.now c.execute.new.self same)
]

pub returns-else-ends_run-clause-calm : goal.returns-else-ends_run-clause-calm
returns-else-ends_run-clause-calm g c =
    same_failures g.D.Disk.state c.args.self.now c.execute.new.self
    (stays c.args.self.now c.execute.new.self c.in-Err.refusal
    (sym c.ends_run.ensures ∙ c.if-ends_run.false) c.in-Err.ensures.untouched)

pub returns-else-ends_run-clause-halted : goal.returns-else-ends_run-clause-halted
returns-else-ends_run-clause-halted g c =
    same_halted c.args.self.now c.execute.new.self
    (stays c.args.self.now c.execute.new.self c.in-Err.refusal
    (sym c.ends_run.ensures ∙ c.if-ends_run.false) c.in-Err.ensures.untouched)

abbrev IsFine : Result Done Refusal → Type 0
IsFine (Ok done) = Unit {0}
IsFine (Err refusal) = ⊥

-- an accepted command halts nothing
halted_as_it_was : (old new : RepositoryView) (start now : State) (command : Command) (done : Done)
    → IsAnswered old new start now command (Ok done) → new.halted ≡ old.halted
halted_as_it_was old new start now command done (accepted d is changed) = changed.halted
halted_as_it_was old new start now command done (refused r is why same still) =
    ap (λ (v : RepositoryView). v.halted) same
halted_as_it_was old new start now command done (failed is going rises halted) =
    absurd (subst IsFine is tt)

pub returns-in-Ok-clause-halted : goal.returns-in-Ok-clause-halted
returns-in-Ok-clause-halted g c =
    let state = g.D.Disk.state in
    let old = c.args.self.now in
    let new = c.execute.new.self in
    halted_as_it_was old.view new.view (state old.disk) (state new.disk) c.args.command.now
    c.in-Ok.done c.in-Ok.ensures.answered

pub returns-then-ends_run-clause-leaves : goal.returns-then-ends_run-clause-leaves
returns-then-ends_run-clause-leaves g c = λ s holds.
    let old = c.args.self.now in
    let new = c.execute.new.self in
    let state = g.D.Disk.state in
    let layout = old.view.journal.layout in
    let command = c.args.command.now in
    let so_far = begins old.view (state old.disk) s (command ∷ [])
    (g.met.D.Disk.sound old.disk holds.journal.honest) holds in
    ends_here layout old.view new.view (state old.disk) (state old.disk) (state new.disk) s
    (command ∷ []) [] command refl so_far
    c.in-Err.ensures.keeps (c.in-Err.ensures.any_moment so_far.last so_far.holds) old.view refl
    (g.met.D.Disk.sound new.disk) c.in-Err.refusal c.in-Err.ensures.answered

pub returns-then-ends_run-clause-place : goal.returns-then-ends_run-clause-place
returns-then-ends_run-clause-place g c = λ s last holds after.
    let old = c.args.self.now in
    stays_there old c.execute.new.self last (place_in old s) c.in-Err.ensures.stays
    (any_last old s [] s last (place_in old s) (after_none s) after refl)

pub returns-in-Ok-clause-leaves : goal.returns-in-Ok-clause-leaves
returns-in-Ok-clause-leaves g c = λ s holds.
    let old = c.args.self.now in
    let new = c.execute.new.self in
    let state = g.D.Disk.state in
    let layout = old.view.journal.layout in
    let command = c.args.command.now in
    let so_far = begins old.view (state old.disk) s (command ∷ [])
    (g.met.D.Disk.sound old.disk holds.journal.honest) holds in
    rests layout old.view new.view (state old.disk) (state new.disk) s (command ∷ []) (true ∷ [])
    None refl
    (goes_on_true layout old.view new.view (state old.disk) (state old.disk) (state new.disk) s
    (command ∷ []) [] command refl so_far
    c.in-Ok.ensures.keeps (c.in-Ok.ensures.any_moment so_far.last so_far.holds) c.in-Ok.done
    c.in-Ok.ensures.answered (c.in-Ok.ensures.ok so_far.last so_far.holds)
    (g.met.D.Disk.sound new.disk))

pub returns-in-Ok-clause-place : goal.returns-in-Ok-clause-place
returns-in-Ok-clause-place g c = λ s last holds after.
    let old = c.args.self.now in
    let new = c.execute.new.self in
    let command = c.args.command.now in
    let step = c.in-Ok.ensures.ok s holds in
    turns_there old new [] (command ∷ []) command c.in-Ok.done s s step.0 last (place_in old s) refl
    (after_none s) step.1 refl
    (c.in-Ok.ensures.place s step.0 holds step.2.agrees step.1) after

pub returns-else-ends_run-clause-leaves : goal.returns-else-ends_run-clause-leaves
returns-else-ends_run-clause-leaves g c = λ s holds.
    let old = c.args.self.now in
    let new = c.execute.new.self in
    let state = g.D.Disk.state in
    let layout = old.view.journal.layout in
    let command = c.args.command.now in
    let so_far = begins old.view (state old.disk) s (command ∷ [])
    (g.met.D.Disk.sound old.disk holds.journal.honest) holds in
    rests layout old.view new.view (state old.disk) (state new.disk) s (command ∷ []) (false ∷ [])
    None refl
    (goes_on_false layout old.view new.view (state old.disk) (state old.disk) (state new.disk) s
    (command ∷ []) [] command refl so_far
    c.in-Err.ensures.keeps (c.in-Err.ensures.any_moment so_far.last so_far.holds) c.in-Err.refusal
    (sym c.ends_run.ensures ∙ c.if-ends_run.false) c.in-Err.ensures.answered)

pub returns-else-ends_run-clause-place : goal.returns-else-ends_run-clause-place
returns-else-ends_run-clause-place g c = λ s last holds after.
    let old = c.args.self.now in
    stays_there old c.execute.new.self last (place_in old s) c.in-Err.ensures.stays
    (any_last old s [] s last (place_in old s) (after_none s) after refl)

pub returns-else-ends_run-clause-goes_on : goal.returns-else-ends_run-clause-goes_on
returns-else-ends_run-clause-goes_on g c = sym c.ends_run.ensures ∙ c.if-ends_run.false

pub returns-else-ends_run-clause-going : goal.returns-else-ends_run-clause-going
returns-else-ends_run-clause-going g c =
    let old = c.args.self.now in
    let new = c.execute.new.self in
    let state = g.D.Disk.state in
    going_at old.view new.view (state old.disk) (state new.disk) c.args.command.now
    c.in-Err.refusal (sym c.ends_run.ensures ∙ c.if-ends_run.false) c.in-Err.ensures.answered
