-- What an answer to one command makes of a run.
use Rattle.std.proofs.Common.{◌≡◌, ◌≤◌, Bool, true, false, List, [], ◌∷◌, ◌++◌, length, Some}
use Rattle.std.proofs.Common.{Result, Ok, Err, refl, sym, ◌∙◌, ap, subst}
use Rattle.std.specs.Prelude.{slice_get, IsTrue, IsFalse}
use Rattle.disk_model.specs.Disk.{State, Throughout, Keeps, IsHonestDisk}
use Rattle.mot_journal.specs.declared.layout.Layout.{Layout}
use Rattle.mot_journal.specs.Image.{Standing}
use Rattle.mot_numbers.specs.declared.refusal.Refusal.{Refusal}
use Rattle.mot_numbers.specs.declared.refusal.Refusal.TheVariants.{DeviceFault}
use Rattle.mot_objects.specs.declared.command.Command.{Command}
use Rattle.mot_objects.specs.declared.command.Done.{Done}
use Rattle.mot_journal.specs.declared.layout.Layout.TheVariants.{Two}
use Rattle.mot_repository.specs.Outcome.{after_command, has_long_name}
use Rattle.mot_repository.specs.Repository.{RepositoryView, Holds, IsBeforeOrAfter}
use Rattle.mot_repository.specs.Answers.{IsRefusal, IsAnswered, halted, by_rules, no_memory}
use Rattle.mot_repository.specs.Answers.{accepted, refused, failed}
use Rattle.mot_repository.proofs.Laws.{refused_so, some_standing}
use Rattle.mot_playout.specs.RunEnds.{IsRunFault, RunLeaves, is_run_ending}
use Rattle.mot_playout.specs.RunEnds as run_ends
use Rattle.mot_playout.proofs.Read.{rises_on, holds_still}
use Rattle.mot_playout.proofs.Runs.{Reached, accepts, refuses, fails, rests, idles}

abbrev IsFailure : Result Done Refusal → Type 0
IsFailure (Ok done) = ⊥
IsFailure (Err refusal) = Unit {0}

-- a refusal is not Ok
pub not_ok : (done : Done) (refusal : Refusal) → Err refusal ≡ Ok done → ⊥
not_ok done refusal e = subst IsFailure e tt

abbrev failure : Refusal → Result Done Refusal
failure refusal = Err refusal

-- a refusal that is a device fault as a result is one
pub error_is : (refusal : Refusal) → failure refusal ≡ failure DeviceFault → refusal ≡ DeviceFault
error_is refusal e = cc

abbrev Yes : Bool → Type 0
Yes true = Unit {0}
Yes false = ⊥

-- why a mark is false
refused_at : (view : RepositoryView) (s : Standing) (state : State) (command : Command)
    (refusal : Refusal)
    → Holds view s state → IsRefusal view command refusal → is_run_ending refusal ≡ false
    → after_command view.journal.layout s command ≡ Err refusal
refused_at view s state command refusal holds (halted is e) goes_on =
    absurd (subst Yes (sym (ap is_run_ending e) ∙ goes_on) tt)
refused_at view s state command refusal holds (by_rules going fits rules) goes_on =
    rules s holds.agrees
refused_at view s state command refusal holds (no_memory going short e) goes_on =
    absurd (subst Yes (sym (ap is_run_ending e) ∙ goes_on) tt)

-- and then its name is not too long for layout 2
name_fits : (view : RepositoryView) (command : Command) (refusal : Refusal)
    → IsRefusal view command refusal → is_run_ending refusal ≡ false
    → has_long_name Two command ≡ false
name_fits view command refusal (halted is e) goes_on =
    absurd (subst Yes (sym (ap is_run_ending e) ∙ goes_on) tt)
name_fits view command refusal (by_rules going fits rules) goes_on = fits
name_fits view command refusal (no_memory going short e) goes_on =
    absurd (subst Yes (sym (ap is_run_ending e) ∙ goes_on) tt)

-- a server whose answer ends no run is not halted
pub going_at : (view view' : RepositoryView) (start now : State) (command : Command)
    (refusal : Refusal) → is_run_ending refusal ≡ false
    → IsAnswered view view' start now command (Err refusal) → IsFalse view.halted
going_at view view' start now command refusal goes (accepted done e changed) =
    absurd (not_ok done refusal e)
going_at view view' start now command refusal goes (failed e going rises halts) = going
going_at view view' start now command refusal goes (refused r e (halted is was) same still) =
    let same_refusal : refusal ≡ r = cc in
    absurd (subst Yes (sym (ap is_run_ending (same_refusal ∙ was)) ∙ goes) tt)
going_at view view' start now command refusal goes (refused r e
    (by_rules going fits rules) same still) =
    going
going_at view view' start now command refusal goes
    (refused r e (no_memory going short was) same still) =
    going

-- what ended a run
pub run_fault : (first view view' : RepositoryView) (start mid now : State) (command : Command)
    (refusal : Refusal)
    → start.failures ≤ mid.failures → mid.failures ≤ now.failures → view.halted ≡ first.halted
    → is_run_ending refusal ≡ true → IsAnswered view view' mid now command (Err refusal)
    → IsRunFault first view' start now refusal
run_fault first view view' start mid now command refusal le later same ends
    (accepted done e changed) = absurd (not_ok done refusal e)
run_fault first view view' start mid now command refusal le later same ends
    (failed e going rises halts) =
    let is : refusal ≡ DeviceFault = cc in
    run_ends.device (subst IsFalse same going) is
    (rises_on start.failures mid.failures now.failures le later rises) halts.halted
run_fault first view view' start mid now command refusal le later same ends
    (refused r e (halted is is_halted) same_view still) =
    let same_refusal : refusal ≡ r = cc in
    run_ends.halted (subst IsTrue same is) (same_refusal ∙ is_halted)
run_fault first view view' start mid now command refusal le later same ends
    (refused r e (by_rules going fits rules) same_view still) =
    let same_refusal : refusal ≡ r = cc in
    let some = some_standing view in
    let no : is_run_ending r ≡ false =
    refused_so view.journal.layout some.0 command (λ x. is_run_ending x ≡ false) refl refl refl refl
    refl r (rules some.0 some.1) in
    absurd (subst Yes (sym ends ∙ ap is_run_ending same_refusal ∙ no) tt)
run_fault first view view' start mid now command refusal le later same ends
    (refused r e (no_memory going short is) same_view still) =
    let same_refusal : refusal ≡ r = cc in
    run_ends.no_memory (subst IsFalse same going) (same_refusal ∙ is)

-- a command that is answered without a device fault leaves it as halted as it was
pub as_halted : (view view' : RepositoryView) (mid now : State) (command : Command)
    (r : Result Done Refusal)
    → (r ≡ Err DeviceFault → ⊥) → IsAnswered view view' mid now command r
    → view'.halted ≡ view.halted
as_halted view view' mid now command r fine (accepted done e changed) = changed.halted
as_halted view view' mid now command r fine (refused refusal e why same still) =
    ap (λ (v : RepositoryView). v.halted) same
as_halted view view' mid now command r fine (failed e going rises halts) = absurd (fine e)

-- Ok is no device fault
pub no_fault_in : (done : Done) → Ok done ≡ Err DeviceFault → ⊥
no_fault_in done e = not_ok done DeviceFault (sym e)

-- a refusal that does not end a run is no device fault
pub no_fault_of : (refusal : Refusal) → is_run_ending refusal ≡ false
    → failure refusal ≡ failure DeviceFault → ⊥
no_fault_of refusal goes e =
    let is : refusal ≡ DeviceFault = error_is refusal e in
    subst Yes (sym (ap is_run_ending is) ∙ goes) tt

abbrev Clash : Bool → Type 0
Clash true = ⊥
Clash false = Unit {0}

-- halted and not halted
pub not_halted : (b : Bool) → IsTrue b → IsFalse b → ⊥
not_halted b is isnt = subst Clash (sym isnt ∙ is) tt

module _ (layout : Layout) (view view' : RepositoryView) (start mid now : State) (s : Standing)
    (commands : List Command)
    (marks : List Bool) (command : Command) (at : slice_get commands (length marks) ≡ Some command)
    (so_far : Reached layout view start mid s commands marks) (keeps : Keeps mid now)
    (time : Throughout mid now (IsBeforeOrAfter view.journal.layout so_far.last command)) where
  -- a true mark more
  pub goes_on_true : (done : Done) → IsAnswered view view' mid now command (Ok done)
      → ((next : Standing) × (after_command view.journal.layout so_far.last command
      ≡ Ok (next, done)) × Holds view' next now) → (now.IsHonest → IsHonestDisk now)
      → Reached layout view' start now s commands (marks ++ true ∷ [])
  goes_on_true done (accepted d e changed) step sound =
      accepts layout view start mid now s commands marks command at so_far view' done step.0
      changed.layout
      (subst (λ l. after_command l so_far.last command ≡ Ok (step.0, done)) so_far.layout_is step.1)
      (sound step.2.journal.honest) step.2 time
  goes_on_true done (refused refusal e why same still) step sound =
      absurd (not_ok done refusal (sym e))
  goes_on_true done (failed e going rises halts) step sound =
      absurd (not_ok done DeviceFault (sym e))

  -- a false mark more
  pub goes_on_false : (refusal : Refusal) → is_run_ending refusal ≡ false
      → IsAnswered view view' mid now command (Err refusal)
      → Reached layout view' start now s commands (marks ++ false ∷ [])
  goes_on_false refusal goes_on (accepted done e changed) = absurd (not_ok done refusal e)
  goes_on_false refusal goes_on (refused r e why same still) =
      let is : refusal ≡ r = cc in
      let why' = refused_at view so_far.last mid command r so_far.holds why
      (subst (λ x. is_run_ending x ≡ false) is goes_on) in
      subst (λ v. Reached layout v start now s commands (marks ++ false ∷ [])) (sym same)
      (refuses layout view start mid now s commands marks command at so_far r
      (subst (λ l. after_command l so_far.last command ≡ Err r) so_far.layout_is why')
      (name_fits view command r why (subst (λ x. is_run_ending x ≡ false) is goes_on))
      (holds_still view view so_far.last mid now so_far.holds
      (keeps.honest so_far.holds.journal.honest) still refl) still)
  goes_on_false refusal goes_on (failed e going rises halts) =
      let is : refusal ≡ DeviceFault = cc in
      absurd (subst Yes (sym (ap is_run_ending is) ∙ goes_on) tt)

  -- the end of the run
  pub ends_here : (first : RepositoryView) → first.journal.layout ≡ layout
      → (now.IsHonest → IsHonestDisk now) → (refusal : Refusal)
      → IsAnswered view view' mid now command (Err refusal)
      → RunLeaves first view' start now s commands marks (Some refusal)
  ends_here first same_layout sound refusal (accepted done e changed) =
      absurd (not_ok done refusal e)
  ends_here first same_layout sound refusal (refused r e why same still) =
      subst (λ v. RunLeaves first v start now s commands marks (Some refusal)) (sym same)
      (rests layout first view start now s commands marks (Some refusal) same_layout
      (idles layout view start mid now s commands marks so_far keeps still))
  ends_here first same_layout sound refusal (failed e going rises halts) =
      let is : refusal ≡ DeviceFault = cc in
      subst (λ r. RunLeaves first view' start now s commands marks (Some r)) (sym is)
      (fails layout view start mid now s commands marks command at so_far view' first same_layout
      (sound (keeps.honest so_far.holds.journal.honest)) halts time)
