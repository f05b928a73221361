-- Faults of calls one after the other.
use Rattle.std.proofs.Common.{◌≡◌, ◌∙◌, ◌⊎◌, inl, inr, Result, Ok, Err, refl, sym, subst}
use Rattle.std.specs.Prelude.{IfErr, MatchResult, OnOk, IsTrue, IsFalse}
use Rattle.disk_model.specs.Disk.{State, Rises}
use Rattle.mot_numbers.specs.declared.refusal.Refusal.{Refusal}
use Rattle.mot_numbers.specs.declared.refusal.Refusal.TheVariants.{DeviceFault, Halted, OutOfMemory}
use Rattle.mot_playout.specs.RunEnds.{IsRunFault}
use Rattle.mot_playout.specs.RunEnds as run
use Rattle.mot_playout.specs.Runs.{ServerView}
use Rattle.mot_playout.specs.declared.running.Attempt.{Attempt}
use Rattle.mot_update.specs.Faults.{StaysCalm, IsUpdateFault, TellsFaults}
use Rattle.mot_update.specs.Faults as fault

module _ {D : Type 0} where
  -- where nothing was done, the disk did not fail
  pub calm_here : (server : ServerView D) (start : State) → StaysCalm server server start start
  calm_here server start = record { failures = refl; halted = refl }

  -- calls without a failure, one after the other, have none together
  pub calm_on : (old mid new : ServerView D) (start between now : State)
      → StaysCalm old mid start between → StaysCalm mid new between now
      → StaysCalm old new start now
  calm_on old mid new start between now one two = record {
    failures = two.failures ∙ one.failures;
    halted = two.halted ∙ one.halted;
  }

  -- a fault behind calls without one
  pub fault_on : (old mid : ServerView D) (start between now : State) (refusal : Refusal)
      → StaysCalm old mid start between → IsUpdateFault mid between now refusal
      → IsUpdateFault old start now refusal
  fault_on old mid start between now refusal calm (fault.halted is e same) =
      fault.halted (subst IsTrue calm.halted is) e (same ∙ calm.failures)
  fault_on old mid start between now refusal calm (fault.no_memory e same) =
      fault.no_memory e (same ∙ calm.failures)
  fault_on old mid start between now refusal calm (fault.device is e rises) =
      fault.device (subst IsFalse calm.halted is) e
      (subst (λ n. Rises n now.failures) calm.failures rises)

  -- a call behind calls without a failure tells the faults of all of them
  pub tells_on : {T : Type 0} (old mid new : ServerView D) (start between now : State)
      (result : Result T Refusal) → StaysCalm old mid start between
      → TellsFaults mid new between now result → TellsFaults old new start now result
  tells_on old mid new start between now (Ok answer) calm tells =
      calm_on old mid new start between now calm tells
  tells_on old mid new start between now (Err refusal) calm tells =
      fault_on old mid start between now refusal calm tells

  undone : (old new : ServerView D) (start now : State) (refusal : Refusal)
      → (refusal ≡ DeviceFault) ⊎ (now.failures ≡ start.failures)
      → IsRunFault old.view new.view start now refusal → IsUpdateFault old start now refusal
  undone old new start now refusal calm (run.device is e rises halted) = fault.device is e rises
  undone old new start now refusal (inr same) (run.halted is e) = fault.halted is e same
  undone old new start now refusal (inr same) (run.no_memory is e) = fault.no_memory e same
  undone old new start now refusal (inl is) (run.halted was e) =
      absurd (let wrong : DeviceFault ≡ Halted = sym is ∙ e in cc)
  undone old new start now refusal (inl is) (run.no_memory was e) =
      absurd (let wrong : DeviceFault ≡ OutOfMemory = sym is ∙ e in cc)

  -- what comes of one command
  pub attempted : (old new : ServerView D) (start now : State) (result : Result Attempt Refusal)
      → MatchResult result (λ answer. now.failures ≡ start.failures)
      (λ refusal. (refusal ≡ DeviceFault) ⊎ (now.failures ≡ start.failures))
      → OnOk result (new.view.halted ≡ old.view.halted)
      → IfErr result (λ refusal. IsRunFault old.view new.view start now refusal)
      → TellsFaults old new start now result
  attempted old new start now (Ok answer) calm goes_on faults =
      record { failures = calm; halted = goes_on }
  attempted old new start now (Err refusal) calm goes_on faults =
      undone old new start now refusal calm faults
