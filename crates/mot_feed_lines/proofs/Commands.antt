-- What one command comes to.
use Rattle.std.proofs.Common.{◌≡◌, ◌⊎◌, inl, inr, Bool, List, [], ◌∷◌, Option, Some, None, Result}
use Rattle.std.proofs.Common.{Ok, Err, refl, sym, subst}
use Rattle.disk_model.specs.Disk.{State}
use Rattle.mot_feed_lines.specs.Inner.{end_of, ran_of}
use Rattle.mot_journal.specs.Image.{Standing}
use Rattle.mot_numbers.specs.declared.refusal.Refusal.{Refusal}
use Rattle.mot_numbers.specs.declared.refusal.Refusal.TheVariants.{DeviceFault, Halted, OutOfMemory}
use Rattle.mot_objects.specs.declared.command.Command.{Command}
use Rattle.mot_playout.specs.Attempts as attempts
use Rattle.mot_playout.specs.Runs.{ServerView}
use Rattle.mot_playout.specs.declared.running.Attempt.{Attempt}
use Rattle.mot_update.specs.Faults.{IsUpdateFault, TellsFaults}
use Rattle.mot_update.specs.Faults as fault
use Rattle.mot_update.specs.HasRun.{HasRun}

module _ {D : Type 0} (old new : ServerView D) (start now : State) (c : Command) where
  abbrev Asked : Result Attempt Refusal → Type 0
  Asked r = (ran_of c r ≡ []) ⊎ (ran_of c r ≡ c ∷ [])

  asked_fault : (refusal : Refusal) → IsUpdateFault old start now refusal → Asked (Err refusal)
  asked_fault refusal (fault.halted is e same) =
      subst (λ (r : Refusal). Asked (Err r)) (sym e) (inr refl)
  asked_fault refusal (fault.no_memory e same) =
      subst (λ (r : Refusal). Asked (Err r)) (sym e) (inl refl)
  asked_fault refusal (fault.device is e rises) =
      subst (λ (r : Refusal). Asked (Err r)) (sym e) (inr refl)

  -- the command was run, or none
  pub asked_of : (r : Result Attempt Refusal) → TellsFaults old new start now r → Asked r
  asked_of (Ok answer) tells = inr refl
  asked_of (Err refusal) tells = asked_fault refusal tells

  module _ (s : Standing) where
    abbrev Ran : List Command → Option Refusal → Type 0
    Ran commands fault = (marks : List Bool) × HasRun old new start now s commands marks fault

    none_wanted : HasRun old new start now s (c ∷ []) [] (Some OutOfMemory)
        → HasRun old new start now s [] [] None
    none_wanted run = record {
      leaves = record {
        last = run.leaves.last;
        after = run.leaves.after;
        marked = run.leaves.marked;
        rules = run.leaves.rules;
        agrees = run.leaves.agrees;
        going = λ e. run.leaves.going refl;
        any_moment = run.leaves.any_moment;
        at_end = run.leaves.at_end;
      };
      whole = λ e. refl;
      layout = run.layout;
      place = run.place;
    }

    abbrev RanSo : Refusal → Type 0
    RanSo refusal = HasRun old new start now s (c ∷ []) [] (Some refusal)
        → Ran (ran_of c (Err refusal)) (end_of (Err refusal))

    halted_so : RanSo Halted
    halted_so run = ([], run)

    device_so : RanSo DeviceFault
    device_so run = ([], run)

    memory_so : RanSo OutOfMemory
    memory_so run = ([], none_wanted run)

    fault_so : (refusal : Refusal) → IsUpdateFault old start now refusal → RanSo refusal
    fault_so refusal (fault.halted is e same) = subst RanSo (sym e) halted_so
    fault_so refusal (fault.no_memory e same) = subst RanSo (sym e) memory_so
    fault_so refusal (fault.device is e rises) = subst RanSo (sym e) device_so

    -- and so the server went on
    pub ran : (r : Result Attempt Refusal) → TellsFaults old new start now r
        → HasRun old new start now s (c ∷ []) (attempts.marks_of r) (attempts.fault_of r)
        → Ran (ran_of c r) (end_of r)
    ran (Ok answer) tells run = (attempts.marks_of (Ok answer), run)
    ran (Err refusal) tells run = fault_so refusal tells run
