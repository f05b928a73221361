-- Why an update ends before its end, on every disk: an honest one or not.
use Rattle.std.specs.Prelude.{◌≡◌, Result, MatchResult, IsTrue, IsFalse}
use Rattle.disk_model.specs.Disk.{State, Rises}
use Rattle.mot_numbers.specs.declared.refusal.Refusal.{Refusal}
use Rattle.mot_numbers.specs.declared.refusal.Refusal.TheVariants.{OutOfMemory, DeviceFault, Halted}
use Rattle.mot_playout.specs.Runs.{ServerView}

-- the disk did not fail, and the server is halted where it was
pub record StaysCalm {D : Type 0} (old new : ServerView D) (start now : State) : Type 0 where
  pub failures : now.failures ≡ start.failures
  pub halted : new.view.halted ≡ old.view.halted

-- the server was halted, memory was wanted, or the disk failed
pub data IsUpdateFault {D : Type 0} (old : ServerView D) (start now : State)
    (refusal : Refusal) : Type 0 where
  halted : IsTrue old.view.halted → refusal ≡ Halted → now.failures ≡ start.failures
      → IsUpdateFault old start now refusal
  no_memory : refusal ≡ OutOfMemory → now.failures ≡ start.failures
      → IsUpdateFault old start now refusal
  device : IsFalse old.view.halted → refusal ≡ DeviceFault
      → Rises start.failures now.failures → IsUpdateFault old start now refusal

-- The disk has failed where a device fault is told, and nowhere else.
abbrev pub TellsFaults : {D T : Type 0} → (old new : ServerView D) → (start now : State)
    → Result T Refusal → Type 0
TellsFaults old new start now result =
    MatchResult result (λ answer. StaysCalm old new start now)
    (λ refusal. IsUpdateFault old start now refusal)
