-- What is known of a disk that was just opened.
use Rattle.std.proofs.Common.{◌≡◌, ℕ, List, Ok, refl, subst, sym}
use Rattle.std.specs.Prelude.{IsFalse, IsOk}
use Rattle.disk_model.specs.Disk.{IsHonestDisk, IsStill, OnlySyncs, State, Throughout}
use Rattle.disk_model.proofs.Laws.{begins, stays}
use Rattle.mot_journal.specs.Image.{Standing, stands_for}
use Rattle.mot_numbers.specs.Refusal.{IsCalm}
use Rattle.mot_numbers.specs.declared.refusal.Refusal.{Refusal}
use Rattle.mot_update.specs.Opening.{IsOpenable, IsUnopened}
use Rattle.mot_repository.specs.Opening.{IsOpened, IsOpeningRefusal}
use Rattle.mot_repository.specs.Repository.{RepositoryView, HasStanding, IsOf, Holds}
use Rattle.mot_playout.proofs.Laws.{opened_holds, opened_standing}

-- each image that a crash may leave stands for this
abbrev pub AllAre : Standing → State → Type 0
AllAre s state = (image : List ℕ) → state.MayLeave image → IsOf s image

-- so what it stands for is held once it is opened
pub all_hold : (start old : State) (view : RepositoryView) (s : Standing)
    → IsHonestDisk start → AllAre s start → IsOpened start old view → old.IsHonest
    → IsHonestDisk old → IsStill start old → IsFalse view.halted → Holds view s old
all_hold start old view s before all opened honest sound still going =
    opened_holds start old view s (all start.bytes before.bytes) opened honest sound still going

-- a disk that a server was opened of, only syncing it, and that is honest later
module _ (start old now : State) (view : RepositoryView)
    (sound : start.IsHonest → IsHonestDisk start) (sound_then : old.IsHonest → IsHonestDisk old)
    (opens : OnlySyncs start old) (opened : old.IsHonest → IsOpened start old view)
    (going : IsFalse view.halted) (was : now.IsHonest → old.IsHonest) where
  -- its bytes stand for something
  pub openable : IsOpenable start now
  openable honest = subst IsOk (sym (opened (was honest)).stands) refl

  -- what it stood for, clean, is held
  pub held : (s : Standing) → now.IsHonest → AllAre s start → Holds view s old
  held s honest all =
      let then = was honest in
      all_hold start old view s (sound (opens.keeps.was_honest then)) all (opened then) then
      (sound_then then) (opens.still then) going

  -- what its bytes stood for, clean or not, is read of it
  pub read_so : (s : Standing) → now.IsHonest → stands_for start.bytes ≡ Ok s
      → HasStanding view s old
  read_so s honest stands =
      opened_standing start old view s stands (opened (was honest)) (opens.still (was honest))

-- no image came while it was opened
pub opened_throughout : (start old : State) (P : List ℕ → Type 0) → IsHonestDisk start
    → ((c : List ℕ) → start.MayLeave c → P c) → IsStill start old → Throughout start old P
opened_throughout start old P sound here still =
    stays start start old P (begins start P sound here) still.time

-- a disk that an opening refused, and that was only synced, is unopened
pub unopened_is : (refusal : Refusal) (start now : State) → IsOpeningRefusal start now refusal
    → IsCalm refusal start.failures now.failures
    → (now.IsHonest → IsStill start now) → IsUnopened refusal start now
unopened_is refusal start now why calm still = record {
  why = why;
  calm = calm;
  still = still;
}
