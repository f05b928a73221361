-- Why a call that reads a body is refused.
use Rattle.std.proofs.Common.{◌≡◌, ◌∙◌, ℕ, Result, Ok, Err, true, false, sym, ap, subst}
use Rattle.std.specs.Prelude.{IsFalse, IsTrue, IfErr, OnErr, OnOk}
use Rattle.disk_model.specs.Disk.{Rises}
use Rattle.mot_numbers.specs.declared.refusal.Refusal.{Refusal}
use Rattle.mot_numbers.specs.declared.refusal.Refusal.TheVariants.{DeviceFault}
use Rattle.mot_repository.specs.Repository.{RepositoryView}
use Rattle.mot_playout.specs.Playing.{IsReadRefusal, IsTurnRefusal}
use Rattle.mot_playout.specs.Playing.IsReadRefusal.{halted, failed}
use Rattle.mot_playout.specs.Runs.{ServerView}

-- what is kept goes on where it stays as it was
no_halt : (v w : RepositoryView) → IsFalse v.halted → w ≡ v → IsTrue w.halted → ⊥
no_halt v w going same is =
    let clash : true ≡ false =
    sym is ∙ ap (λ (x : RepositoryView). x.halted) same ∙ going in cc

-- what holds whatever the result is
pub at_once : {A E : Type 0} (r : Result A E) (P : Type 0) → P → OnOk r P
at_once (Ok x) P p = p
at_once (Err e) P p = tt

-- a server that goes on tells a device fault alone, and the disk has failed there
pub read_refused : {A D : Type 0} (r : Result A Refusal) (old new : ServerView D) (before now : ℕ)
    → IsFalse old.view.halted → IfErr r (λ refusal. refusal ≡ DeviceFault)
    → OnErr r (Rises before now)
    → IfErr r (λ refusal. IsReadRefusal old new before now refusal)
read_refused (Ok x) old new before now going fault rises = tt
read_refused (Err e) old new before now going fault rises = IsReadRefusal.failed going fault rises

-- what refuses the next packet of a turn refuses the turn
pub turn_of_read : {D : Type 0} (start mid new : ServerView D) (begun before now : ℕ)
    (refusal : Refusal) → IsFalse start.view.halted → mid.view ≡ start.view → before ≡ begun
    → IsReadRefusal mid new before now refusal → IsTurnRefusal start new begun now refusal
turn_of_read start mid new begun before now refusal going same calm (halted is e stays) =
    absurd (no_halt start.view mid.view going same is)
turn_of_read start mid new begun before now refusal going same calm (failed goes e rises) =
    IsTurnRefusal.failed going e (subst (λ n. Rises n now) calm rises)

-- a server that goes on tells a device fault alone
pub fault_of_read : {D : Type 0} (start mid new : ServerView D) (before now : ℕ)
    (refusal : Refusal) → IsFalse start.view.halted → mid.view ≡ start.view
    → IsReadRefusal mid new before now refusal → refusal ≡ DeviceFault
fault_of_read start mid new before now refusal going same (halted is e stays) =
    absurd (no_halt start.view mid.view going same is)
fault_of_read start mid new before now refusal going same (failed goes e rises) = e
