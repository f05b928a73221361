use Rattle.std.proofs.Common.{◌≡◌, None, ap, refl}
use Rattle.std.proofs.Common.{Err, IfErr, Ok, Result, Some}
use Rattle.std.proofs.Common.{inl, inr}
use Rattle.mot_folder.proofs.looking.end_kept.Goals as goal
use Rattle.mot_numbers.specs.declared.refusal.Refusal.{Refusal}
use Rattle.mot_numbers.specs.declared.refusal.Refusal.TheVariants.{OutOfMemory}
use Rattle.std.specs.Prelude.{◌⊎◌}
use Rattle.mot_playout.specs.Attempts.{fault_of}

-- a look that no fault ended ends well, or by want of memory
ended : (r : Result Unit Refusal) → IfErr r (λ e. e ≡ OutOfMemory)
    → (fault_of r ≡ None) ⊎ (fault_of r ≡ Some OutOfMemory)
ended (Ok x) is = inl refl
ended (Err e) is = inr (ap Some is)

pub returns-clause-fault : goal.returns-clause-fault
returns-clause-fault g c = ended c.end.result c.end.ensures.fault
