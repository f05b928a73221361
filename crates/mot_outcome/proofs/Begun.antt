-- What the result of a task says that came of another one.
use Rattle.std.proofs.Common.{◌≡◌, ℕ, Bool, false, List, Option, Some, None, Result, Ok, Err}
use Rattle.std.proofs.Common.{inl, inr, refl, subst, sym}
use Rattle.std.specs.Prelude.{MatchResult}
use Rattle.std.specs.Result.{result_unwrap_or}
use Rattle.disk_store.specs.declared.file.start.Start.{Ghosts}
use Rattle.mot_numbers.specs.declared.refusal.Refusal.{Refusal}
use Rattle.mot_outcome.specs.Outcome.{Concludes}
use Rattle.mot_outcome.specs.declared.used.UsedDisk.{UsedDisk}
use Rattle.mot_playout.specs.Attempts.{fault_of}

-- a fact of the ending, by cases, of what was to be done, all of which is if it came to its end so
pub ended_so : (P : Bool → Option Refusal → Type 0) (whole : Bool) (ended : Result Unit Refusal)
    → ((all : Bool) → (fault_of ended ≡ None → all ≡ whole) → P all (fault_of ended))
    → MatchResult ended (λ _. P whole None) (λ r. P false (Some r))
ended_so P whole (Ok done) p = p whole (λ none. refl)
ended_so P whole (Err r) p = p false (λ none. absurd (cc (none)))

-- what ended so is what the result of the task says
pub concludes : {S F : Type 0} {start : Ghosts S F} (IsEarly : Refusal → Type 0)
    (IsEnded : Bool → Option Refusal → Type 0) (used : UsedDisk S F start)
    (old new : Option (List ℕ)) (all : Bool) (ended : Result Unit Refusal)
    (result : Result Bool Refusal)
    → MatchResult ended (λ _. result ≡ Ok all) (λ r. result ≡ Err r)
    → MatchResult ended (λ _. IsEnded all None) (λ r. IsEnded false (Some r))
    → Concludes IsEarly IsEnded result used old new
concludes IsEarly IsEnded used old new all (Ok done) result is p =
    subst (λ (r : Result Bool Refusal). Concludes IsEarly IsEnded r used old new) (sym is) p
concludes IsEarly IsEnded used old new all (Err e) result is p =
    subst (λ (r : Result Bool Refusal). Concludes IsEarly IsEnded r used old new) (sym is) (inr p)

-- the same of a result that tells both
pub concludes_so : {S F : Type 0} {start : Ghosts S F} (IsEarly : Refusal → Type 0)
    (IsEnded : Bool → Option Refusal → Type 0) (used : UsedDisk S F start)
    (old new : Option (List ℕ)) (result : Result Bool Refusal)
    → IsEnded (result_unwrap_or result false) (fault_of result)
    → Concludes IsEarly IsEnded result used old new
concludes_so IsEarly IsEnded used old new (Ok all) p = p
concludes_so IsEarly IsEnded used old new (Err r) p = inr p

-- what the result of a part says is what that of the whole says
pub concludes_more : {S F : Type 0} {start : Ghosts S F} (IsEarly IsFirst : Refusal → Type 0)
    (IsEnded IsDone : Bool → Option Refusal → Type 0) (used : UsedDisk S F start)
    (old new : Option (List ℕ)) (result : Result Bool Refusal)
    → ((r : Refusal) → IsEarly r → IsFirst r)
    → ((all : Bool) (ending : Option Refusal) → IsEnded all ending → IsDone all ending)
    → Concludes IsEarly IsEnded result used old new → Concludes IsFirst IsDone result used old new
concludes_more IsEarly IsFirst IsEnded IsDone used old new (Ok all) early ended p = ended all None p
concludes_more IsEarly IsFirst IsEnded IsDone used old new (Err r) early ended (inl p) =
    inl (early r p.0, p.1)
concludes_more IsEarly IsFirst IsEnded IsDone used old new (Err r) early ended (inr p) =
    inr (ended false (Some r) p)
