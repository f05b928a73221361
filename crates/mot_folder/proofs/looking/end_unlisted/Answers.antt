use Rattle.std.proofs.Common.{◌≡◌, ◌∙◌, None, ap, refl, subst, sym}
use Rattle.std.proofs.Common.{Bool, true, false, Err, IfErr, Ok, Result, Some}
use Rattle.std.proofs.Common.{inl, inr}
use Rattle.mot_folder.proofs.looking.end_unlisted.Goals as goal
use Rattle.mot_folder.specs.Log.{TellsOne, unlisted_for}
use Rattle.mot_numbers.specs.declared.refusal.Refusal.{Refusal}
use Rattle.mot_numbers.specs.declared.refusal.Refusal.TheVariants.{OutOfMemory}
use Rattle.std.specs.Prelude.{◌≢◌, ◌⊎◌, IsOk}
use Rattle.mot_playout.specs.Attempts.{fault_of}

-- a look at a folder that was not listed ends well, for another reason or by want of memory
ended_unlisted : (r : Result Unit Refusal) (refusal : Refusal) (left_out without : Bool)
    → IfErr r (λ e. e ≡ OutOfMemory) → (IsOk r → (left_out ≡ false) × (without ≡ false))
    → (refusal ≡ OutOfMemory → without ≡ true)
    → ((fault_of r ≡ None) × (refusal ≢ OutOfMemory)) ⊎ (fault_of r ≡ Some OutOfMemory)
ended_unlisted (Ok x) refusal left_out without is fine memory =
    inl (refl, λ e. absurd (let no : true ≡ false = sym (memory e) ∙ (fine refl).1 in cc))
ended_unlisted (Err e) refusal left_out without is fine memory = inr (ap Some is)

pub returns-clause-fault : goal.returns-clause-fault
returns-clause-fault g c =
    ended_unlisted c.end.result c.args.why.refusal c.refused.new.self.any_left_out
    c.refused.new.self.any_without_memory c.end.ensures.fault c.end.ensures.ends.0
    c.refused.ensures.memory

pub returns-clause-told : goal.returns-clause-told
returns-clause-told g c = (
  c.why_unlisted-reason.result,
  subst (λ p. TellsOne c.args.folder.now.report c.refused.new.self
      (unlisted_for p c.args.why.refusal c.why_unlisted-reason.result))
      (c.as_bytes-path.ensures.value ∙ c.shown.ensures)
      (λ entries was. c.refused.ensures.told entries (c.why_unlisted-reason.ensures.told entries was)),
)
