-- What was printed of a text in parts.
use Rattle.mot_playout.specs.Attempts.{fault_of}
use Rattle.std.proofs.Common.{◌≡◌, ◌++◌, ◌∙◌, ℕ, List, Option, Some, None, Result, Ok, Err}
use Rattle.std.proofs.KnownBytes.{Appends-trans}
use Rattle.std.specs.Prelude.{IsErrAnd}
use Rattle.std.specs.Io.KnownBytes.{Appends}
use Rattle.mot_numbers.specs.declared.refusal.Refusal.{Refusal}
use Rattle.mot_outcome.specs.Outcome.{Prints}
use Rattle.mot_session.proofs.Laws.{WritesFront-after, WritesFront-before}

-- where the first part was not printed whole, nothing of the rest was
pub Prints-before : (refusal : Refusal) (first rest : List ℕ) (old new : Option (List ℕ))
    → Prints (Some refusal) first old new → Prints (Some refusal) (first ++ rest) old new
Prints-before refusal first rest old new p =
    (p.0, WritesFront-before first rest old new p.1)

-- where it was, the rest ends as all of it does
pub Prints-after : (ending : Option Refusal) (first rest : List ℕ) (old mid new : Option (List ℕ))
    → Appends old mid first → Prints ending rest mid new → Prints ending (first ++ rest) old new
Prints-after None first rest old mid new h p = Appends-trans _ _ _ _ _ h p
Prints-after (Some refusal) first rest old mid new h p =
    (p.0, WritesFront-after first rest old mid new h p.1)

-- a refusal that `?` passes on ends it
pub Prints-passed : {T : Type 0} (result : Result T Refusal) (refusal : Refusal) (text : List ℕ)
    (old new : Option (List ℕ)) → IsErrAnd result (λ passed. passed ≡ refusal)
    → Prints (Some refusal) text old new → Prints (fault_of result) text old new
Prints-passed (Ok value) refusal text old new is p = absurd is
Prints-passed (Err passed) refusal text old new is p = (is ∙ p.0, p.1)
