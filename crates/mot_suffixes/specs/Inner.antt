-- What helps to tell of suffixes.
use Rattle.std.specs.Prelude.{◌≡◌, ◌⊎◌, ℕ, List, [], ◌∷◌, ◌++◌, Some, None, Result, Err}
use Rattle.mot_numbers.specs.declared.refusal.Refusal.{Refusal}
use Rattle.mot_numbers.specs.declared.refusal.Refusal.TheVariants.{OutOfMemory}
use Rattle.mot_suffixes.specs.Types.{SuffixType, refusal_of_lines, that_say, types_of_lines}

-- the refusal of this answer, or a growth of memory was refused
abbrev pub MayRefuse : {T : Type 0} → Result T Refusal → Refusal → Type 0
MayRefuse answer refusal = (answer ≡ Err refusal) ⊎ (refusal ≡ OutOfMemory)

-- what a line says was added, if it says something
pub record AddsLine (old now : List SuffixType) (line : List ℕ) : Type 0 where
  pub right : refusal_of_lines (that_say (line ∷ [])) ≡ None
  pub added : now ≡ old ++ types_of_lines (that_say (line ∷ []))

-- nothing was added, since the line is refused, or there was no memory
pub record RefusesLine (old now : List SuffixType) (line : List ℕ) (refusal : Refusal)
    : Type 0 where
  pub why : (refusal_of_lines (that_say (line ∷ [])) ≡ Some refusal) ⊎ (refusal ≡ OutOfMemory)
  pub same : now ≡ old
