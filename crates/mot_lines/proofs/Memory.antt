-- Which lines take memory.
use Rattle.std.proofs.Common.{ℕ, List, [], ◌∷◌, Result, Ok, Err, inl, inr}
use Rattle.hex.specs.Hex.{decode_of}
use Rattle.mot_lines.specs.Fields.{kind_in, number_to, segment_in, number_of_word}
use Rattle.mot_lines.specs.Line.{raw_of, NeedsMemory, IsParsed}
use Rattle.mot_numbers.specs.Refusal.{◌>>=◌}
use Rattle.mot_lines.specs.Inner.{OrOutOfMemory}
use Rattle.mot_lines.specs.declared.line.Line.{Line}
use Rattle.mot_numbers.specs.declared.refusal.Refusal.{Refusal}

-- words of which the last take memory
needs-after : {A : Type 0} (x : Result A Refusal) (f : A → Result Line Refusal)
    → ((a : A) → NeedsMemory (f a)) → NeedsMemory (x >>= f)
needs-after (Ok a) f h = h a
needs-after (Err r) f h = tt

-- whatever a raw line asks for may want memory
pub raw-needs : (words : List (List ℕ)) → NeedsMemory (raw_of words)
unfolding raw_of
raw-needs [] = tt
raw-needs (a ∷ []) = tt
raw-needs (a ∷ b ∷ []) = tt
raw-needs (a ∷ b ∷ c ∷ []) = needs-after (kind_in (number_of_word a)) _ (λ k.
    needs-after (number_to 65535 (number_of_word b)) _
    (λ t. needs-after (segment_in (decode_of c)) _ (λ body. tt)))
raw-needs (a ∷ b ∷ c ∷ d ∷ words) = tt

-- so a growth that is refused may stand in the place of what they ask for
pub parsed : (result request : Result Line Refusal) → NeedsMemory request
    → OrOutOfMemory result request
    → IsParsed result request
parsed result request needs (inl e) = inl e
parsed result request needs (inr e) = inr (e, needs)
