-- The words of a raw line.
use Rattle.std.proofs.Common.{◌≡◌, ◌≢◌, ℕ, ◌<◌, Bool, true, false, cond, List, [], ◌∷◌, length, Err}
use Rattle.std.proofs.Common.{Option, None, Some, refl, sym, ap, ◌∙◌, subst, arith}
use Rattle.std.specs.Prelude.{nat_eq, is_some}
use Rattle.std.specs.Borrow.{Bor}
use Rattle.std.specs.List.{onto_first}
use Rattle.mot_lines.specs.Fields.{words_after, words_of}
use Rattle.mot_lines.specs.Line.{raw_of, alone_of, description_of}
use Rattle.mot_lines.specs.declared.line.Line.{Line}
use Rattle.mot_numbers.specs.declared.refusal.Refusal.TheVariants.{BadLine}

-- there is a word in every list of bytes
some_cond : (b : Bool) (x : ℕ) (ps : List (List ℕ))
    → 0 < length (cond b ([] ∷ ps) (onto_first x ps))
some_cond true x ps = omega arith
some_cond false x [] = omega arith
some_cond false x (p ∷ ps) = omega arith

some_word : (xs : List ℕ) → 0 < length (words_of xs)
some_word [] = omega arith
some_word (x ∷ xs) = some_cond (nat_eq x 32) x (words_of xs)

-- the next word
pub next_word : (o r : Option (Bor (List ℕ))) (x : Bor (List ℕ)) (a : List ℕ) → o ≡ Some x
    → words_of x.now ≡ a ∷ words_after r → words_after o ≡ a ∷ words_after r
next_word o r x a e h = ap words_after e ∙ h

-- no word is left
pub no_words : (o : Option (Bor (List ℕ))) → o ≡ None → length (words_after o) ≡ 0
no_words o e = ap (λ r. length (words_after r)) e

-- a word is left
pub more_words : (o : Option (Bor (List ℕ))) (x : Bor (List ℕ)) → o ≡ Some x
    → 0 < length (words_after o)
more_words o x e = subst (λ r. 0 < length (words_after r)) (sym e) (some_word x.now)

-- a raw line has three words after its first
pub raw_of-others : (words : List (List ℕ)) → length words ≢ 3 → raw_of words ≡ Err BadLine
unfolding raw_of
raw_of-others [] h = refl
raw_of-others (a ∷ []) h = refl
raw_of-others (a ∷ b ∷ []) h = refl
raw_of-others (a ∷ b ∷ c ∷ []) h = absurd (h refl)
raw_of-others (a ∷ b ∷ c ∷ d ∷ words) h = refl

-- where something follows a word, it has at least one word
pub some_words : (o : Option (Bor (List ℕ))) → is_some o ≡ true → 0 < length (words_after o)
some_words (Some x) e = some_word x.now
some_words None e = absurd (cc)

-- a line of one word has no words after its first
alone_of-words : (line : Line) (words : List (List ℕ)) → 0 < length words
    → alone_of line words ≡ Err BadLine
alone_of-words line [] h = absurd (omega arith)
alone_of-words line (word ∷ words) h = refl

-- a line of one word with a word more is no request
pub alone_of-more : (line : Line) (o : Option (Bor (List ℕ))) (x : Bor (List ℕ)) → o ≡ Some x
    → alone_of line (words_after o) ≡ Err BadLine
alone_of-more line o x e = alone_of-words line (words_after o) (more_words o x e)

-- a put or a replace line has five words after its first
pub description_of-others : (words : List (List ℕ)) → length words ≢ 5
    → description_of words ≡ Err BadLine
unfolding description_of
description_of-others [] h = refl
description_of-others (a ∷ []) h = refl
description_of-others (a ∷ b ∷ []) h = refl
description_of-others (a ∷ b ∷ c ∷ []) h = refl
description_of-others (a ∷ b ∷ c ∷ d ∷ []) h = refl
description_of-others (a ∷ b ∷ c ∷ d ∷ e ∷ []) h = absurd (h refl)
description_of-others (a ∷ b ∷ c ∷ d ∷ e ∷ f ∷ words) h = refl
