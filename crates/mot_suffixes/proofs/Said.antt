-- What the words of a line say of a suffix.
use Rattle.std.proofs.Common.{◌≡◌, ◌≢◌, ◌∙◌, inl, inr, ℕ, true, false, List, [], ◌∷◌, Option}
use Rattle.std.proofs.Common.{Result, Ok, Err, ap, length, refl, sym}
use Rattle.std.proofs.lemmas.Bool.{false_from_ne_true}
use Rattle.std.specs.Prelude.{◌↔◌, IfErr, IfOk, IsOk, is_ok}
use Rattle.mot_lines.specs.Fields.{content_in, number_of_word}
use Rattle.mot_numbers.specs.Refusal.{◌>>=◌}
use Rattle.mot_numbers.specs.declared.refusal.Refusal.{Refusal}
use Rattle.mot_numbers.specs.declared.refusal.Refusal.TheVariants.{BadLine, BadMime}
use Rattle.mot_objects.proofs.Laws.{mime_is, mime_true}
use Rattle.mot_objects.specs.Name.{ContentNumbers, IsMime, is_mime}
use Rattle.mot_suffixes.specs.Inner.{MayRefuse}
use Rattle.mot_suffixes.specs.Types.{SuffixType, suffix_in, some_mime_in, type_mime_in}
use Rattle.mot_suffixes.specs.Types.{type_of_words}

-- an answer that is right, or why it is refused
pub answer-ok : {A : Type 0} (result answer : Result A Refusal) → result ≡ answer
    → IfOk result (λ value. answer ≡ Ok value)
answer-ok (Ok value) answer e = sym e
answer-ok (Err refusal) answer e = tt

-- what is refused is refused for what the answer says, or for want of memory
pub answer-why : {A : Type 0} (result answer : Result A Refusal) → result ≡ answer
    → IfErr result (MayRefuse answer)
answer-why (Ok value) answer e = tt
answer-why (Err refusal) answer e = inl (sym e)

-- a text that is taken just where its bytes are a MIME type is what they are read as
pub mime-answer : (bytes : List ℕ) (r : Result (List ℕ) Refusal) → (IsOk r ↔ IsMime bytes)
    → IfOk r (λ m. m ≡ bytes) → IfErr r (λ e. e ≡ BadMime) → r ≡ some_mime_in bytes
mime-answer bytes (Ok m) v i e = rw (mime_true bytes (v.0 refl)) (ap (λ x. Ok x) i)
mime-answer bytes (Err r) v i e =
    let other : is_mime bytes ≡ false = false_from_ne_true (is_mime bytes)
    (λ t. let k : is_ok {T = List ℕ} (Err r) ≡ true = v.1 (mime_is bytes t) in absurd (cc)) in
    rw other (ap (λ x. Err x) e)

-- a line has four words
pub words-wrong : (words : List (List ℕ)) → length words ≢ 4 → type_of_words words ≡ Err BadLine
unfolding type_of_words
words-wrong [] h = refl
words-wrong (a ∷ []) h = refl
words-wrong (a ∷ b ∷ []) h = refl
words-wrong (a ∷ b ∷ c ∷ []) h = refl
words-wrong (a ∷ b ∷ c ∷ d ∷ []) h = absurd (h refl)
words-wrong (a ∷ b ∷ c ∷ d ∷ e ∷ words) h = refl

-- what is right is handed on
bind : {A B : Type 0} {x : Result A Refusal} {v : A} (f : A → Result B Refusal) → x ≡ Ok v
    → (x >>= f) ≡ f v
bind f e = ap (λ y. y >>= f) e

-- what is refused ends the reading
bind-err : {A B : Type 0} {x : Result A Refusal} {r : Refusal} (f : A → Result B Refusal)
    → x ≡ Err r → (x >>= f) ≡ Err r
bind-err f e = ap (λ y. y >>= f) e

abbrev from_mime : List ℕ → List ℕ → ContentNumbers → Result SuffixType Refusal
from_mime mime s c = type_mime_in mime >>= (λ m. Ok (record { suffix = s; content = c; mime = m }))

abbrev from_content : List ℕ → List ℕ → List ℕ → List ℕ → Result SuffixType Refusal
from_content kind subtype mime s =
    content_in (number_of_word kind) (number_of_word subtype) >>= from_mime mime s

module _ (words : List (List ℕ)) (suffix kind subtype mime : List ℕ)
    (four : words ≡ suffix ∷ kind ∷ subtype ∷ mime ∷ []) where
  steps : type_of_words words ≡ (suffix_in suffix >>= from_content kind subtype mime)
  unfolding type_of_words
  steps = ap type_of_words four

  -- the suffix is none
  pub said-suffix : (r : Refusal) → MayRefuse (suffix_in suffix) r
      → MayRefuse (type_of_words words) r
  said-suffix r (inl e) = inl (steps ∙ bind-err (from_content kind subtype mime) e)
  said-suffix r (inr e) = inr e

  module _ (s : List ℕ) (named : suffix_in suffix ≡ Ok s) where
    -- the numbers are no content
    pub said-content : (r : Refusal)
        → content_in (number_of_word kind) (number_of_word subtype) ≡ Err r
        → type_of_words words ≡ Err r
    said-content r e = steps ∙ bind (from_content kind subtype mime) named
        ∙ bind-err (from_mime mime s) e

    module _ (c : ContentNumbers)
        (typed : content_in (number_of_word kind) (number_of_word subtype) ≡ Ok c) where
      to_mime : type_of_words words ≡ from_mime mime s c
      to_mime = steps ∙ bind (from_content kind subtype mime) named ∙ bind (from_mime mime s) typed

      -- the MIME type is none
      pub said-mime : (r : Refusal) → MayRefuse (type_mime_in mime) r
          → MayRefuse (type_of_words words) r
      said-mime r (inl e) = inl (to_mime ∙ bind-err _ e)
      said-mime r (inr e) = inr e

      -- the line is right
      pub said-all : (m : Option (List ℕ)) → type_mime_in mime ≡ Ok m
          → type_of_words words ≡ Ok (record { suffix = s; content = c; mime = m })
      said-all m e = to_mime ∙ bind _ e
