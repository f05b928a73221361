-- What helps to cut a line into words.
use Rattle.std.specs.Prelude.{ℕ, ◌≡◌, ◌≢◌, List, [], ◌∷◌, length, Option, Some, None, ◌⊎◌, Result}
use Rattle.std.specs.Prelude.{Err}
use Rattle.std.specs.Borrow.{Bor}
use Rattle.mot_numbers.specs.declared.refusal.Refusal.{Refusal}
use Rattle.mot_numbers.specs.declared.refusal.Refusal.TheVariants.{OutOfMemory}

-- these are the words, or there are not three
abbrev pub AreThree : Option (Bor (List ℕ) × Bor (List ℕ) × Bor (List ℕ)) → List (List ℕ) → Type 0
AreThree (Some found) words = words ≡ found.0.now ∷ found.1.now ∷ found.2.now ∷ []
AreThree None words = length words ≢ 3

-- these are the words, or there are not five
abbrev pub AreFive :
    Option (Bor (List ℕ) × Bor (List ℕ) × Bor (List ℕ) × Bor (List ℕ) × Bor (List ℕ))
    → List (List ℕ) → Type 0
AreFive (Some found) words =
    words ≡ found.0.now ∷ found.1.now ∷ found.2.now ∷ found.3.now ∷ found.4.now ∷ []
AreFive None words = length words ≢ 5

-- this is the word, or there is not one
abbrev pub IsOne : Option (Bor (List ℕ)) → List (List ℕ) → Type 0
IsOne (Some found) words = words ≡ found.now ∷ []
IsOne None words = length words ≢ 1

-- this answer, but a growth of memory that is refused may stand in its place
abbrev pub OrOutOfMemory : {T : Type 0} → Result T Refusal → Result T Refusal → Type 0
OrOutOfMemory result answer = (result ≡ answer) ⊎ (result ≡ Err OutOfMemory)
