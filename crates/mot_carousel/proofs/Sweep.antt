-- A sweep over extents: each that was passed ends before a start, or begins beyond.
use Rattle.std.proofs.Common.{◌≡◌, ℕ, ◌+◌, ◌<◌, ◌≤◌, Bool, true, List, [], ◌∷◌, length, take}
use Rattle.std.proofs.Common.{get_or, refl, ◌∙◌, arith}
use Rattle.std.proofs.lemmas.Bool.{and_from}
use Rattle.std.proofs.lemmas.List.Folds.{list_all_more}
use Rattle.std.specs.Prelude.{◌||◌, nat_le}
use Rattle.std.specs.List.{list_all}
use Rattle.std.proofs.lemmas.Bool.Decides.{nat_tests}
use Rattle.std.proofs.lemmas.List.Sums.{AllPass-from_list_all}
use Rattle.mot_carousel.specs.Gap.{is_beside, is_free}

-- this one ends before the first, or begins at the second or after it
abbrev pub is_apart : ℕ → ℕ → ℕ × ℕ → Bool
is_apart above beyond e = nat_le (e.0 + e.1) above || nat_le beyond e.0

abbrev pub are_apart : ℕ → ℕ → List (ℕ × ℕ) → Bool
are_apart above beyond extents = list_all (is_apart above beyond) extents

-- from a higher start and a lower end they are, too
pub apart-on : (xs : List (ℕ × ℕ)) (a b a' b' : ℕ) → are_apart a b xs ≡ true → a ≤ a' → b' ≤ b
    → are_apart a' b' xs ≡ true
apart-on [] a b a' b' is low high = refl
apart-on (e ∷ xs) a b a' b' is low high =
    grind (arith, nat_tests, apart-on xs a b a' b')

-- and with one more of which this holds
pub apart-next : (xs : List (ℕ × ℕ)) (i a b a' b' : ℕ) (d : ℕ × ℕ) → i < length xs
    → are_apart a b (take i xs) ≡ true → a ≤ a' → b' ≤ b → is_apart a' b' (get_or xs i d) ≡ true
    → are_apart a' b' (take (i + 1) xs) ≡ true
apart-next xs i a b a' b' d lt is low high here =
    list_all_more (is_apart a' b') xs i d lt
    ∙ and_from _ _ (apart-on (take i xs) a b a' b' is low high) here

-- bytes between them are free
pub apart-free : (xs : List (ℕ × ℕ)) (a b n : ℕ) → are_apart a b xs ≡ true → a + n ≤ b
    → is_free xs n a ≡ true
apart-free [] a b n is fits = refl
apart-free (e ∷ xs) a b n is fits = grind (arith, nat_tests, apart-free xs a b n)

beside-cases : (e : ℕ × ℕ) (n k above : ℕ) → is_beside k n e ≡ true → above ≤ k → e.0 < above + n
    → e.0 + e.1 ≤ k
beside-cases e n k above is le meets = grind (arith, nat_tests)

-- a free start that is not below lies behind one that is met
pub met-next : (xs : List (ℕ × ℕ)) (i : ℕ) (d : ℕ × ℕ) (n k above : ℕ) → i < length xs
    → is_free xs n k ≡ true → above ≤ k → (get_or xs i d).0 < above + n
    → (get_or xs i d).0 + (get_or xs i d).1 ≤ k
met-next xs i d n k above lt free le meets =
    beside-cases (get_or xs i d) n k above
    (AllPass-from_list_all (is_beside k n) xs free i d lt) le meets
