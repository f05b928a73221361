-- The lines of a list, joined.
use Rattle.std.proofs.Common.{◌≡◌, ℕ, ◌+◌, ◌<◌, List, [], ◌∷◌, ◌++◌, length, get_or, take, drop}
use Rattle.std.proofs.Common.{sym, ap, ◌∙◌, append-nil, take-append-drop}
use Rattle.std.proofs.lemmas.List.{take_more}
use Rattle.std.proofs.lemmas.List.Concat.{flat_map-append}
use Rattle.std.specs.List.{flat_map}

module _ {A : Type 0} (line : A → List ℕ) (xs : List A) where
  -- one more line
  pub lines-more : (i : ℕ) (x : A) → i < length xs → x ≡ get_or xs i x
      → flat_map line (take (i + 1) xs) ≡ flat_map line (take i xs) ++ line x
  lines-more i x l e =
      ap (flat_map line) (take_more xs i x l)
      ∙ flat_map-append line (take i xs) (get_or xs i x ∷ [])
      ∙ ap (λ t. flat_map line (take i xs) ++ t) (append-nil (line (get_or xs i x)))
      ∙ ap (λ y. flat_map line (take i xs) ++ line y) (sym e)

  -- the first lines, and the others
  pub lines-parts : (i : ℕ) → flat_map line (take i xs) ++ flat_map line (drop i xs)
      ≡ flat_map line xs
  lines-parts i = sym (flat_map-append line (take i xs) (drop i xs))
      ∙ ap (flat_map line) (take-append-drop i xs)
