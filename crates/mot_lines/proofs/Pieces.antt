-- A list of bytes, cut at a byte.
use Rattle.std.proofs.Common.{◌≡◌, ℕ, ◌+◌, ◌-◌, ◌<◌, false, List, [], ◌∷◌, ◌++◌, length, take, drop}
use Rattle.std.proofs.Common.{nat_eq, All, sym, ap, ◌∙◌, arith, add-one, drop-cons}
use Rattle.std.proofs.Common.{take-append-drop, length-take, length-drop}
use Rattle.std.proofs.lemmas.Bool.{false_from_ne_true, eqb-true}
use Rattle.std.proofs.lemmas.List.{take_all, get_or-take}
use Rattle.std.proofs.lemmas.List.Elements.{All-from_get_or}
use Rattle.std.proofs.lemmas.List.Splits.{slice_split_none}
use Rattle.std.specs.List.{slice_split}
use Rattle.memchr.specs.Find.{Passes, Nowhere, NoneBefore, is_byte}

module _ (c : ℕ) (xs : List ℕ) where
  -- where a byte is nowhere
  pub none_at_all : Nowhere (Passes (is_byte c) xs) 0 (length xs) → All (λ b. nat_eq b c ≡ false) xs
  none_at_all h = All-from_get_or (λ b. nat_eq b c ≡ false) xs 0
      (λ k l. false_from_ne_true _ (h k (omega arith) l))

  -- what stands before the first place of a byte
  pub none_before : (at : ℕ) → NoneBefore (Passes (is_byte c) xs) 0 (length xs) at
      → All (λ b. nat_eq b c ≡ false) (take at xs)
  none_before at h =
      let high = h.high in
      All-from_get_or (λ b. nat_eq b c ≡ false) (take at xs) 0 (λ k l.
      let below : k < at = omega (arith, length-take at xs) in
      rw get_or-take (false_from_ne_true _ (h.before k (omega arith) below)))

  -- the byte and what stands round it
  pub parts_at : (at : ℕ) → at < length xs → Passes (is_byte c) xs at
      → take at xs ++ c ∷ drop (at + 1) xs ≡ xs
  parts_at at l e =
      let rest : drop at xs ≡ c ∷ drop (at + 1) xs = rw add-one (drop-cons xs at 0 l)
      ∙ ap (λ b. b ∷ drop (at + 1) xs) (eqb-true _ c e) in
      ap (λ l. take at xs ++ l) (sym rest) ∙ take-append-drop at xs

  -- bytes that do not have a byte, cut at it, are one piece
  pub split_none : Nowhere (Passes (is_byte c) xs) 0 (length xs)
      → slice_split (λ b. nat_eq b c) xs ≡ xs ∷ []
  split_none h = slice_split_none (λ b. nat_eq b c) xs (none_at_all h)

-- what a slice from a place on holds
pub slice_from : (xs : List ℕ) (at : ℕ) → take (length xs - at) (drop at xs) ≡ drop at xs
slice_from xs at = take_all (length xs - at) (drop at xs) (rw length-drop (omega arith))
