-- Names that zero bytes end.
use Rattle.std.proofs.Common.{◌≡◌, ◌∙◌, ℕ, ◌+◌, ◌-◌, ◌<◌, false, List, [], ◌∷◌, ◌++◌, length, take}
use Rattle.std.proofs.Common.{All, add-one, ap, arith, drop, drop-cons, nat_eq, refl, sym}
use Rattle.std.proofs.Common.{length-drop, length-take, take-append-drop}
use Rattle.std.proofs.lemmas.Bool.{eqb-true, false_from_ne_true}
use Rattle.std.proofs.lemmas.List.{get_or-take, take_all}
use Rattle.std.proofs.lemmas.List.Elements.{All-from_get_or}
use Rattle.std.proofs.lemmas.List.Splits.{length-slice_split, slice_split_at, slice_split_none}
use Rattle.std.specs.List.{slice_split}
use Rattle.memchr.specs.Find.{NoneBefore, Nowhere, Passes, is_byte}
use Rattle.mot_folder.specs.Listed.{names_in}
use Rattle.mot_groups.specs.Entity.{all_but_last}

module _ (xs : List ℕ) where
  -- where no byte is zero there is no name
  pub no_name : Nowhere (Passes (is_byte 0) xs) 0 (length xs) → names_in xs ≡ []
  no_name h = ap all_but_last (slice_split_none (λ b. nat_eq b 0) xs
      (All-from_get_or (λ b. nat_eq b 0 ≡ false) xs 0
      (λ k l. false_from_ne_true _ (h k (omega arith) l))))

  none_before : (at : ℕ) → NoneBefore (Passes (is_byte 0) xs) 0 (length xs) at
      → All (λ b. nat_eq b 0 ≡ false) (take at xs)
  none_before at h =
      let high = h.high in
      All-from_get_or (λ b. nat_eq b 0 ≡ false) (take at xs) 0 (λ k l.
      let below : k < at = omega (arith, length-take at xs) in
      rw get_or-take (false_from_ne_true _ (h.before k (omega arith) below)))

  parts_at : (at : ℕ) → at < length xs → Passes (is_byte 0) xs at
      → take at xs ++ 0 ∷ drop (at + 1) xs ≡ xs
  parts_at at l e =
      let rest : drop at xs ≡ 0 ∷ drop (at + 1) xs = rw add-one (drop-cons xs at 0 l)
      ∙ ap (λ b. b ∷ drop (at + 1) xs) (eqb-true _ 0 e) in
      ap (λ l. take at xs ++ l) (sym rest) ∙ take-append-drop at xs

  some-last : (name : List ℕ) (pieces : List (List ℕ)) → 0 < length pieces
      → all_but_last (name ∷ pieces) ≡ name ∷ all_but_last pieces
  some-last name [] some = absurd (omega (arith, some))
  some-last name (piece ∷ pieces) some = refl

  -- and else the first one ends where the first zero is
  pub first_name : (at : ℕ) → NoneBefore (Passes (is_byte 0) xs) 0 (length xs) at
      → Passes (is_byte 0) xs at
      → names_in xs ≡ take at xs ∷ names_in (take (length xs - (at + 1)) (drop (at + 1) xs))
  first_name at first passes =
      let rest = drop (at + 1) xs in
      let some : 0 < length (slice_split (λ b. nat_eq b 0) rest) =
      omega (arith, length-slice_split (λ b. nat_eq b 0) rest) in
      ap names_in (sym (parts_at at first.high passes))
      ∙ ap all_but_last (slice_split_at (λ b. nat_eq b 0) (take at xs) 0 rest
      (none_before at first) refl)
      ∙ some-last (take at xs) (slice_split (λ b. nat_eq b 0) rest) some
      ∙ ap (λ l. take at xs ∷ names_in l)
      (sym (take_all (length xs - (at + 1)) rest (rw length-drop (omega arith))))
