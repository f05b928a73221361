-- Parts that a byte ends.
use Rattle.std.proofs.Common.{◌≡◌, ◌∙◌, ℕ, ◌+◌, ◌-◌, ◌<◌, false, List, [], ◌∷◌, ◌++◌, length, take}
use Rattle.std.proofs.Common.{All, add-one, ap, append_assoc, append-nil, arith, drop, drop-cons}
use Rattle.std.proofs.Common.{eq-eqb, nat_eq, refl, sym, length-drop, length-take, take-append-drop}
use Rattle.std.proofs.lemmas.Bool.{eqb-true, false_from_ne_true}
use Rattle.std.proofs.lemmas.List.{get_or-take, take_all}
use Rattle.std.proofs.lemmas.List.Elements.{All-from_get_or, All-head, All-tail}
use Rattle.memchr.specs.Find.{NoneBefore, Nowhere, Passes, is_byte}
use Rattle.mot_devices.specs.Mounts.{parts_behind, parts_of}

module _ (byte : ℕ) where
  none_behind : (met xs : List ℕ) → All (λ b. nat_eq b byte ≡ false) xs → parts_behind byte met xs ≡ []
  none_behind met [] h = refl
  none_behind met (x ∷ xs) h =
      rw (All-head (λ b. nat_eq b byte ≡ false) x xs h)
      (none_behind (met ++ x ∷ []) xs (All-tail (λ b. nat_eq b byte ≡ false) x xs h))

  first_behind : (met xs ys : List ℕ) → All (λ b. nat_eq b byte ≡ false) xs
      → parts_behind byte met (xs ++ byte ∷ ys) ≡ (met ++ xs) ∷ parts_behind byte [] ys
  first_behind met [] ys h =
      rw (eq-eqb byte byte refl) (ap (λ l. l ∷ parts_behind byte [] ys) (sym (append-nil met)))
  first_behind met (x ∷ xs) ys h =
      rw (All-head (λ b. nat_eq b byte ≡ false) x xs h)
      (first_behind (met ++ x ∷ []) xs ys (All-tail (λ b. nat_eq b byte ≡ false) x xs h)
      ∙ ap (λ l. l ∷ parts_behind byte [] ys) (append_assoc met (x ∷ []) xs))

  module _ (xs : List ℕ) where
    -- where the byte is not, there is no part
    pub no_part : Nowhere (Passes (is_byte byte) xs) 0 (length xs) → parts_of byte xs ≡ []
    no_part h = none_behind [] xs (All-from_get_or (λ b. nat_eq b byte ≡ false) xs 0
        (λ k l. false_from_ne_true _ (h k (omega arith) l)))

    none_before : (at : ℕ) → NoneBefore (Passes (is_byte byte) xs) 0 (length xs) at
        → All (λ b. nat_eq b byte ≡ false) (take at xs)
    none_before at h =
        let high = h.high in
        All-from_get_or (λ b. nat_eq b byte ≡ false) (take at xs) 0 (λ k l.
        let below : k < at = omega (arith, length-take at xs) in
        rw get_or-take (false_from_ne_true _ (h.before k (omega arith) below)))

    parts_at : (at : ℕ) → at < length xs → Passes (is_byte byte) xs at
        → take at xs ++ byte ∷ drop (at + 1) xs ≡ xs
    parts_at at l e =
        let rest : drop at xs ≡ byte ∷ drop (at + 1) xs = rw add-one (drop-cons xs at 0 l)
        ∙ ap (λ b. b ∷ drop (at + 1) xs) (eqb-true _ byte e) in
        ap (λ l. take at xs ++ l) (sym rest) ∙ take-append-drop at xs

    -- and else the first one ends where the first such byte is
    pub first_part : (at : ℕ) → NoneBefore (Passes (is_byte byte) xs) 0 (length xs) at
        → Passes (is_byte byte) xs at
        → parts_of byte xs ≡ take at xs ∷ parts_of byte (take (length xs - (at + 1)) (drop (at + 1) xs))
    first_part at first passes =
        let rest = drop (at + 1) xs in
        ap (parts_of byte) (sym (parts_at at first.high passes))
        ∙ first_behind [] (take at xs) rest (none_before at first)
        ∙ ap (λ l. take at xs ∷ parts_of byte l)
        (sym (take_all (length xs - (at + 1)) rest (rw length-drop (omega arith))))
