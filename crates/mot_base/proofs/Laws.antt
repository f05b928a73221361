-- What holds of the definitions, for the crates above.
use Rattle.std.proofs.Common.{◌≡◌, ◌∙◌, ℕ, ◌-◌, List, [], ◌∷◌, ◌++◌, true, eqb, refl, sym}
use Rattle.std.proofs.Common.{length, drop, arith, ap, length-append, eq-eqb}
use Rattle.std.proofs.Math.Seq.{take-append_seam, drop-append_seam}
use Rattle.std.proofs.lemmas.List.{take-append-drop}
use Rattle.std.proofs.lemmas.Slice.Eq.{bytes_eq-Decides}
use Rattle.std.specs.Int.{w16, to_be_bytes}
use Rattle.std.specs.Prelude.{bytes_eq}
use Rattle.mot_base.specs.Checksum.{crc_of, without_crc, ends_in_crc}

-- ---- the checksum word behind bytes

eqb-same : (n : ℕ) → eqb n n ≡ true
eqb-same n = eq-eqb n n refl

bytes_eq-same : (xs : List ℕ) → bytes_eq xs xs ≡ true
bytes_eq-same [] = refl
bytes_eq-same (x ∷ xs) = rw (eqb-same x) (bytes_eq-same xs)

-- bytes with two more are, without the checksum, the bytes
pub without_crc-append : (xs : List ℕ) (a b : ℕ) → without_crc (xs ++ a ∷ b ∷ []) ≡ xs
without_crc-append xs a b =
    let e : length (xs ++ a ∷ b ∷ []) - 2 ≡ length xs =
    omega (arith, length-append xs (a ∷ b ∷ [])) in
    rw e (take-append_seam xs (a ∷ b ∷ []))

-- bytes with their checksum behind them end in it
pub ends_in_crc-append : (xs : List ℕ) → ends_in_crc (xs ++ to_be_bytes w16 (crc_of xs)) ≡ true
ends_in_crc-append xs =
    let ys : List ℕ = to_be_bytes w16 (crc_of xs) in
    let e : length (xs ++ ys) - 2 ≡ length xs = omega (arith, length-append xs ys) in
    rw (e, take-append_seam xs ys, drop-append_seam xs ys) (bytes_eq-same ys)

bytes_eq-true : (xs ys : List ℕ) → bytes_eq xs ys ≡ true → xs ≡ ys
bytes_eq-true xs ys e = (bytes_eq-Decides xs ys).0 e

-- bytes that end in their checksum word are determined by the others
pub append-without_crc : (bytes : List ℕ) → ends_in_crc bytes ≡ true →
    bytes ≡ without_crc bytes ++ to_be_bytes w16 (crc_of (without_crc bytes))
append-without_crc bytes e =
    let end : drop (length bytes - 2) bytes ≡ to_be_bytes w16 (crc_of (without_crc bytes)) =
    bytes_eq-true _ _ e in
    sym (take-append-drop (length bytes - 2) bytes) ∙ ap (λ r. without_crc bytes ++ r) end
