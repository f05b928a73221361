-- Numbers in words.
use Rattle.std.proofs.Common.{◌≡◌, ℕ, suc, ◌+◌, ◌-◌, ◌*◌, ◌^◌, ◌<◌, ◌≤◌, Bool, true, false, ◌&&◌}
use Rattle.std.proofs.Common.{List, [], ◌∷◌, ◌++◌, length, take, get_or, Some, None, refl, ap, ◌∙◌}
use Rattle.std.proofs.Common.{arith, add-one, length-append}
use Rattle.std.proofs.Math.Nat.{pow-suc}
use Rattle.std.proofs.lemmas.Bool.{lt-ltb, le-leb, lt-leb, leb-true}
use Rattle.std.proofs.lemmas.List.{take_more}
use Rattle.std.proofs.lemmas.List.Folds.{list_all_more, list_all_at}
use Rattle.std.specs.Prelude.{nat_lt, nat_le}
use Rattle.std.specs.Char.{is_ascii_digit}
use Rattle.std.specs.List.{list_all}
use Rattle.mot_lines.specs.Fields.{decimal_value, number_of_word}

and_right : (a b : Bool) → (a && b) ≡ true → b ≡ true
and_right true b e = e
and_right false b e = absurd (cc)

and_false : (a b : Bool) → b ≡ false → (a && b) ≡ false
and_false true b e = e
and_false false b e = refl

-- a word of no bytes is no number
pub number_of_empty : (word : List ℕ) → length word ≡ 0 → number_of_word word ≡ None
unfolding number_of_word
number_of_empty [] h = refl
number_of_empty (x ∷ xs) h = absurd (omega arith)

-- a word of more than ten bytes is no number
pub number_of_long : (word : List ℕ) → 10 < length word → number_of_word word ≡ None
unfolding number_of_word
number_of_long word h = rw (lt-leb (length word) 10 h, lt-ltb 0 (length word) (omega arith)) refl

-- a word with a byte that is no digit is no number
pub number_of_other : (word : List ℕ) (at : ℕ) → at < length word
    → is_ascii_digit (get_or word at 0) ≡ false
    → number_of_word word ≡ None
unfolding number_of_word
number_of_other word at l e = rw (and_false (nat_lt 0 (length word) && nat_le (length word) 10) _
    (list_all_at is_ascii_digit word at 0 l e)) refl

-- a word of one to ten digits is their number
pub number_of_digits : (word : List ℕ) → 0 < length word → length word ≤ 10
    → list_all is_ascii_digit word ≡ true → number_of_word word ≡ Some (decimal_value word)
unfolding number_of_word
number_of_digits word some short e =
    rw (lt-ltb 0 (length word) some, le-leb (length word) 10 short, e) refl

decimal_value-push : (ds : List ℕ) (d : ℕ)
    → decimal_value (ds ++ d ∷ []) ≡ decimal_value ds * 10 + (d - 48)
decimal_value-push [] d = omega arith
decimal_value-push (x ∷ ds) d =
    let len : length (ds ++ d ∷ []) ≡ suc (length ds) = omega (arith, length-append ds (d ∷ [])) in
    rw (len, decimal_value-push ds d, pow-suc) (grind arith)

-- one more digit
pub decimal_value-more : (word : List ℕ) (at : ℕ) → at < length word
    → decimal_value (take (at + 1) word)
    ≡ decimal_value (take at word) * 10 + (get_or word at 0 - 48)
decimal_value-more word at l = ap decimal_value (take_more word at 0 l)
    ∙ decimal_value-push (take at word) (get_or word at 0)

-- one digit more behind digits
pub digits-more : (word : List ℕ) (at : ℕ) → at < length word
    → list_all is_ascii_digit (take at word) ≡ true
    → is_ascii_digit (get_or word at 0) ≡ true
    → list_all is_ascii_digit (take (at + 1) word) ≡ true
digits-more word at l e f = rw (list_all_more is_ascii_digit word at 0 l, e, f) refl

-- a number of so many digits, and one digit behind them, is of one digit more
pub power-more : (n k d : ℕ) → n < 10 ^ k → d ≤ 9 → n * 10 + d < 10 ^ (k + 1)
power-more n k d h l = rw (add-one, pow-suc) (omega arith)

-- a digit's byte is at most that of 9
pub digit-high : (d : ℕ) → is_ascii_digit d ≡ true → d ≤ 57
digit-high d e = leb-true d 57 (and_right (nat_le 48 d) (nat_le d 57) e)
