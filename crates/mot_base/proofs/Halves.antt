-- Half a word folded into the two words behind it: the divisor's eighth power has four terms too.
use Rattle.std.proofs.Common.{◌≡◌, ℕ, ◌+◌, ◌*◌, ◌/◌, ◌%◌, ◌<◌, ◌≤◌, Bool, false, List, [], ◌∷◌, ◌++◌}
use Rattle.std.proofs.Common.{length, replicate, refl, sym, ap, ◌∙◌, arith, append_assoc, append-nil}
use Rattle.std.proofs.lemmas.Nat.{xor_comm}
use Rattle.mot_numbers.proofs.Laws.{cons_eq}
use Rattle.std.specs.Int.{w64, to_le_bytes, bytes_low_first}
use Rattle.std.specs.Int.RustNames.{bit_xor}
use Rattle.mot_base.specs.Checksum.{bits_of, bits_of_bytes, added_to_front, remainder}
use Rattle.mot_base.specs.Inner.{bits_of_word}
use Rattle.mot_base.proofs.Bits.{add_assoc_front, add_last_zeros, add_parts, add_zeros, bits_xor}
use Rattle.mot_base.proofs.Bits.{length_bits}
use Rattle.mot_base.proofs.Linear.{add_nothing}
use Rattle.mot_base.proofs.Folding.{folded, length-folded, fold_front, eighth}
use Rattle.mot_base.proofs.Words.{bits-append, length-bits, bytes_xor, add_word}

-- ---- bytes added bit by bit

abbrev xor_bytes : List ℕ → List ℕ → List ℕ
xor_bytes [] ys = []
xor_bytes (x ∷ xs) [] = []
xor_bytes (x ∷ xs) (y ∷ ys) = bit_xor x y ∷ xor_bytes xs ys

add_bytes : (xs ys : List ℕ) → length xs ≡ length ys →
    added_to_front (bits_of_bytes xs) (bits_of_bytes ys) ≡ bits_of_bytes (xor_bytes xs ys)
unfolding added_to_front bits_of_bytes
add_bytes [] [] e = refl
add_bytes [] (y ∷ ys) e = absurd (omega arith)
add_bytes (x ∷ xs) [] e = absurd (omega arith)
add_bytes (x ∷ xs) (y ∷ ys) e =
    let e' : length xs ≡ length ys = omega arith in
    add_parts (bits_of 8 x) (bits_of 8 y) (bits_of_bytes xs) (bits_of_bytes ys)
    (length_bits 8 x ∙ sym (length_bits 8 y))
    ∙ ap (λ l. l ++ added_to_front (bits_of_bytes xs) (bits_of_bytes ys)) (sym (bits_xor 8 x y))
    ∙ ap (λ l. bits_of 8 (bit_xor x y) ++ l) (add_bytes xs ys e')

four_zeros : bits_of_bytes (0 ∷ 0 ∷ 0 ∷ 0 ∷ []) ≡ replicate 32 false
unfolding bits_of bits_of_bytes
four_zeros = refl

three_zeros : bits_of_bytes (0 ∷ 0 ∷ 0 ∷ []) ≡ replicate 24 false
unfolding bits_of bits_of_bytes
three_zeros = refl

one_zero : bits_of_bytes (0 ∷ []) ≡ replicate 8 false
unfolding bits_of bits_of_bytes
one_zero = refl

-- ---- the halves of a word

-- a word by the bits of its halves
halves : (w : ℕ) → bits_of_word w
    ≡ bits_of_bytes (bytes_low_first 0 4 w) ++ bits_of_bytes (bytes_low_first 4 4 w)
halves w = bits-append (bytes_low_first 0 4 w) (bytes_low_first 4 4 w)

first_of_up : (a : ℕ) → bytes_low_first 0 4 (a * 4294967296 % 18446744073709551616)
    ≡ 0 ∷ 0 ∷ 0 ∷ 0 ∷ []
first_of_up a =
    cons_eq (omega arith) (cons_eq (omega arith) (cons_eq (omega arith) (cons_eq (omega arith) refl)))

second_of_up : (a : ℕ) → bytes_low_first 4 4 (a * 4294967296 % 18446744073709551616)
    ≡ bytes_low_first 0 4 a
second_of_up a =
    cons_eq (omega arith) (cons_eq (omega arith) (cons_eq (omega arith) (cons_eq (omega arith) refl)))

-- with its first half added to the second, it keeps the first
first_kept : (a : ℕ) →
    bits_of_bytes (bytes_low_first 0 4 (bit_xor (a * 4294967296 % 18446744073709551616) a))
    ≡ bits_of_bytes (bytes_low_first 0 4 a)
first_kept a =
    let up : ℕ = a * 4294967296 % 18446744073709551616 in
    let first : List Bool = bits_of_bytes (bytes_low_first 0 4 a) in
    bytes_xor 4 0 up a
    ∙ ap (λ l. added_to_front (bits_of_bytes l) first) (first_of_up a)
    ∙ ap (λ l. added_to_front l first) four_zeros
    ∙ add_zeros 32 first

second_sum : (a : ℕ) →
    bits_of_bytes (bytes_low_first 4 4 (bit_xor (a * 4294967296 % 18446744073709551616) a))
    ≡ added_to_front (bits_of_bytes (bytes_low_first 0 4 a)) (bits_of_bytes (bytes_low_first 4 4 a))
second_sum a =
    let up : ℕ = a * 4294967296 % 18446744073709551616 in
    bytes_xor 4 4 up a
    ∙ ap (λ l. added_to_front (bits_of_bytes l) (bits_of_bytes (bytes_low_first 4 4 a)))
    (second_of_up a)

length_half : (i w : ℕ) → length (bits_of_bytes (bytes_low_first i 4 w)) ≡ 32
length_half i w = length-bits (bytes_low_first i 4 w)

-- ---- where half a word is added

-- behind four bytes they stand again, behind gaps of three bytes and of one
folded_bytes : (s : List ℕ) → folded 24 8 (bits_of_bytes s)
    ≡ bits_of_bytes (s ++ (0 ∷ 0 ∷ 0 ∷ (s ++ (0 ∷ s))))
folded_bytes s =
    let three : List ℕ = 0 ∷ 0 ∷ 0 ∷ [] in
    let one : List ℕ = 0 ∷ [] in
    sym (bits-append s (three ++ (s ++ (one ++ s)))
    ∙ ap (λ l. bits_of_bytes s ++ l) (bits-append three (s ++ (one ++ s))
    ∙ ap (λ l. l ++ bits_of_bytes (s ++ (one ++ s))) three_zeros
    ∙ ap (λ l. replicate 24 false ++ l) (bits-append s (one ++ s)
    ∙ ap (λ l. bits_of_bytes s ++ l) (bits-append one s
    ∙ ap (λ l. l ++ bits_of_bytes s) one_zero))))

gap_bytes : (f : List ℕ) →
    (replicate 24 false ++ (bits_of_bytes f ++ (replicate 8 false ++ bits_of_bytes f)))
    ++ replicate 32 false
    ≡ bits_of_bytes ((0 ∷ 0 ∷ 0 ∷ (f ++ (0 ∷ f))) ++ (0 ∷ 0 ∷ 0 ∷ 0 ∷ []))
gap_bytes f =
    let three : List ℕ = 0 ∷ 0 ∷ 0 ∷ [] in
    let one : List ℕ = 0 ∷ [] in
    sym (bits-append (three ++ (f ++ (one ++ f))) (0 ∷ 0 ∷ 0 ∷ 0 ∷ [])
    ∙ ap (λ l. bits_of_bytes (three ++ (f ++ (one ++ f))) ++ l) four_zeros
    ∙ ap (λ l. l ++ replicate 32 false) (bits-append three (f ++ (one ++ f))
    ∙ ap (λ l. l ++ bits_of_bytes (f ++ (one ++ f))) three_zeros
    ∙ ap (λ l. replicate 24 false ++ l) (bits-append f (one ++ f)
    ∙ ap (λ l. bits_of_bytes f ++ l) (bits-append one f
    ∙ ap (λ l. l ++ bits_of_bytes f) one_zero))))

-- two words by their bytes, added
sum_of_words : (u v : ℕ) (us vs : List ℕ) → to_le_bytes w64 u ≡ us → to_le_bytes w64 v ≡ vs →
    length us ≡ length vs → bits_of_word (bit_xor u v) ≡ bits_of_bytes (xor_bytes us vs)
sum_of_words u v us vs p q e =
    bytes_xor 8 0 u v
    ∙ ap (λ l. added_to_front (bits_of_bytes l) (bits_of_word v)) p
    ∙ ap (λ l. added_to_front (bits_of_bytes us) (bits_of_bytes l)) q
    ∙ add_bytes us vs e

-- the sum of both halves' places is that of two words
places : (w : ℕ) → w < 18446744073709551616 →
    added_to_front (folded 24 8 (bits_of_bytes (bytes_low_first 4 4 w)))
    ((replicate 24 false ++ (bits_of_bytes (bytes_low_first 0 4 w)
    ++ (replicate 8 false ++ bits_of_bytes (bytes_low_first 0 4 w)))) ++ replicate 32 false)
    ≡ bits_of_word (bit_xor (w / 4294967296) (w * 16777216 % 18446744073709551616))
    ++ bits_of_word (bit_xor (w / 1099511627776) w)
places w h =
    let b0 : ℕ = w % 256 in
    let b1 : ℕ = w / 256 % 256 in
    let b2 : ℕ = w / 65536 % 256 in
    let b3 : ℕ = w / 16777216 % 256 in
    let b4 : ℕ = w / 4294967296 % 256 in
    let b5 : ℕ = w / 1099511627776 % 256 in
    let b6 : ℕ = w / 281474976710656 % 256 in
    let b7 : ℕ = w / 72057594037927936 % 256 in
    let first : List ℕ = b0 ∷ b1 ∷ b2 ∷ b3 ∷ [] in
    let second : List ℕ = b4 ∷ b5 ∷ b6 ∷ b7 ∷ [] in
    let left : List ℕ = second ++ (0 ∷ 0 ∷ 0 ∷ (second ++ (0 ∷ second))) in
    let right : List ℕ = (0 ∷ 0 ∷ 0 ∷ (first ++ (0 ∷ first))) ++ (0 ∷ 0 ∷ 0 ∷ 0 ∷ []) in
    let down : List ℕ = b4 ∷ b5 ∷ b6 ∷ b7 ∷ 0 ∷ 0 ∷ 0 ∷ 0 ∷ [] in
    let up : List ℕ = 0 ∷ 0 ∷ 0 ∷ b0 ∷ b1 ∷ b2 ∷ b3 ∷ b4 ∷ [] in
    let far_down : List ℕ = b5 ∷ b6 ∷ b7 ∷ 0 ∷ 0 ∷ 0 ∷ 0 ∷ 0 ∷ [] in
    let all : List ℕ = b0 ∷ b1 ∷ b2 ∷ b3 ∷ b4 ∷ b5 ∷ b6 ∷ b7 ∷ [] in
    let is_down : to_le_bytes w64 (w / 4294967296) ≡ down =
    cons_eq (omega arith) (cons_eq (omega arith) (cons_eq (omega arith) (cons_eq (omega arith)
    (cons_eq (omega arith) (cons_eq (omega arith) (cons_eq (omega arith) (cons_eq (omega arith)
    refl))))))) in
    let is_up : to_le_bytes w64 (w * 16777216 % 18446744073709551616) ≡ up =
    cons_eq (omega arith) (cons_eq (omega arith) (cons_eq (omega arith) (cons_eq (omega arith)
    (cons_eq (omega arith) (cons_eq (omega arith) (cons_eq (omega arith) (cons_eq (omega arith)
    refl))))))) in
    let is_far_down : to_le_bytes w64 (w / 1099511627776) ≡ far_down =
    cons_eq (omega arith) (cons_eq (omega arith) (cons_eq (omega arith) (cons_eq (omega arith)
    (cons_eq (omega arith) (cons_eq (omega arith) (cons_eq (omega arith) (cons_eq (omega arith)
    refl))))))) in
    let same : xor_bytes left right ≡ xor_bytes down up ++ xor_bytes far_down all =
    cons_eq refl (cons_eq refl (cons_eq refl (cons_eq refl (cons_eq refl (cons_eq refl
    (cons_eq refl (cons_eq (xor_comm b4 0) (cons_eq refl (cons_eq refl (cons_eq refl (cons_eq refl
    (cons_eq (xor_comm b4 0) (cons_eq (xor_comm b5 0) (cons_eq (xor_comm b6 0)
    (cons_eq (xor_comm b7 0) refl))))))))))))))) in
    ap (λ l. added_to_front l ((replicate 24 false ++ (bits_of_bytes first
    ++ (replicate 8 false ++ bits_of_bytes first))) ++ replicate 32 false)) (folded_bytes second)
    ∙ ap (added_to_front (bits_of_bytes left)) (gap_bytes first)
    ∙ add_bytes left right refl
    ∙ ap bits_of_bytes same
    ∙ bits-append (xor_bytes down up) (xor_bytes far_down all)
    ∙ ap (λ l. l ++ bits_of_bytes (xor_bytes far_down all))
    (sym (sum_of_words (w / 4294967296) (w * 16777216 % 18446744073709551616) down up is_down is_up
    refl))
    ∙ ap (λ l. bits_of_word (bit_xor (w / 4294967296) (w * 16777216 % 18446744073709551616)) ++ l)
    (sym (sum_of_words (w / 1099511627776) w far_down all is_far_down refl refl))

-- the first of three words goes into the other two, and leaves the same remainder
pub word_over_two : (a b c n : ℕ) (rest : List Bool) (w : ℕ) →
    w ≡ bit_xor (a * 4294967296 % 18446744073709551616) a → w < 18446744073709551616 →
    remainder (176 + n) (bits_of_word a ++ (bits_of_word b ++ (bits_of_word c ++ rest)))
    ≡ remainder (112 + n)
    (bits_of_word (bit_xor (bit_xor (w / 4294967296) (w * 16777216 % 18446744073709551616)) b)
    ++ (bits_of_word (bit_xor (bit_xor (w / 1099511627776) w) c) ++ rest))
word_over_two a b c n rest w is h =
    let p : ℕ = bit_xor (w / 4294967296) (w * 16777216 % 18446744073709551616) in
    let q : ℕ = bit_xor (w / 1099511627776) w in
    let first : List Bool = bits_of_bytes (bytes_low_first 0 4 w) in
    let old : List Bool = bits_of_bytes (bytes_low_first 4 4 a) in
    let second : List Bool = bits_of_bytes (bytes_low_first 4 4 w) in
    let gaps : List Bool = replicate 24 false ++ (first ++ (replicate 8 false ++ first)) in
    let behind : List Bool = bits_of_word b ++ (bits_of_word c ++ rest) in
    let kept : bits_of_bytes (bytes_low_first 0 4 a) ≡ first =
    sym (first_kept a) ∙ ap (λ x. bits_of_bytes (bytes_low_first 0 4 x)) (sym is) in
    let summed : added_to_front first old ≡ second =
    ap (λ l. added_to_front l old) (sym kept) ∙ sym (second_sum a)
    ∙ ap (λ x. bits_of_bytes (bytes_low_first 4 4 x)) (sym is) in
    let left : length (folded 24 8 second) ≡ 128 = length-folded 32 24 8 second (length_half 4 w) in
    let right : length (gaps ++ replicate 32 false) ≡ 128 =
    ap length (gap_bytes (bytes_low_first 0 4 w))
    ∙ length-bits ((0 ∷ 0 ∷ 0 ∷ (bytes_low_first 0 4 w ++ (0 ∷ bytes_low_first 0 4 w)))
    ++ (0 ∷ 0 ∷ 0 ∷ 0 ∷ [])) in
    let long : length (folded 24 8 second) ≤ length (gaps ++ replicate 32 false) =
    omega (arith, left, right) in
    let start : bits_of_word a ++ behind ≡ first ++ (old ++ behind) =
    ap (λ l. l ++ behind) (halves a ∙ ap (λ l. l ++ old) kept) ∙ append_assoc first old behind in
    ap (remainder (176 + n)) start
    ∙ ap (λ j. remainder j (first ++ (old ++ behind)))
    (let e : 176 + n ≡ 32 + (112 + (32 + n)) = omega arith in e)
    ∙ fold_front 32 112 24 8 (32 + n) first (old ++ behind) eighth (length_half 0 w)
    ∙ ap (remainder (112 + (32 + n)))
    (add_parts first old gaps behind (length_half 0 w ∙ sym (length_half 4 a))
    ∙ ap (λ l. l ++ added_to_front gaps behind) summed)
    ∙ ap (λ j. remainder j (second ++ added_to_front gaps behind))
    (let e : 112 + (32 + n) ≡ 32 + (112 + n) = omega arith in e)
    ∙ fold_front 32 112 24 8 n second (added_to_front gaps behind) eighth (length_half 4 w)
    ∙ ap (remainder (112 + n))
    (ap (added_to_front (folded 24 8 second)) (sym (add_last_zeros gaps 32 behind))
    ∙ sym (add_assoc_front (folded 24 8 second) (gaps ++ replicate 32 false) behind long)
    ∙ ap (λ l. added_to_front l behind) (places w h)
    ∙ add_word p b (bits_of_word q) (bits_of_word c ++ rest)
    ∙ ap (λ l. bits_of_word (bit_xor p b) ++ l)
    (ap (λ l. added_to_front l (bits_of_word c ++ rest)) (sym (append-nil (bits_of_word q)))
    ∙ add_word q c [] rest
    ∙ ap (λ l. bits_of_word (bit_xor q c) ++ l) (add_nothing rest)))
