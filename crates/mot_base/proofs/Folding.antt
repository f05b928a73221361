-- A word folded into those behind it: the divisor's sixteenth power has four terms.
use Rattle.std.proofs.Common.{◌≤◌}
use Rattle.std.proofs.Common.{◌≡◌, ℕ, zero, suc, ◌+◌, ◌-◌, ◌*◌, ◌/◌, ◌%◌, ◌<◌, Bool, true}
use Rattle.std.proofs.Common.{false, not, ◌&&◌, List, [], ◌∷◌, ◌++◌, length, replicate, refl, sym}
use Rattle.std.proofs.Common.{ap, ◌∙◌, arith, length-append, append-nil}
use Rattle.std.proofs.lemmas.List.{length-replicate}
use Rattle.std.proofs.lemmas.Bool.{and_parts}
use Rattle.std.specs.Int.RustNames.{bit_xor}
use Rattle.mot_base.specs.Checksum.{xor, bits_of, added_to_front, remainder}
use Rattle.mot_base.specs.Inner.{bits_of_word}
use Rattle.mot_base.proofs.Bits.{add_zeros, add_parts}
use Rattle.mot_base.proofs.Linear.{remainder-add, zeros_first, add_nothing, to_own_zeros}
use Rattle.mot_base.proofs.Linear.{front_left}
use Rattle.mot_base.proofs.Words.{length_word, moved_word, add_word}

-- ---- sums

-- the places behind w bits to which they are added: w, 2 w + g and 3 w + g + h bits further on
abbrev pub folded : ℕ → ℕ → List Bool → List Bool
folded g h xs = xs ++ (replicate g false ++ (xs ++ (replicate h false ++ xs)))

-- what the division leaves of them there in k steps, and where they stand, which are m bits before
-- the end
abbrev pub near : ℕ → ℕ → ℕ → List Bool → List Bool
near k g h xs = remainder k (folded g h xs)

abbrev pub far : ℕ → ℕ → List Bool → List Bool
far w m xs = remainder (w - 16 + m) (xs ++ replicate m false)

pub length-folded : (w g h : ℕ) (xs : List Bool) → length xs ≡ w →
    length (folded g h xs) ≡ w + g + w + h + w
length-folded w g h xs e =
    omega (
      arith,
      length-append xs (replicate g false ++ (xs ++ (replicate h false ++ xs))),
      length-append (replicate g false) (xs ++ (replicate h false ++ xs)),
      length-append xs (replicate h false ++ xs),
      length-append (replicate h false) xs,
      length-replicate g false,
      length-replicate h false,
    )

length-far : (w m : ℕ) (xs : List Bool) → 16 ≤ w → length xs ≡ w
    → length (xs ++ replicate m false) ≡ w - 16 + m + 16
length-far w m xs p e =
    omega (arith, length-append xs (replicate m false), length-replicate m false)

-- zeros in both parts
add_gap : (k : ℕ) (xs ys : List Bool) →
    added_to_front (replicate k false ++ xs) (replicate k false ++ ys)
    ≡ replicate k false ++ added_to_front xs ys
add_gap k xs ys =
    add_parts (replicate k false) (replicate k false) xs ys refl
    ∙ ap (λ l. l ++ added_to_front xs ys) (add_zeros k (replicate k false))

folded-add : (g h : ℕ) (xs ys : List Bool) → length xs ≡ length ys →
    folded g h (added_to_front xs ys) ≡ added_to_front (folded g h xs) (folded g h ys)
folded-add g h xs ys e =
    let sum : List Bool = added_to_front xs ys in
    let xs' : List Bool = replicate h false ++ xs in
    let ys' : List Bool = replicate h false ++ ys in
    sym (add_parts xs ys (replicate g false ++ (xs ++ xs')) (replicate g false ++ (ys ++ ys')) e
    ∙ ap (λ l. sum ++ l) (add_gap g (xs ++ xs') (ys ++ ys')
    ∙ ap (λ l. replicate g false ++ l) (add_parts xs ys xs' ys' e
    ∙ ap (λ l. sum ++ l) (add_gap h xs ys))))

near-add : (w k g h : ℕ) (xs ys : List Bool) → k + 16 ≡ w + g + w + h + w → length xs ≡ w
    → length ys ≡ w →
    near k g h (added_to_front xs ys) ≡ added_to_front (near k g h xs) (near k g h ys)
near-add w k g h xs ys p x y =
    ap (remainder k) (folded-add g h xs ys (x ∙ sym y))
    ∙ remainder-add k (folded g h xs) (folded g h ys) (omega (arith, length-folded w g h xs x))

far-add : (w m : ℕ) (xs ys : List Bool) → 16 ≤ w → length xs ≡ w → length ys ≡ w →
    far w m (added_to_front xs ys) ≡ added_to_front (far w m xs) (far w m ys)
far-add w m xs ys p x y =
    let zeros : List Bool = replicate m false in
    ap (remainder (w - 16 + m)) (sym (add_parts xs ys zeros zeros (x ∙ sym y)
    ∙ ap (λ l. added_to_front xs ys ++ l) (add_zeros m zeros)))
    ∙ remainder-add (w - 16 + m) (xs ++ zeros) (ys ++ zeros) (omega (arith, length-far w m xs p x))

-- ---- a one among zeros

abbrev pub one_at : ℕ → ℕ → List Bool
one_at w k = replicate k false ++ (true ∷ replicate (w - 1 - k) false)

abbrev pub same_bits : List Bool → List Bool → Bool
same_bits [] [] = true
same_bits [] (y ∷ ys) = false
same_bits (x ∷ xs) [] = false
same_bits (x ∷ xs) (y ∷ ys) = not (xor x y) && same_bits xs ys

same_bits-eq : (xs ys : List Bool) → same_bits xs ys ≡ true → xs ≡ ys
same_bits-eq [] [] h = refl
same_bits-eq [] (y ∷ ys) h = absurd cc
same_bits-eq (x ∷ xs) [] h = absurd cc
same_bits-eq (true ∷ xs) (true ∷ ys) h = ap (λ l. true ∷ l) (same_bits-eq xs ys h)
same_bits-eq (true ∷ xs) (false ∷ ys) h = absurd cc
same_bits-eq (false ∷ xs) (true ∷ ys) h = absurd cc
same_bits-eq (false ∷ xs) (false ∷ ys) h = ap (λ l. false ∷ l) (same_bits-eq xs ys h)

-- so many ones from this place on leave the same near and far
abbrev pub ones_agree : ℕ → ℕ → ℕ → ℕ → ℕ → ℕ → Bool
ones_agree w k g h zero i = true
ones_agree w k g h (suc n) i =
    same_bits (far w (k + 16) (one_at w i)) (near k g h (one_at w i)) && ones_agree w k g h n (i + 1)

one_agrees : (w k g h n first i : ℕ) → i < n → ones_agree w k g h n first ≡ true →
    far w (k + 16) (one_at w (first + i)) ≡ near k g h (one_at w (first + i))
one_agrees w k g h zero first i p e = absurd (omega arith)
one_agrees w k g h (suc n) first zero p e =
    let at : first ≡ first + 0 = omega arith in
    sym (ap (λ j. far w (k + 16) (one_at w j)) at)
    ∙ same_bits-eq (far w (k + 16) (one_at w first)) (near k g h (one_at w first)) (and_parts _ _ e).0
    ∙ ap (λ j. near k g h (one_at w j)) at
one_agrees w k g h (suc n) first (suc i) p e =
    let at : first + 1 + i ≡ first + suc i = omega arith in
    sym (ap (λ j. far w (k + 16) (one_at w j)) at)
    ∙ one_agrees w k g h n (first + 1) i (omega arith)
    (and_parts (same_bits (far w (k + 16) (one_at w first)) (near k g h (one_at w first))) _ e).1
    ∙ ap (λ j. near k g h (one_at w j)) at

one_agrees_at : (w k g h i : ℕ) → i < w → ones_agree w k g h w 0 ≡ true →
    far w (k + 16) (one_at w i) ≡ near k g h (one_at w i)
one_agrees_at w k g h i p e =
    let at : 0 + i ≡ i = omega arith in
    sym (ap (λ j. far w (k + 16) (one_at w j)) at) ∙ one_agrees w k g h w 0 i p e
    ∙ ap (λ j. near k g h (one_at w j)) at

-- ---- any bits

zero_more : (k : ℕ) (bits : List Bool) →
    replicate k false ++ (false ∷ bits) ≡ replicate (suc k) false ++ bits
zero_more zero bits = refl
zero_more (suc k) bits = ap (λ l. false ∷ l) (zero_more k bits)

one_added : (k : ℕ) (bits : List Bool) →
    added_to_front (true ∷ replicate k false) (false ∷ bits) ≡ true ∷ bits
unfolding added_to_front
one_added k bits = ap (λ l. true ∷ l) (add_zeros k bits)

-- a one is added to what stands behind it
one_and_others : (w k : ℕ) (bits : List Bool) →
    added_to_front (one_at w k) (replicate (suc k) false ++ bits)
    ≡ replicate k false ++ (true ∷ bits)
one_and_others w k bits =
    ap (added_to_front (one_at w k)) (sym (zero_more k bits))
    ∙ add_gap k (true ∷ replicate (w - 1 - k) false) (false ∷ bits)
    ∙ ap (λ l. replicate k false ++ l) (one_added (w - 1 - k) bits)

length-one_at : (w k : ℕ) → k < w → length (one_at w k) ≡ w
length-one_at w k p =
    omega (
      arith,
      length-append (replicate k false) (true ∷ replicate (w - 1 - k) false),
      length-replicate k false,
      length-replicate (w - 1 - k) false,
    )

length-others : (w k : ℕ) (bits : List Bool) → k + length bits ≡ w →
    length (replicate k false ++ bits) ≡ w
length-others w k bits e =
    omega (arith, length-append (replicate k false) bits, length-replicate k false)

-- a divisor's power: it adds w bits so much further on, of which zeros and all ones leave the same
abbrev pub IsPower : ℕ → ℕ → ℕ → ℕ → Type 0
IsPower w k g h = (16 ≤ w) × (k + 16 ≡ w + g + w + h + w)
    × (far w (k + 16) (replicate w false ++ []) ≡ near k g h (replicate w false ++ []))
    × (ones_agree w k g h w 0 ≡ true)

agree_behind : (w k g h : ℕ) (bits : List Bool) (i : ℕ) → IsPower w k g h → i + length bits ≡ w →
    far w (k + 16) (replicate i false ++ bits) ≡ near k g h (replicate i false ++ bits)
agree_behind w k g h [] i p e =
    let at : i ≡ w = omega arith in
    ap (λ n. far w (k + 16) (replicate n false ++ [])) at ∙ p.2
    ∙ sym (ap (λ n. near k g h (replicate n false ++ [])) at)
agree_behind w k g h (false ∷ bits) i p e =
    ap (far w (k + 16)) (zero_more i bits) ∙ agree_behind w k g h bits (suc i) p (omega arith)
    ∙ sym (ap (near k g h) (zero_more i bits))
agree_behind w k g h (true ∷ bits) i p e =
    let one : List Bool = one_at w i in
    let others : List Bool = replicate (suc i) false ++ bits in
    let within : i < w = omega arith in
    let q : suc i + length bits ≡ w = omega arith in
    let sized : length one ≡ w = length-one_at w i within in
    let others_sized : length others ≡ w = length-others w (suc i) bits q in
    ap (far w (k + 16)) (sym (one_and_others w i bits))
    ∙ far-add w (k + 16) one others p.0 sized others_sized
    ∙ ap (λ l. added_to_front l (far w (k + 16) others)) (one_agrees_at w k g h i within p.3)
    ∙ ap (added_to_front (near k g h one)) (agree_behind w k g h bits (suc i) p q)
    ∙ sym (near-add w k g h one others p.1 sized others_sized)
    ∙ ap (near k g h) (one_and_others w i bits)

agree : (w k g h : ℕ) (bits : List Bool) → IsPower w k g h → length bits ≡ w →
    far w (k + 16) bits ≡ near k g h bits
agree w k g h bits p e =
    agree_behind w k g h bits 0 p (let q : 0 + length bits ≡ w = omega arith in q)

-- ---- bits in front of the rest of a message

-- they may be dropped if they are added further on
pub fold_front : (w k g h j : ℕ) (xs tail : List Bool) → IsPower w k g h → length xs ≡ w →
    remainder (w + (k + j)) (xs ++ tail) ≡ remainder (k + j) (added_to_front (folded g h xs) tail)
fold_front w k g h j xs tail p e =
    let m : ℕ = k + 16 in
    let zeros : List Bool = replicate m false in
    let gap : List Bool = replicate w false in
    let enough : 16 ≤ w = p.0 in
    let steps : w + (k + j) ≡ w - 16 + m + j = omega arith in
    let front : added_to_front (xs ++ zeros) (gap ++ tail) ≡ xs ++ tail =
    add_parts xs gap zeros tail (e ∙ sym (length-replicate w false))
    ∙ ap (λ l. l ++ added_to_front zeros tail) (to_own_zeros w xs e)
    ∙ ap (λ l. xs ++ l) (add_zeros m tail) in
    let behind : remainder (w - 16 + m + j) (gap ++ tail) ≡ remainder (k + j) tail =
    ap (λ n. remainder n (gap ++ tail)) (sym steps) ∙ zeros_first w (k + j) tail in
    let sized : length (folded g h xs) ≡ k + 16 = length-folded w g h xs e ∙ sym p.1 in
    ap (λ n. remainder n (xs ++ tail)) steps
    ∙ ap (remainder (w - 16 + m + j)) (sym front)
    ∙ front_left (w - 16 + m) j (xs ++ zeros) (gap ++ tail) (length-far w m xs p.0 e)
    ∙ ap (λ l. added_to_front (remainder j (l ++ replicate j false))
    (remainder (w - 16 + m + j) (gap ++ tail))) (agree w k g h xs p e)
    ∙ ap (added_to_front (remainder j (near k g h xs ++ replicate j false))) behind
    ∙ sym (front_left k j (folded g h xs) tail sized)

-- the sixteenth power, for a word
ones_of_sixteenth : ones_agree 64 240 48 16 64 0 ≡ true
unfolding remainder added_to_front bits_of
ones_of_sixteenth = refl

zeros_of_sixteenth : far 64 256 (replicate 64 false ++ []) ≡ near 240 48 16 (replicate 64 false ++ [])
unfolding remainder added_to_front
zeros_of_sixteenth = refl

sixteenth : IsPower 64 240 48 16
sixteenth = (omega arith, refl, zeros_of_sixteenth, ones_of_sixteenth)

-- the eighth, for half a word
ones_of_eighth : ones_agree 32 112 24 8 32 0 ≡ true
unfolding remainder added_to_front bits_of
ones_of_eighth = refl

zeros_of_eighth : far 32 128 (replicate 32 false ++ []) ≡ near 112 24 8 (replicate 32 false ++ [])
unfolding remainder added_to_front
zeros_of_eighth = refl

pub eighth : IsPower 32 112 24 8
eighth = (omega arith, refl, zeros_of_eighth, ones_of_eighth)

-- ---- the words that it is folded into

-- where a word is added: into three words, of which two share it
folded_words : (a : ℕ) → a < 18446744073709551616 → folded 48 16 (bits_of_word a)
    ≡ bits_of_word a ++ (bits_of_word (a * 281474976710656 % 18446744073709551616)
    ++ (bits_of_word (a / 65536) ++ (bits_of_word a ++ [])))
folded_words a h =
    let word : List Bool = bits_of_word a in
    ap (λ l. word ++ (replicate 48 false ++ (word ++ (replicate 16 false ++ l))))
    (sym (append-nil word))
    ∙ ap (λ l. word ++ l) (sym (moved_word a (word ++ []) h))

-- the first of five words, folded into those behind it, leaves the same remainder
pub word_folded : (a b c d next n : ℕ) (rest : List Bool) → a < 18446744073709551616 →
    remainder (304 + n) (bits_of_word a ++ (bits_of_word b ++ (bits_of_word c ++ (bits_of_word d
    ++ (bits_of_word next ++ rest)))))
    ≡ remainder (240 + n) (bits_of_word (bit_xor a b)
    ++ (bits_of_word (bit_xor (a * 281474976710656 % 18446744073709551616) c)
    ++ (bits_of_word (bit_xor (a / 65536) d) ++ (bits_of_word (bit_xor a next) ++ rest))))
word_folded a b c d next n rest h =
    let up : ℕ = a * 281474976710656 % 18446744073709551616 in
    let down : ℕ = a / 65536 in
    let fifth : List Bool = bits_of_word next ++ rest in
    let fourth : List Bool = bits_of_word d ++ fifth in
    let third : List Bool = bits_of_word c ++ fourth in
    let second : List Bool = bits_of_word b ++ third in
    let sum : added_to_front (folded 48 16 (bits_of_word a)) second
    ≡ bits_of_word (bit_xor a b) ++ (bits_of_word (bit_xor up c)
    ++ (bits_of_word (bit_xor down d) ++ (bits_of_word (bit_xor a next) ++ rest))) =
    ap (λ l. added_to_front l second) (folded_words a h)
    ∙ add_word a b (bits_of_word up ++ (bits_of_word down ++ (bits_of_word a ++ []))) third
    ∙ ap (λ l. bits_of_word (bit_xor a b) ++ l)
    (add_word up c (bits_of_word down ++ (bits_of_word a ++ [])) fourth
    ∙ ap (λ l. bits_of_word (bit_xor up c) ++ l)
    (add_word down d (bits_of_word a ++ []) fifth
    ∙ ap (λ l. bits_of_word (bit_xor down d) ++ l)
    (add_word a next [] rest
    ∙ ap (λ l. bits_of_word (bit_xor a next) ++ l) (add_nothing rest)))) in
    ap (λ j. remainder j (bits_of_word a ++ second))
    (let e : 304 + n ≡ 64 + (240 + n) = omega arith in e)
    ∙ fold_front 64 240 48 16 n (bits_of_word a) second sixteenth (length_word a)
    ∙ ap (remainder (240 + n)) sum
