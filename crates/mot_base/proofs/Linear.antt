-- The division is linear: what it leaves of a sum is the sum of what it leaves.
use Rattle.std.proofs.Common.{◌≡◌, ℕ, zero, suc, ◌+◌, ◌≤◌, Bool, true, false, List, [], ◌∷◌, ◌++◌}
use Rattle.std.proofs.Common.{length, replicate, refl, sym, ap, ◌∙◌, arith, length-append}
use Rattle.std.proofs.lemmas.List.{length-replicate}
use Rattle.std.proofs.Math.Nat.{suc-add}
use Rattle.mot_base.specs.Checksum.{xor, added_to_front, divisor, remainder}
use Rattle.mot_base.proofs.Bits.{add_assoc_front, add_last_zeros, add_to_zeros, length_bits}

xor_swap : (x y z : Bool) → xor x (xor y z) ≡ xor y (xor x z)
xor_swap true true z = refl
xor_swap true false z = refl
xor_swap false true z = refl
xor_swap false false z = refl

xor_twice : (x z : Bool) → xor x (xor x z) ≡ z
xor_twice true true = refl
xor_twice true false = refl
xor_twice false z = refl

-- nothing added to the front leaves the bits
pub add_nothing : (bits : List Bool) → added_to_front [] bits ≡ bits
unfolding added_to_front
add_nothing bits = refl

-- to zeros of its own number
pub to_own_zeros : (k : ℕ) (xs : List Bool) → length xs ≡ k
    → added_to_front xs (replicate k false) ≡ xs
to_own_zeros k xs e = ap (λ n. added_to_front xs (replicate n false)) (sym e) ∙ add_to_zeros xs

add_to_none : (p : List Bool) → added_to_front p [] ≡ []
unfolding added_to_front
add_to_none [] = refl
add_to_none (x ∷ p) = refl

add_swap : (p q l : List Bool) →
    added_to_front p (added_to_front q l) ≡ added_to_front q (added_to_front p l)
unfolding added_to_front
add_swap [] q l = refl
add_swap (x ∷ p) [] l = refl
add_swap (x ∷ p) (y ∷ q) [] = refl
add_swap (x ∷ p) (y ∷ q) (z ∷ l) =
    ap (λ b. b ∷ added_to_front p (added_to_front q l)) (xor_swap x y z)
    ∙ ap (λ r. xor y (xor x z) ∷ r) (add_swap p q l)

add_twice : (p l : List Bool) → added_to_front p (added_to_front p l) ≡ l
unfolding added_to_front
add_twice [] l = refl
add_twice (x ∷ p) [] = refl
add_twice (x ∷ p) (z ∷ l) =
    ap (λ b. b ∷ added_to_front p (added_to_front p l)) (xor_twice x z)
    ∙ ap (λ r. z ∷ r) (add_twice p l)

length_add : (p l : List Bool) → length (added_to_front p l) ≡ length l
unfolding added_to_front
length_add [] l = refl
length_add (x ∷ p) [] = refl
length_add (x ∷ p) (z ∷ l) = ap suc (length_add p l)

-- a division of no steps leaves the bits
pub no_steps : (bits : List Bool) → remainder 0 bits ≡ bits
unfolding remainder
no_steps bits = refl

remainder-none : (n : ℕ) → remainder n [] ≡ []
unfolding remainder
remainder-none zero = refl
remainder-none (suc n) = refl

-- some steps, and then others
pub remainder-steps : (m n : ℕ) (bits : List Bool)
    → remainder (m + n) bits ≡ remainder n (remainder m bits)
unfolding remainder
remainder-steps zero n bits = ap (λ k. remainder k bits) (let e : 0 + n ≡ n = omega arith in e)
remainder-steps (suc m) n [] = rw suc-add (sym (remainder-none n))
remainder-steps (suc m) n (true ∷ bits) =
    rw suc-add (remainder-steps m n (added_to_front divisor bits))
remainder-steps (suc m) n (false ∷ bits) = rw suc-add (remainder-steps m n bits)

-- zeros in front go
pub zeros_first : (k n : ℕ) (bits : List Bool)
    → remainder (k + n) (replicate k false ++ bits) ≡ remainder n bits
unfolding remainder
zeros_first zero n bits = ap (λ k. remainder k bits) (let e : 0 + n ≡ n = omega arith in e)
zeros_first (suc k) n bits = rw suc-add (zeros_first k n bits)

divisor_fits : (p : List Bool) → 16 ≤ length p → length divisor ≤ length p
divisor_fits p h = rw (length_bits 16 4129) h

-- what a sum leaves is the sum of what its parts leave
pub remainder-add : (m : ℕ) (p l : List Bool) → m + 16 ≤ length p →
    remainder m (added_to_front p l) ≡ added_to_front (remainder m p) (remainder m l)
unfolding remainder added_to_front
remainder-add zero p l h = refl
remainder-add (suc m) [] l h = absurd (omega arith)
remainder-add (suc m) (true ∷ p) [] h = sym (add_to_none (remainder m (added_to_front divisor p)))
remainder-add (suc m) (false ∷ p) [] h = sym (add_to_none (remainder m p))
remainder-add (suc m) (true ∷ p) (true ∷ l) h =
    let long : m + 16 ≤ length (added_to_front divisor p) = omega (arith, length_add divisor p) in
    let fits : length divisor ≤ length p = divisor_fits p (omega arith) in
    let same : added_to_front (added_to_front divisor p) (added_to_front divisor l)
    ≡ added_to_front p l =
    add_assoc_front divisor p (added_to_front divisor l) fits
    ∙ ap (added_to_front divisor) (add_swap p divisor l) ∙ add_twice divisor (added_to_front p l) in
    ap (remainder m) (sym same)
    ∙ remainder-add m (added_to_front divisor p) (added_to_front divisor l) long
remainder-add (suc m) (true ∷ p) (false ∷ l) h =
    let long : m + 16 ≤ length (added_to_front divisor p) = omega (arith, length_add divisor p) in
    let fits : length divisor ≤ length p = divisor_fits p (omega arith) in
    ap (remainder m) (sym (add_assoc_front divisor p l fits))
    ∙ remainder-add m (added_to_front divisor p) l long
remainder-add (suc m) (false ∷ p) (true ∷ l) h =
    ap (remainder m) (add_swap divisor p l)
    ∙ remainder-add m p (added_to_front divisor l) (omega arith)
remainder-add (suc m) (false ∷ p) (false ∷ l) h = remainder-add m p l (omega arith)

-- what is added to a front of the list leaves the rest of it
add_short : (xs ys s : List Bool) → length xs ≤ length ys →
    added_to_front xs (ys ++ s) ≡ added_to_front xs ys ++ s
unfolding added_to_front
add_short [] ys s h = refl
add_short (x ∷ xs) [] s h = absurd (omega arith)
add_short (x ∷ xs) (y ∷ ys) s h =
    let h' : length xs ≤ length ys = omega arith in
    ap (λ l. xor x y ∷ l) (add_short xs ys s h')

-- what stands behind the bits that so many steps reach stays
remainder-append : (m : ℕ) (p s : List Bool) → m + 16 ≤ length p →
    remainder m (p ++ s) ≡ remainder m p ++ s
unfolding remainder
remainder-append zero p s h = refl
remainder-append (suc m) [] s h = absurd (omega arith)
remainder-append (suc m) (true ∷ p) s h =
    let fits : length divisor ≤ length p = divisor_fits p (omega arith) in
    let long : m + 16 ≤ length (added_to_front divisor p) = omega (arith, length_add divisor p) in
    ap (remainder m) (add_short divisor p s fits)
    ∙ remainder-append m (added_to_front divisor p) s long
remainder-append (suc m) (false ∷ p) s h = remainder-append m p s (omega arith)

-- what is added to the front leaves its own, while the division goes on behind it
pub front_left : (m j : ℕ) (p l : List Bool) → length p ≡ m + 16 →
    remainder (m + j) (added_to_front p l)
    ≡ added_to_front (remainder j (remainder m p ++ replicate j false)) (remainder (m + j) l)
front_left m j p l e =
    let padded : List Bool = p ++ replicate j false in
    let sized : length padded ≡ m + j + 16 =
    length-append p (replicate j false) ∙ ap (λ n. length p + n) (length-replicate j false)
    ∙ (let q : length p + j ≡ m + j + 16 = omega arith in q) in
    ap (remainder (m + j)) (sym (add_last_zeros p j l))
    ∙ remainder-add (m + j) padded l (omega (arith, sized))
    ∙ ap (λ x. added_to_front x (remainder (m + j) l))
    (remainder-steps m j padded
    ∙ ap (remainder j) (remainder-append m p (replicate j false) (omega arith)))
