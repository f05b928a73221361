-- What holds of the definitions, for the crates above.
use Rattle.std.proofs.Common.{◌≡◌, ℕ, zero, suc, ◌+◌, ◌*◌, ◌/◌, ◌%◌, ◌^◌, ◌<◌, ◌≤◌, List, [], ◌∷◌}
use Rattle.std.proofs.Common.{◌++◌, false, refl, sym, length, drop, min, sum, arith, ap, ◌∙◌}
use Rattle.std.proofs.Common.{eq-eqb, Option, Some, None, Result, Ok, Err, inl, inr}
use Rattle.std.proofs.Math.Nat.{add-mul, mul-le-mul_right, pow-suc}
use Rattle.std.proofs.lemmas.Bool.{cases_eq, ne_eqb}
use Rattle.std.proofs.lemmas.List.Elements.{All-append, All-cons, All-head, All-nil, All-tail}
use Rattle.std.proofs.lemmas.List.Sums.{sum_by-cons}
use Rattle.std.proofs.lemmas.Nat.{div-mul-add, mod-pow-add}
use Rattle.std.proofs.lemmas.Option.{none-some, same_Some}
use Rattle.std.specs.Int.{div_ceil, from_bool, w16, to_be_bytes}
use Rattle.std.specs.Prelude.{IsErrAnd, ◌==◌}
use Rattle.mot_numbers.specs.Reading.{IsByte, AreBytes, number_in, fields, ◌>>=◌, is_empty}
use Rattle.mot_numbers.specs.Reading.{read_each}
use Rattle.mot_numbers.specs.PacketLength.{kind_number, room_of, code_of}
use Rattle.mot_numbers.specs.declared.group_kind.GroupKind.{GroupKind}
use Rattle.mot_numbers.specs.declared.group_kind.GroupKind.TheVariants.{Body, Directory}
use Rattle.mot_numbers.specs.declared.packet_length.PacketLength.{PacketLength}
use Rattle.mot_numbers.specs.declared.packet_length.PacketLength.TheVariants.{P24, P48, P72, P96}
-- a geometry that is valid, and its test
pub use Rattle.mot_numbers.proofs.Valid.{valid_is, is_valid_of}

-- ---- results

-- an error that is a certain one is that result
pub same_error : {A E : Type 0} (r : Result A E) (e : E) → IsErrAnd r (λ x. x ≡ e) → r ≡ Err e
same_error (Ok a) e is = absurd is
same_error (Err x) e is = ap Err is

-- ---- lists

-- lists of equal first elements and equal rests are equal
pub cons_eq : {x y : ℕ} {xs ys : List ℕ} → x ≡ y → xs ≡ ys → x ∷ xs ≡ y ∷ ys
cons_eq p q = cc

-- a list with an element is not empty
pub is_empty-some : (xs : List ℕ) → 0 < length xs → is_empty xs ≡ false
is_empty-some [] h = absurd (omega arith)
is_empty-some (x ∷ xs) h = refl

-- a list that is not empty has an element
pub length-some : (xs : List ℕ) → is_empty xs ≡ false → 0 < length xs
length-some [] e = cc
length-some (x ∷ xs) e = omega arith

-- ---- pieces: each has the size but the last, which is not empty

-- n pieces of a size hold the bytes, and n - 1 do not
pub record PiecesRoundedUp (n size bytes : ℕ) : Type 0 where
  -- how many pieces come before the last
  pub full : ℕ
  -- there is one more than these
  pub one_more : n ≡ suc full
  -- they do not hold all bytes
  pub too_few : full * size < bytes
  -- with one piece more all bytes have room
  pub enough : bytes ≤ full * size + size

full_pieces-parts : (quotient rest size bytes : ℕ) → quotient * size + rest ≡ bytes → rest < size →
    0 < bytes → PiecesRoundedUp (quotient + min 1 rest) size bytes
full_pieces-parts zero zero size bytes e p b = absurd (omega arith)
full_pieces-parts (suc q) zero size bytes e p b =
    record { full = q; one_more = omega arith; too_few = omega arith; enough = omega arith }
full_pieces-parts q (suc r) size bytes e p b =
    record { full = q; one_more = omega arith; too_few = omega arith; enough = omega arith }

-- a number of bytes, divided by a size and rounded up, is how many pieces hold them
pub pieces_rounded_up : (size bytes : ℕ) → 0 < size → 0 < bytes
    → PiecesRoundedUp (div_ceil bytes size) size bytes
pieces_rounded_up size bytes s b =
    full_pieces-parts (bytes / size) (bytes % size) size bytes (omega arith) (omega arith) b

-- ---- bytes

-- bytes behind bytes are bytes
pub AreBytes-append : (xs ys : List ℕ) → AreBytes xs → AreBytes ys → AreBytes (xs ++ ys)
AreBytes-append xs ys x y = All-append IsByte xs ys x y

-- a byte before bytes makes bytes
pub AreBytes-cons : (b : ℕ) (bytes : List ℕ) → b < 256 → AreBytes bytes → AreBytes (b ∷ bytes)
AreBytes-cons b bytes h all = All-cons IsByte b bytes h all

-- a number of 16 bits is written in two bytes
pub AreBytes-to_be_bytes : (n : ℕ) → AreBytes (to_be_bytes w16 n)
AreBytes-to_be_bytes n = AreBytes-cons (n / 256 % 256) (n % 256 ∷ []) (omega arith)
    (AreBytes-cons (n % 256) [] (omega arith) (All-nil IsByte))

-- bytes of one length are told apart by their number
pub number_in-fits : (xs : List ℕ) → AreBytes xs → number_in xs < 256 ^ length xs
number_in-fits [] all = omega arith
number_in-fits (x ∷ xs) all =
    let rest = number_in-fits xs (All-tail IsByte x xs all) in
    let first : x < 256 = All-head IsByte x xs all in
    let top : (x + 1) * 256 ^ length xs ≤ 256 * 256 ^ length xs =
    mul-le-mul_right (256 ^ length xs) (omega arith) in
    let wide : (x + 1) * 256 ^ length xs ≡ x * 256 ^ length xs + 1 * 256 ^ length xs =
    add-mul x 1 (256 ^ length xs) in
    rw (pow-suc 256 (length xs)) (omega arith)

-- bytes of one length that are the same number are the same
pub number_in-injective : (xs ys : List ℕ) → length xs ≡ length ys → AreBytes xs → AreBytes ys →
    number_in xs ≡ number_in ys → xs ≡ ys
number_in-injective [] [] l p q e = refl
number_in-injective [] (y ∷ ys) l p q e = absurd (omega arith)
number_in-injective (x ∷ xs) [] l p q e = absurd (omega arith)
number_in-injective (x ∷ xs) (y ∷ ys) l p q e =
    let len : length xs ≡ length ys = omega arith in
    let worth : ℕ = 256 ^ length ys in
    let fits : number_in xs < worth = rw (← len) (number_in-fits xs (All-tail IsByte x xs p)) in
    let fits' : number_in ys < worth = number_in-fits ys (All-tail IsByte y ys q) in
    let same : x * worth + number_in xs ≡ y * worth + number_in ys =
    ap (λ n. x * 256 ^ n + number_in xs) (sym len) ∙ e in
    let first : x ≡ y = sym (div-mul-add x worth (number_in xs) fits) ∙ ap (λ n. n / worth) same
    ∙ div-mul-add y worth (number_in ys) fits' in
    let same_top : y * worth + number_in xs ≡ y * worth + number_in ys =
    ap (λ v. v * worth + number_in xs) (sym first) ∙ same in
    let rest : number_in xs ≡ number_in ys = omega arith in
    let others : xs ≡ ys =
    number_in-injective xs ys len (All-tail IsByte x xs p) (All-tail IsByte y ys q) rest in
    cc

-- fields tell the bits that they are cut from apart
pub fields-injective : (widths : List ℕ) (m n : ℕ) → fields widths m ≡ fields widths n →
    m % 2 ^ sum widths ≡ n % 2 ^ sum widths
fields-injective [] m n e = omega arith
fields-injective (w ∷ ws) m n e =
    let rest : fields ws m ≡ fields ws n = ap (drop 1) e in
    let low = fields-injective ws m n rest in
    let a = mod-pow-add m w (sum ws) in
    let b = mod-pow-add n w (sum ws) in
    let heads : m / 2 ^ sum ws % 2 ^ w ≡ n / 2 ^ sum ws % 2 ^ w = cc in
    rw (sum_by-cons (λ x. x) w ws, a, b, heads, low) refl

-- ---- packet lengths

-- the code of a packet's length fits in two bits
pub code_of-fits : (length : PacketLength) → code_of length < 4
code_of-fits P24 = omega arith
code_of-fits P48 = omega arith
code_of-fits P72 = omega arith
code_of-fits P96 = omega arith

-- a packet's room, with five bytes more, is 24 bytes for its code and one more
pub room_of-code : (length : PacketLength) → room_of length + 5 ≡ 24 * (code_of length + 1)
room_of-code P24 = refl
room_of-code P48 = refl
room_of-code P72 = refl
room_of-code P96 = refl

-- ---- reading

-- what both steps read, where the whole reads
pub >>=-some : {A B : Type 0} (o : Option A) (f : A → Option B) (y : B) → (o >>= f) ≡ Some y →
    (x : A) × (o ≡ Some x) × (f x ≡ Some y)
>>=-some None f y e = absurd (none-some y e)
>>=-some (Some x) f y e = (x, refl, e)

-- as many are read as there are, where each is
pub length-read_each : {A B : Type 0} (read : A → Option B) (xs : List A) (ys : List B) →
    read_each read xs ≡ Some ys → length xs ≡ length ys
length-read_each read [] ys e = ap length (same_Some [] ys e)
length-read_each read (x ∷ xs) ys e =
    let first = >>=-some (read x) (λ y. read_each read xs >>= λ zs. Some (y ∷ zs)) ys e in
    let others = >>=-some (read_each read xs) (λ zs. Some (first.0 ∷ zs)) ys first.2 in
    ap suc (length-read_each read xs others.0 others.1)
    ∙ ap length (same_Some (first.0 ∷ others.0) ys others.2)

read_each-cons : {A B : Type 0} (read : A → Option B) (x : A) (xs : List A) (y : B) (ys : List B) →
    read x ≡ Some y → read_each read xs ≡ Some ys → read_each read (x ∷ xs) ≡ Some (y ∷ ys)
read_each-cons read x xs y ys e f = rw (e, f) refl

-- lists that read stand behind one another
pub read_each-append : {A B : Type 0} (read : A → Option B) (xs xs' : List A) (ys ys' : List B) →
    read_each read xs ≡ Some ys → read_each read xs' ≡ Some ys' →
    read_each read (xs ++ xs') ≡ Some (ys ++ ys')
read_each-append read [] xs' ys ys' e f =
    f ∙ ap (λ zs. Some (zs ++ ys')) (same_Some [] ys e)
read_each-append read (x ∷ xs) xs' ys ys' e f =
    let first = >>=-some (read x) (λ y. read_each read xs >>= λ zs. Some (y ∷ zs)) ys e in
    let others = >>=-some (read_each read xs) (λ zs. Some (first.0 ∷ zs)) ys first.2 in
    read_each-cons read x (xs ++ xs') first.0 (others.0 ++ ys') first.1
    (read_each-append read xs xs' others.0 ys' others.1 f)
    ∙ ap (λ zs. Some (zs ++ ys')) (same_Some (first.0 ∷ others.0) ys others.2)

-- ---- numbers of few values

-- a number below 2 is that of whether it is 1
pub one_or_zero : (n : ℕ) → n < 2 → n ≡ from_bool (n == 1)
one_or_zero n h = elim (cases_eq n 1) [
  | inl e ↦ rw (eq-eqb n 1 e) e
  | inr e ↦ rw (ne_eqb n 1 e) (omega arith)
]

-- each length of packets has room for data
pub room_of-some : (length : PacketLength) → 0 < room_of length
room_of-some P24 = omega arith
room_of-some P48 = omega arith
room_of-some P72 = omega arith
room_of-some P96 = omega arith

-- the number of a group's type fits in four bits
pub kind_number-fits : (kind : GroupKind) → kind_number kind < 16
kind_number-fits Body = omega arith
kind_number-fits Directory = omega arith
