-- Words of a message: their bytes, and what stands in front of all of it.
use Rattle.std.proofs.Common.{◌≡◌, ℕ, zero, suc, ◌+◌, ◌*◌, ◌/◌, ◌%◌, ◌^◌, ◌<◌, Bool, true, false}
use Rattle.std.proofs.Common.{List, [], ◌∷◌, ◌++◌, length, replicate, get_or, refl, sym, ap, ◌∙◌}
use Rattle.std.proofs.Common.{arith, append_assoc, append-nil, length-append}
use Rattle.std.proofs.lemmas.Nat.{le_bytes_8, xor_shr}
use Rattle.byteorder.proofs.Bytes.{pow256}
use Rattle.mot_numbers.proofs.Laws.{cons_eq}
use Rattle.std.specs.Int.{w64, byte_at, to_le_bytes, from_le_bytes, bytes_low_first}
use Rattle.mot_base.specs.Checksum.{bits_of, bits_of_bytes, added_to_front, remainder}
use Rattle.mot_base.specs.Inner.{bits_of_word, words_before}
use Rattle.mot_base.specs.declared.checksum.Front.{Front}
use Rattle.std.specs.Int.RustNames.{bit_xor}
use Rattle.mot_base.proofs.Bits.{add_last_zeros, add_parts, add_zeros, bits_xor, length_bits}
use Rattle.mot_base.proofs.Bits.{low_bits}
use Rattle.mot_base.proofs.Linear.{add_nothing}

-- ---- bytes

-- the bits of bytes and of others after them
pub bits-append : (xs ys : List ℕ) → bits_of_bytes (xs ++ ys) ≡ bits_of_bytes xs ++ bits_of_bytes ys
unfolding bits_of_bytes
bits-append [] ys = refl
bits-append (x ∷ xs) ys =
    ap (λ l. bits_of 8 x ++ l) (bits-append xs ys)
    ∙ sym (append_assoc (bits_of 8 x) (bits_of_bytes xs) (bits_of_bytes ys))

pub length-bits : (xs : List ℕ) → length (bits_of_bytes xs) ≡ 8 * length xs
unfolding bits_of_bytes
length-bits [] = refl
length-bits (x ∷ xs) =
    omega (
      arith,
      length-append (bits_of 8 x) (bits_of_bytes xs),
      length_bits 8 x,
      length-bits xs,
    )

-- a word has 64 bits
pub length_word : (w : ℕ) → length (bits_of_word w) ≡ 64
length_word w = length-bits (to_le_bytes w64 w)

bytes_more : (byte : ℕ) (bytes : List ℕ) (tail : List Bool) →
    bits_of_bytes (byte ∷ bytes) ++ tail ≡ bits_of 8 byte ++ (bits_of_bytes bytes ++ tail)
unfolding bits_of_bytes
bytes_more byte bytes tail = append_assoc (bits_of 8 byte) (bits_of_bytes bytes) tail

bytes_end : (byte : ℕ) (tail : List Bool) →
    bits_of_bytes (byte ∷ []) ++ tail ≡ bits_of 8 byte ++ tail
unfolding bits_of_bytes
bytes_end byte tail = append_assoc (bits_of 8 byte) [] tail

-- the bits of a word are those of its eight bytes
pub word_as_bytes : (w : ℕ) (bytes : List ℕ) (rest : List Bool) → bytes ≡ to_le_bytes w64 w →
    bits_of_word w ++ rest ≡ bits_of 8 (get_or bytes 0 0) ++ (bits_of 8 (get_or bytes 1 0)
    ++ (bits_of 8 (get_or bytes 2 0) ++ (bits_of 8 (get_or bytes 3 0)
    ++ (bits_of 8 (get_or bytes 4 0) ++ (bits_of 8 (get_or bytes 5 0)
    ++ (bits_of 8 (get_or bytes 6 0) ++ (bits_of 8 (get_or bytes 7 0) ++ rest)))))))
word_as_bytes w bytes rest e =
    let b0 : ℕ = w % 256 in
    let b1 : ℕ = w / 256 % 256 in
    let b2 : ℕ = w / 65536 % 256 in
    let b3 : ℕ = w / 16777216 % 256 in
    let b4 : ℕ = w / 4294967296 % 256 in
    let b5 : ℕ = w / 1099511627776 % 256 in
    let b6 : ℕ = w / 281474976710656 % 256 in
    let b7 : ℕ = w / 72057594037927936 % 256 in
    bytes_more b0 (b1 ∷ b2 ∷ b3 ∷ b4 ∷ b5 ∷ b6 ∷ b7 ∷ []) rest
    ∙ ap (λ l. bits_of 8 b0 ++ l) (bytes_more b1 (b2 ∷ b3 ∷ b4 ∷ b5 ∷ b6 ∷ b7 ∷ []) rest
    ∙ ap (λ l. bits_of 8 b1 ++ l) (bytes_more b2 (b3 ∷ b4 ∷ b5 ∷ b6 ∷ b7 ∷ []) rest
    ∙ ap (λ l. bits_of 8 b2 ++ l) (bytes_more b3 (b4 ∷ b5 ∷ b6 ∷ b7 ∷ []) rest
    ∙ ap (λ l. bits_of 8 b3 ++ l) (bytes_more b4 (b5 ∷ b6 ∷ b7 ∷ []) rest
    ∙ ap (λ l. bits_of 8 b4 ++ l) (bytes_more b5 (b6 ∷ b7 ∷ []) rest
    ∙ ap (λ l. bits_of 8 b5 ++ l) (bytes_more b6 (b7 ∷ []) rest
    ∙ ap (λ l. bits_of 8 b6 ++ l) (bytes_end b7 rest)))))))
    ∙ ap (λ bs. bits_of 8 (get_or bs 0 0) ++ (bits_of 8 (get_or bs 1 0)
    ++ (bits_of 8 (get_or bs 2 0) ++ (bits_of 8 (get_or bs 3 0)
    ++ (bits_of 8 (get_or bs 4 0) ++ (bits_of 8 (get_or bs 5 0)
    ++ (bits_of 8 (get_or bs 6 0) ++ (bits_of 8 (get_or bs 7 0) ++ rest)))))))) (sym e)

-- eight bytes of a message are its next word
pub next_word : (w : ℕ) (front others : List ℕ) (tail : List Bool) → length front ≡ 8 →
    ((i : ℕ) → get_or front i 0 < 256) → w ≡ from_le_bytes w64 front →
    bits_of_bytes (front ++ others) ++ tail ≡ bits_of_word w ++ (bits_of_bytes others ++ tail)
next_word w front others tail e small is =
    ap (λ l. l ++ tail) (bits-append front others)
    ∙ append_assoc (bits_of_bytes front) (bits_of_bytes others) tail
    ∙ ap (λ l. bits_of_bytes l ++ (bits_of_bytes others ++ tail))
    (sym (le_bytes_8 front w e small is))

small_behind : (byte : ℕ) (bytes : List ℕ) → byte < 256 → ((i : ℕ) → get_or bytes i 0 < 256)
    → (i : ℕ) →
    get_or (byte ∷ bytes) i 0 < 256
small_behind byte bytes h rest zero = h
small_behind byte bytes h rest (suc i) = rest i

none_small : (i : ℕ) → get_or {A = ℕ} [] i 0 < 256
none_small zero = omega arith
none_small (suc i) = omega arith

-- each of eight bytes is below 256, as is what stands behind them
pub eight_small : (a b c d e f g h : ℕ) → a < 256 → b < 256 → c < 256 → d < 256 → e < 256 → f < 256
    → g < 256 →
    h < 256 → (i : ℕ) → get_or (a ∷ b ∷ c ∷ d ∷ e ∷ f ∷ g ∷ h ∷ []) i 0 < 256
eight_small a b c d e f g h sa sb sc sd se sf sg sh =
    small_behind a (b ∷ c ∷ d ∷ e ∷ f ∷ g ∷ h ∷ []) sa
    (small_behind b (c ∷ d ∷ e ∷ f ∷ g ∷ h ∷ []) sb
    (small_behind c (d ∷ e ∷ f ∷ g ∷ h ∷ []) sc
    (small_behind d (e ∷ f ∷ g ∷ h ∷ []) sd
    (small_behind e (f ∷ g ∷ h ∷ []) se
    (small_behind f (g ∷ h ∷ []) sf
    (small_behind g (h ∷ []) sg
    (small_behind h [] sh none_small)))))))

-- ---- words added bit by bit

byte_xor : (i a b : ℕ) → bits_of 8 (byte_at i (bit_xor a b))
    ≡ added_to_front (bits_of 8 (byte_at i a)) (bits_of 8 (byte_at i b))
byte_xor zero a b =
    low_bits 8 (bit_xor a b) ∙ bits_xor 8 a b
    ∙ ap (λ l. added_to_front l (bits_of 8 b)) (sym (low_bits 8 a))
    ∙ ap (added_to_front (bits_of 8 (a % 256))) (sym (low_bits 8 b))
byte_xor (suc i) a b =
    let p : ℕ = 256 ^ suc i in
    let same : p ≡ 2 ^ (8 * suc i) = pow256 (suc i) in
    let moved : bit_xor a b / p ≡ bit_xor (a / p) (b / p) =
    ap (λ q. bit_xor a b / q) same ∙ xor_shr a b (8 * suc i)
    ∙ ap (λ q. bit_xor (a / q) (b / q)) (sym same) in
    low_bits 8 (bit_xor a b / p) ∙ ap (bits_of 8) moved ∙ bits_xor 8 (a / p) (b / p)
    ∙ ap (λ l. added_to_front l (bits_of 8 (b / p))) (sym (low_bits 8 (a / p)))
    ∙ ap (added_to_front (bits_of 8 (a / p % 256))) (sym (low_bits 8 (b / p)))

pub bytes_xor : (k i a b : ℕ) → bits_of_bytes (bytes_low_first i k (bit_xor a b))
    ≡ added_to_front (bits_of_bytes (bytes_low_first i k a)) (bits_of_bytes (bytes_low_first i k b))
unfolding bits_of_bytes added_to_front
bytes_xor zero i a b = refl
bytes_xor (suc k) i a b =
    let xs : List Bool = bits_of_bytes (bytes_low_first (suc i) k a) in
    let ys : List Bool = bits_of_bytes (bytes_low_first (suc i) k b) in
    let x : List Bool = bits_of 8 (byte_at i a) in
    let y : List Bool = bits_of 8 (byte_at i b) in
    ap (λ l. l ++ bits_of_bytes (bytes_low_first (suc i) k (bit_xor a b))) (byte_xor i a b)
    ∙ ap (λ l. added_to_front x y ++ l) (bytes_xor k (suc i) a b)
    ∙ sym (add_parts x y xs ys (length_bits 8 (byte_at i a) ∙ sym (length_bits 8 (byte_at i b))))

-- words are added bit by bit, and what stands behind them too
pub add_word : (a b : ℕ) (front rest : List Bool) →
    added_to_front (bits_of_word a ++ front) (bits_of_word b ++ rest)
    ≡ bits_of_word (bit_xor a b) ++ added_to_front front rest
add_word a b front rest =
    add_parts (bits_of_word a) (bits_of_word b) front rest (length_word a ∙ sym (length_word b))
    ∙ ap (λ l. l ++ added_to_front front rest) (sym (bytes_xor 8 0 a b))

-- ---- a word moved by bytes

six_zeros : bits_of_bytes (0 ∷ 0 ∷ 0 ∷ 0 ∷ 0 ∷ 0 ∷ []) ≡ replicate 48 false
unfolding bits_of bits_of_bytes
six_zeros = refl

two_zeros : bits_of_bytes (0 ∷ 0 ∷ []) ≡ replicate 16 false
unfolding bits_of bits_of_bytes
two_zeros = refl

moved_up : (a : ℕ) → to_le_bytes w64 (a * 281474976710656 % 18446744073709551616)
    ≡ 0 ∷ 0 ∷ 0 ∷ 0 ∷ 0 ∷ 0 ∷ a % 256 ∷ a / 256 % 256 ∷ []
moved_up a =
    cons_eq (omega arith) (cons_eq (omega arith) (cons_eq (omega arith) (cons_eq (omega arith)
    (cons_eq (omega arith) (cons_eq (omega arith) (cons_eq (omega arith) (cons_eq (omega arith)
    refl)))))))

moved_down : (a : ℕ) → a < 18446744073709551616 → to_le_bytes w64 (a / 65536)
    ≡ a / 65536 % 256 ∷ a / 16777216 % 256 ∷ a / 4294967296 % 256 ∷ a / 1099511627776 % 256
    ∷ a / 281474976710656 % 256 ∷ a / 72057594037927936 % 256 ∷ 0 ∷ 0 ∷ []
moved_down a h =
    cons_eq (omega arith) (cons_eq (omega arith) (cons_eq (omega arith) (cons_eq (omega arith)
    (cons_eq (omega arith) (cons_eq (omega arith) (cons_eq (omega arith) (cons_eq (omega arith)
    refl)))))))

-- moved up by six bytes and down by two: with zeros around it, the word stands in the two words
pub moved_word : (a : ℕ) (rest : List Bool) → a < 18446744073709551616 →
    bits_of_word (a * 281474976710656 % 18446744073709551616) ++ (bits_of_word (a / 65536) ++ rest)
    ≡ replicate 48 false ++ (bits_of_word a ++ (replicate 16 false ++ rest))
moved_word a rest h =
    let up : ℕ = a * 281474976710656 % 18446744073709551616 in
    let down : ℕ = a / 65536 in
    let six : List ℕ = 0 ∷ 0 ∷ 0 ∷ 0 ∷ 0 ∷ 0 ∷ [] in
    let two : List ℕ = 0 ∷ 0 ∷ [] in
    let word : List ℕ = to_le_bytes w64 a in
    let bytes : to_le_bytes w64 up ++ to_le_bytes w64 down ≡ six ++ (word ++ two) =
    ap (λ l. l ++ to_le_bytes w64 down) (moved_up a)
    ∙ ap (λ l. six ++ (a % 256 ∷ a / 256 % 256 ∷ l)) (moved_down a h) in
    sym (append_assoc (bits_of_word up) (bits_of_word down) rest)
    ∙ ap (λ l. l ++ rest) (sym (bits-append (to_le_bytes w64 up) (to_le_bytes w64 down))
    ∙ ap bits_of_bytes bytes ∙ bits-append six (word ++ two)
    ∙ ap (λ l. l ++ bits_of_bytes (word ++ two)) six_zeros
    ∙ ap (λ l. replicate 48 false ++ l) (bits-append word two
    ∙ ap (λ l. bits_of_word a ++ l) two_zeros))
    ∙ append_assoc (replicate 48 false) (bits_of_word a ++ replicate 16 false) rest
    ∙ ap (λ l. replicate 48 false ++ l) (append_assoc (bits_of_word a) (replicate 16 false) rest)

-- ---- in front of a whole message

-- sixteen ones in front of a word
first_ones : bits_of_word 0xFFFF ≡ replicate 16 true ++ replicate 48 false
unfolding bits_of bits_of_bytes
first_ones = refl

-- they are added to a message's first word
ones_added : (word : ℕ) (rest : List Bool) →
    added_to_front (replicate 16 true) (bits_of_word word ++ rest)
    ≡ bits_of_word (bit_xor 0xFFFF word) ++ rest
ones_added word rest =
    let whole : List Bool = bits_of_word word ++ rest in
    sym (add_last_zeros (replicate 16 true) 48 whole)
    ∙ ap (λ l. added_to_front l whole) (sym first_ones ∙ sym (append-nil (bits_of_word 0xFFFF)))
    ∙ add_word 0xFFFF word [] rest
    ∙ ap (λ l. bits_of_word (bit_xor 0xFFFF word) ++ l) (add_nothing rest)

-- the first four words of a message, with the ones added, stand in front of the rest of it
pub four_words_in : (bytes one two three rest : List ℕ) (a b c d : ℕ) (tail : List Bool)
    → length bytes ≡ 8 + length one → length one ≡ 8 + length two → length two ≡ 8 + length three
    → length three ≡ 8 + length rest
    → ((t : List Bool) → bits_of_bytes bytes ++ t ≡ bits_of_word a ++ (bits_of_bytes one ++ t))
    → ((t : List Bool) → bits_of_bytes one ++ t ≡ bits_of_word b ++ (bits_of_bytes two ++ t))
    → ((t : List Bool) → bits_of_bytes two ++ t ≡ bits_of_word c ++ (bits_of_bytes three ++ t))
    → ((t : List Bool) → bits_of_bytes three ++ t ≡ bits_of_word d ++ (bits_of_bytes rest ++ t))
    → remainder (256 + 8 * length rest) (bits_of_word (bit_xor 0xFFFF a)
    ++ (bits_of_word b ++ (bits_of_word c ++ (bits_of_word d ++ (bits_of_bytes rest ++ tail)))))
    ≡ remainder (8 * length bytes) (added_to_front (replicate 16 true) (bits_of_bytes bytes ++ tail))
four_words_in bytes one two three rest a b c d tail n1 n2 n3 n4 first second third fourth =
    let behind : List Bool =
    bits_of_word b ++ (bits_of_word c ++ (bits_of_word d ++ (bits_of_bytes rest ++ tail))) in
    let whole : bits_of_bytes bytes ++ tail ≡ bits_of_word a ++ behind =
    first tail ∙ ap (λ l. bits_of_word a ++ l) (second tail
    ∙ ap (λ l. bits_of_word b ++ l) (third tail
    ∙ ap (λ l. bits_of_word c ++ l) (fourth tail))) in
    ap (λ n. remainder n (bits_of_word (bit_xor 0xFFFF a) ++ behind))
    (let e : 256 + 8 * length rest ≡ 8 * length bytes = omega (arith, n1, n2, n3, n4) in e)
    ∙ ap (remainder (8 * length bytes)) (sym (ones_added a behind)
    ∙ ap (added_to_front (replicate 16 true)) (sym whole))

-- ---- words of the rest of a message

-- a word of the rest comes in, and the first goes into the later ones
pub word_in : (front later : Front) (word : ℕ) (rest others : List ℕ)
    → length rest ≡ 8 + length others
    → ((tail : List Bool) → bits_of_bytes rest ++ tail
    ≡ bits_of_word word ++ (bits_of_bytes others ++ tail))
    → ((n : ℕ) (tail : List Bool) → remainder (304 + n) (words_before front (bits_of_word word ++ tail))
    ≡ remainder (240 + n) (words_before later tail))
    → remainder (256 + 8 * length rest) (words_before front (bits_of_bytes rest ++ replicate 16 false))
    ≡ remainder (256 + 8 * length others)
    (words_before later (bits_of_bytes others ++ replicate 16 false))
word_in front later word rest others shorter bits folded =
    let behind : List Bool = bits_of_bytes others ++ replicate 16 false in
    let left : ℕ = 16 + 8 * length others in
    ap (λ l. remainder (256 + 8 * length rest) (words_before front l)) (bits (replicate 16 false))
    ∙ ap (λ j. remainder j (words_before front (bits_of_word word ++ behind)))
    (let e : 256 + 8 * length rest ≡ 304 + left = omega (arith, shorter) in e)
    ∙ folded left behind
    ∙ ap (λ j. remainder j (words_before later behind))
    (let e : 240 + left ≡ 256 + 8 * length others = omega arith in e)

-- ---- four words divided away

no_register : (bits : List Bool) → added_to_front (bits_of 16 0) bits ≡ bits
unfolding bits_of
no_register bits = add_zeros 16 bits

-- four words: two go into the later ones, and these are divided away one after the other
pub four_words_out : (a b c d x y z v r s n : ℕ) (rest : List Bool) →
    ((m : ℕ) (tail : List Bool)
    → remainder (176 + m) (bits_of_word a ++ (bits_of_word b ++ (bits_of_word c ++ tail)))
    ≡ remainder (112 + m) (bits_of_word x ++ (bits_of_word y ++ tail))) →
    ((m : ℕ) (tail : List Bool)
    → remainder (176 + m) (bits_of_word x ++ (bits_of_word y ++ (bits_of_word d ++ tail)))
    ≡ remainder (112 + m) (bits_of_word z ++ (bits_of_word v ++ tail))) →
    ((m : ℕ) (tail : List Bool)
    → remainder (64 + m) (added_to_front (bits_of 16 0) (bits_of_word z ++ tail))
    ≡ remainder m (added_to_front (bits_of 16 r) tail)) →
    ((m : ℕ) (tail : List Bool)
    → remainder (64 + m) (added_to_front (bits_of 16 r) (bits_of_word v ++ tail))
    ≡ remainder m (added_to_front (bits_of 16 s) tail)) →
    remainder (256 + n)
    (bits_of_word a ++ (bits_of_word b ++ (bits_of_word c ++ (bits_of_word d ++ rest))))
    ≡ remainder n (added_to_front (bits_of 16 s) rest)
four_words_out a b c d x y z v r s n rest first second third fourth =
    let last : List Bool = bits_of_word d ++ rest in
    let both : List Bool = bits_of_word z ++ (bits_of_word v ++ rest) in
    ap (λ j. remainder j (bits_of_word a ++ (bits_of_word b ++ (bits_of_word c ++ last))))
    (let e : 256 + n ≡ 176 + (80 + n) = omega arith in e)
    ∙ first (80 + n) last
    ∙ ap (λ j. remainder j (bits_of_word x ++ (bits_of_word y ++ last)))
    (let e : 112 + (80 + n) ≡ 176 + (16 + n) = omega arith in e)
    ∙ second (16 + n) rest
    ∙ ap (remainder (112 + (16 + n))) (sym (no_register both))
    ∙ ap (λ j. remainder j (added_to_front (bits_of 16 0) both))
    (let e : 112 + (16 + n) ≡ 64 + (64 + n) = omega arith in e)
    ∙ third (64 + n) (bits_of_word v ++ rest)
    ∙ fourth n rest
