-- The rules of names and MIME types, and their tests.
use Rattle.std.proofs.Common.{◌≡◌, ℕ, ◌<◌, ◌≤◌, true, false, List, [], ◌∷◌, length, ◌∙◌, sym, ap}
use Rattle.std.proofs.Common.{arith}
use Rattle.std.specs.Prelude.{◌&&◌, ◌==◌, not, nat_lt, bytes_eq}
use Rattle.std.specs.List.{list_all}
use Rattle.std.proofs.lemmas.List.Elements.{All-weaker}
use Rattle.std.proofs.lemmas.List.Sums.{AllPass-from_list_all, list_all-from_AllPass}
use Rattle.std.proofs.lemmas.Str.{IsUtf8-from_is_utf8, is_utf8-from_IsUtf8}
use Rattle.std.proofs.lemmas.Bool.{and_from, and_parts, leb-true, le-leb, ltb-true, lt-ltb}
use Rattle.std.proofs.lemmas.Bool.{false_from_ne_true}
use Rattle.std.proofs.lemmas.Slice.Eq.{bytes_eq-Decides}
use Rattle.mot_numbers.specs.Geometry.{is_within}
use Rattle.mot_objects.specs.Name.{IsMime, is_mime, IsName, is_name}

-- bytes that keep a name's rule, and are not too long, pass its test
pub name_true : (longest : ℕ) (bytes : List ℕ) → IsName bytes → length bytes ≤ longest
    → is_name longest bytes ≡ true
name_true longest bytes is short =
    let within : is_within 1 longest (length bytes) ≡ true =
    and_from _ _ (le-leb 1 (length bytes) is.some) (le-leb (length bytes) longest short) in
    and_from _ _ (and_from _ _ within (is_utf8-from_IsUtf8 bytes is.text))
    (list_all-from_AllPass (λ b. nat_lt 32 b && not (b == 127)) bytes is.printed)

-- bytes that pass a name's test, of at most 255 bytes, keep its rule
pub name_is : (longest : ℕ) (bytes : List ℕ) → longest ≤ 255 → is_name longest bytes ≡ true
    → IsName bytes
name_is longest bytes most is =
    let two = and_parts _ _ is in
    let one = and_parts _ _ two.0 in
    let within = and_parts _ _ one.0 in
    record {
      some = leb-true 1 (length bytes) within.0;
      short = omega (arith, leb-true (length bytes) longest within.1);
      text = IsUtf8-from_is_utf8 bytes one.1;
      printed = AllPass-from_list_all (λ b. nat_lt 32 b && not (b == 127)) bytes two.1;
    }

element : (b : ℕ) → (nat_lt 32 b && nat_lt b 127) ≡ true → is_within 0x21 0x7E b ≡ true
element b e =
    let low : 32 < b = ltb-true 32 b (and_parts _ _ e).0 in
    let high : b < 127 = ltb-true b 127 (and_parts _ _ e).1 in
    and_from _ _ (le-leb 0x21 b (omega arith)) (le-leb b 0x7E (omega arith))

element' : (b : ℕ) → is_within 0x21 0x7E b ≡ true → (nat_lt 32 b && nat_lt b 127) ≡ true
element' b e =
    let low : 33 ≤ b = leb-true 33 b (and_parts _ _ e).0 in
    let high : b ≤ 126 = leb-true b 126 (and_parts _ _ e).1 in
    and_from _ _ (lt-ltb 32 b (omega arith)) (lt-ltb b 127 (omega arith))

-- bytes that keep a MIME type's rule pass its test
pub mime_true : (bytes : List ℕ) → IsMime bytes → is_mime bytes ≡ true
mime_true bytes is =
    let within : is_within 1 64 (length bytes) ≡ true =
    and_from _ _ (le-leb 1 (length bytes) is.some) (le-leb (length bytes) 64 is.short) in
    let all : list_all (is_within 0x21 0x7E) bytes ≡ true =
    list_all-from_AllPass (is_within 0x21 0x7E) bytes
    (All-weaker (λ b. (nat_lt 32 b && nat_lt b 127) ≡ true) (λ b. is_within 0x21 0x7E b ≡ true)
    element bytes is.printed) in
    let other : bytes_eq bytes (45 ∷ []) ≡ false =
    false_from_ne_true (bytes_eq bytes (45 ∷ []))
    (λ e. is.named ((bytes_eq-Decides bytes (45 ∷ [])).0 e)) in
    and_from _ _ (and_from _ _ within all) (ap not other)

-- bytes that pass a MIME type's test keep its rule
pub mime_is : (bytes : List ℕ) → is_mime bytes ≡ true → IsMime bytes
mime_is bytes e =
    let two = and_parts _ _ e in
    let one = and_parts _ _ two.0 in
    let within = and_parts _ _ one.0 in
    record {
      some = leb-true 1 (length bytes) within.0;
      short = leb-true (length bytes) 64 within.1;
      printed = All-weaker (λ b. is_within 0x21 0x7E b ≡ true)
          (λ b. (nat_lt 32 b && nat_lt b 127) ≡ true) element' bytes
          (AllPass-from_list_all (is_within 0x21 0x7E) bytes one.1);
      named = λ is.
          let wrong : false ≡ true =
          sym (ap not ((bytes_eq-Decides bytes (45 ∷ [])).1 is)) ∙ two.1 in cc;
    }
