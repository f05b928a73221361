-- The lines that rebuild a carousel, read.
use Rattle.std.proofs.Common.{◌≡◌, ℕ, zero, suc, ◌^◌, ◌<◌, ◌≤◌, Bool, true, false, cond, List, []}
use Rattle.std.proofs.Common.{◌∷◌, ◌++◌, length, map, Option, Some, None, Result, Ok, refl, sym, ap}
use Rattle.std.proofs.Common.{◌∙◌, subst, arith, append_assoc, length-append, rules}
use Rattle.std.proofs.lemmas.Bool.{le-leb, false_from_ne_true}
use Rattle.std.proofs.lemmas.Bool.Decides.{nat_tests}
use Rattle.std.proofs.lemmas.Fmt.{decimal_nonempty, length-decimal-le, digits_decimal}
use Rattle.std.proofs.lemmas.Fmt.{digits_value-decimal}
use Rattle.std.proofs.lemmas.List.Elements.{All-append, All-cons, All-head, All-nil, All-tail}
use Rattle.std.proofs.lemmas.List.Elements.{All-weaker}
use Rattle.std.proofs.lemmas.List.Splits.{slice_split_at, slice_split_none}
use Rattle.std.proofs.lemmas.List.Sums.{AllPass-from_list_all}
use Rattle.std.proofs.lemmas.Slice.Eq.{bytes_eq-Decides}
use Rattle.std.proofs.lemmas.Str.Parse.{IsNumeralModel, numerals_by_weight}
use Rattle.std.specs.Char.{is_ascii_digit}
use Rattle.std.specs.Fmt.{decimal}
use Rattle.std.specs.List.{AllByRecursion, flat_map, list_all}
use Rattle.std.specs.Prelude.{◌&&◌, ◌==◌, ⊤, All, MatchOption, bytes_eq, codes, nat_eq, nat_lt, not}
use Rattle.hex.proofs.HexLemmas.{decode_of-encode_lower, decode_of-ok, length-encode_with}
use Rattle.hex.specs.Hex.{IsBytes, decode_of, encode_lower, is_hex_digit, lower_digits}
use Rattle.mot_groups.specs.Entity.{all_but_last}
use Rattle.mot_lines.specs.declared.line.Line.{Line}
use Rattle.mot_lines.specs.declared.line.Line.TheVariants.{Command}
use Rattle.mot_lines.specs.Export.{ExportsAskForTheirCommands, front_words, period_line, put_line}
use Rattle.mot_lines.specs.Fields.{body_in, content_in, mime_in, name_in, decimal_value}
use Rattle.mot_lines.specs.Fields.{number_of_word, words_of}
use Rattle.mot_lines.specs.Line.{description_of, line_of, period_of, put_of, request_of}
use Rattle.mot_lines.specs.Lines.{HasNoLineEnd, last_of, lines_of, pieces_between, rest_of}
use Rattle.mot_lines.specs.Lines.{unless_empty, whole_lines}
use Rattle.mot_lines.specs.Listing.{mime_word}
use Rattle.mot_lines.proofs.Input.{some_piece}
use Rattle.mot_lines.proofs.Numbers.{number_of_digits}
use Rattle.mot_lines.proofs.Requests.{line_of-short, request_of-first}
use Rattle.mot_numbers.specs.declared.refusal.Refusal.{Refusal}
use Rattle.mot_objects.specs.Carousel.{Object, put_again, set_period_again, KeepsRules}
use Rattle.mot_objects.specs.Name.{ContentNumbers, IsMime, IsName}
use Rattle.mot_objects.specs.declared.command.Command as command
use Rattle.mot_objects.specs.declared.command.Command.TheVariants.{Period}
use Rattle.mot_objects.proofs.Laws.{mime_true, name_true}

-- ---- words: all bytes are above the space

abbrev IsPrinted : List ℕ → Type 0
IsPrinted word = All (λ b. 32 < b) word

no-space : (b : ℕ) → 32 < b → nat_eq b 32 ≡ false
no-space b h = grind (arith, nat_tests)

no-end : (b : ℕ) → 32 < b → nat_eq b 10 ≡ false
no-end b h = grind (arith, nat_tests)

-- a word, and others behind it, each after a space
abbrev joined : List ℕ → List (List ℕ) → List ℕ
joined word [] = word
joined word (next ∷ words) = word ++ 32 ∷ joined next words

spaceless : (word : List ℕ) → IsPrinted word → All (λ b. nat_eq b 32 ≡ false) word
spaceless word h = All-weaker (λ b. 32 < b) (λ b. nat_eq b 32 ≡ false) no-space word h

joined-words : (word : List ℕ) (words : List (List ℕ)) → IsPrinted word
    → AllByRecursion IsPrinted words
    → words_of (joined word words) ≡ word ∷ words
joined-words word [] h all = slice_split_none (λ b. nat_eq b 32) word (spaceless word h)
joined-words word (next ∷ words) h all =
    slice_split_at (λ b. nat_eq b 32) word 32 (joined next words) (spaceless word h) refl
    ∙ ap (λ l. word ∷ l) (joined-words next words all.0 all.1)

-- and no byte of it ends a line
endless : (word : List ℕ) → IsPrinted word → HasNoLineEnd word
endless word h = All-weaker (λ b. 32 < b) (λ b. nat_eq b 10 ≡ false) no-end word h

joined-endless : (word : List ℕ) (words : List (List ℕ)) → IsPrinted word
    → AllByRecursion IsPrinted words
    → HasNoLineEnd (joined word words)
joined-endless word [] h all = endless word h
joined-endless word (next ∷ words) h all =
    All-append (λ b. nat_eq b 10 ≡ false) word (32 ∷ joined next words) (endless word h)
    (All-cons (λ b. nat_eq b 10 ≡ false) 32 (joined next words) refl
    (joined-endless next words all.0 all.1))

-- ---- numbers

digits-model : IsNumeralModel (λ ds. list_all is_ascii_digit ds ≡ true) decimal_value
digits-model = numerals_by_weight _ (search rules) decimal_value (search rules)

number-back : (n : ℕ) → n < 10 ^ 10 → number_of_word (decimal n) ≡ Some n
number-back n h =
    number_of_digits (decimal n) (decimal_nonempty n (omega arith))
    (length-decimal-le 10 n (omega arith) h (omega arith))
    (digits_decimal digits-model n (omega arith))
    ∙ ap Some (digits_value-decimal digits-model n (omega arith))

digit-printed : (b : ℕ) → is_ascii_digit b ≡ true → 32 < b
digit-printed b e = grind (arith, nat_tests)

number-printed : (n : ℕ) → n < 10 ^ 10 → IsPrinted (decimal n)
number-printed n h =
    All-weaker (λ b. is_ascii_digit b ≡ true) (λ b. 32 < b) digit-printed (decimal n)
    (AllPass-from_list_all is_ascii_digit (decimal n) (digits_decimal digits-model n (omega arith)))

-- ---- hexadecimal digits

hex-printed : (b : ℕ) → is_hex_digit b ≡ true → 32 < b
hex-printed b e = grind (arith, nat_tests)

bytes-at : (bytes : List ℕ) → All (λ b. b < 256) bytes → IsBytes bytes
bytes-at [] h i = omega arith
bytes-at (b ∷ bytes) h zero = All-head (λ x. x < 256) b bytes h
bytes-at (b ∷ bytes) h (suc i) = bytes-at bytes (All-tail (λ x. x < 256) b bytes h) i

body-printed : (body : List ℕ) → IsBytes body → IsPrinted (encode_lower body)
body-printed body h =
    All-weaker (λ b. is_hex_digit b ≡ true) (λ b. 32 < b) hex-printed (encode_lower body)
    (decode_of-ok (encode_lower body) body (decode_of-encode_lower body h)).1

-- ---- names and MIME types

name-printed : (name : List ℕ) → IsName name → IsPrinted name
name-printed name is =
    All-weaker (λ b. (nat_lt 32 b && not (b == 127)) ≡ true) (λ b. 32 < b)
    (λ b e. grind (arith, nat_tests))
    name is.printed

mime-printed : (mime : Option (List ℕ)) → MatchOption mime ⊤ IsMime → IsPrinted (mime_word mime)
mime-printed None is = All-cons (λ b. 32 < b) 45 [] (omega arith) (All-nil (λ b. 32 < b))
mime-printed (Some mime) is =
    All-weaker (λ b. (nat_lt 32 b && nat_lt b 127) ≡ true) (λ b. 32 < b)
    (λ b e. grind (arith, nat_tests))
    mime is.printed

-- ---- the words of a put line

regroup : (c : ℕ) (put name kind subtype mime hex : List ℕ)
    → put ++ name ++ c ∷ [] ++ (kind ++ c ∷ [] ++ (subtype ++ c ∷ [])) ++ (mime ++ c ∷ []) ++ hex
    ≡ put ++ (name ++ c ∷ (kind ++ c ∷ (subtype ++ c ∷ (mime ++ c ∷ hex))))
regroup c put name kind subtype mime hex = simp append_assoc

abbrev put_words : Object → List ℕ
put_words o = front_words o.name o.content o.mime ++ encode_lower o.body

-- the words behind the first
abbrev other_words : Object → List (List ℕ)
other_words o =
    o.name ∷ decimal o.content.content_type ∷ decimal o.content.subtype ∷ mime_word o.mime
    ∷ encode_lower o.body ∷ []

put_words-joined : (o : Object) → put_words o ≡ joined (codes "put") (other_words o)
put_words-joined o =
    regroup 32 (codes "put ") o.name (decimal o.content.content_type) (decimal o.content.subtype)
    (mime_word o.mime) (encode_lower o.body)

tested : (word : List ℕ) → list_all (λ b. nat_lt 32 b) word ≡ true → IsPrinted word
tested word e =
    All-weaker (λ b. nat_lt 32 b ≡ true) (λ b. 32 < b) (λ b h. grind (arith, nat_tests)) word
    (AllPass-from_list_all (λ b. nat_lt 32 b) word e)

name-read : (name : List ℕ) → IsName name → name_in name ≡ Ok name
unfolding name_in
name-read name is = rw (name_true 255 name is is.short) refl

content-read : (c : ContentNumbers) → c.content_type ≤ 63 → c.subtype ≤ 511
    → content_in (number_of_word (decimal c.content_type)) (number_of_word (decimal c.subtype))
    ≡ Ok c
content-read c kind subtype =
    rw (
      number-back c.content_type (omega (arith, kind)),
      number-back c.subtype (omega (arith, subtype)),
      le-leb c.content_type 63 kind,
      le-leb c.subtype 511 subtype,
    ) refl

mime-read : (mime : Option (List ℕ)) → MatchOption mime ⊤ IsMime
    → mime_in (mime_word mime) ≡ Ok mime
unfolding mime_in
mime-read None is = refl
mime-read (Some mime) is =
    rw (
      mime_true mime is,
      false_from_ne_true (bytes_eq mime (codes "-"))
          (λ e. is.named ((bytes_eq-Decides mime (45 ∷ [])).0 e)),
    ) refl

body-read : (body : List ℕ) → 1 ≤ length body → length body ≤ 262144 → IsBytes body
    → body_in (decode_of (encode_lower body)) ≡ Ok body
body-read [] some few is = absurd (omega (arith, some))
body-read (b ∷ bytes) some few is =
    ap body_in (decode_of-encode_lower (b ∷ bytes) is)
    ∙ rw (le-leb (length (b ∷ bytes)) 262144 few) refl

mime-short : (mime : Option (List ℕ)) → MatchOption mime ⊤ IsMime → length (mime_word mime) ≤ 64
mime-short None is = omega arith
mime-short (Some mime) is = is.short

joined-short : (name kind subtype mime hex : List ℕ) → length name ≤ 255 → length kind ≤ 10
    → length subtype ≤ 10
    → length mime ≤ 64 → length hex ≤ 524288
    → length (joined (codes "put") (name ∷ kind ∷ subtype ∷ mime ∷ hex ∷ [])) ≤ 530000
joined-short name kind subtype mime hex a b c d e =
    omega (
      arith,
      length-append name (32 ∷ (kind ++ 32 ∷ (subtype ++ 32 ∷ (mime ++ 32 ∷ hex)))),
      length-append kind (32 ∷ (subtype ++ 32 ∷ (mime ++ 32 ∷ hex))),
      length-append subtype (32 ∷ (mime ++ 32 ∷ hex)),
      length-append mime (32 ∷ hex),
      a,
      b,
      c,
      d,
      e,
    )

module _ (o : Object) (is : KeepsRules o) where
  kind-few : o.content.content_type < 10 ^ 10
  kind-few = let h : o.content.content_type ≤ 63 = is.content.0 in omega (arith, h)

  subtype-few : o.content.subtype < 10 ^ 10
  subtype-few = let h : o.content.subtype ≤ 511 = is.content.1 in omega (arith, h)

  put-printed : AllByRecursion IsPrinted (other_words o)
  put-printed = (
    name-printed o.name is.name,
    (
      number-printed o.content.content_type kind-few,
      (
        number-printed o.content.subtype subtype-few,
        (
          mime-printed o.mime is.mime,
          (body-printed o.body (bytes-at o.body is.bytes), tt),
        ),
      ),
    ),
  )

  put-words : words_of (put_words o) ≡ codes "put" ∷ other_words o
  put-words =
      ap words_of (put_words-joined o)
      ∙ joined-words (codes "put") (other_words o) (tested (codes "put") refl) put-printed

  put-endless : HasNoLineEnd (put_words o)
  put-endless =
      subst HasNoLineEnd (sym (put_words-joined o))
      (joined-endless (codes "put") (other_words o) (tested (codes "put") refl) put-printed)

  put-described : put_of (other_words o) ≡ Ok (Command (put_again o))
  unfolding description_of
  put-described =
      rw (
        name-read o.name is.name,
        content-read o.content is.content.0 is.content.1,
        mime-read o.mime is.mime,
        body-read o.body is.size.0 is.size.1 (bytes-at o.body is.bytes),
      ) refl

  put-short : length (put_words o) ≤ 530000
  put-short =
      subst (λ l. length l ≤ 530000) (sym (put_words-joined o))
      (joined-short o.name (decimal o.content.content_type) (decimal o.content.subtype)
      (mime_word o.mime)
      (encode_lower o.body) is.name.short
      (length-decimal-le 10 o.content.content_type (omega arith) kind-few (omega (arith, kind-few)))
      (length-decimal-le 10 o.content.subtype (omega arith) subtype-few
      (omega (arith, subtype-few)))
      (mime-short o.mime is.mime)
      (let size = is.size.1 in let e = length-encode_with lower_digits o.body in
      omega (arith, size, e)))

  put-asks : line_of (put_words o) ≡ Ok (Command (put_again o))
  put-asks =
      line_of-short (put_words o) put-short ∙ ap request_of put-words
      ∙ request_of-first (codes "put") (other_words o) ∙ put-described

-- ---- the words of a period line

abbrev period_words : ℕ → List ℕ
period_words n = codes "period " ++ decimal n

module _ (n : ℕ) (few : n ≤ 16777215) where
  period-few : n < 10 ^ 10
  period-few = omega (arith, few)

  period-words : words_of (period_words n) ≡ codes "period" ∷ decimal n ∷ []
  period-words =
      joined-words (codes "period") (decimal n ∷ []) (tested (codes "period") refl)
      (number-printed n period-few, tt)

  period-endless : HasNoLineEnd (period_words n)
  period-endless =
      joined-endless (codes "period") (decimal n ∷ []) (tested (codes "period") refl)
      (number-printed n period-few, tt)

  period-set : period_of (decimal n ∷ []) ≡ Ok (Command (Period n))
  period-set = rw (number-back n period-few, le-leb n 16777215 few) refl

  period-short : length (period_words n) ≤ 530000
  period-short =
      let h = length-decimal-le 10 n (omega arith) period-few (omega (arith, few)) in
      omega (arith, h)

  period-asks : line_of (period_words n) ≡ Ok (Command (Period n))
  period-asks =
      line_of-short (period_words n) period-short ∙ ap request_of period-words
      ∙ request_of-first (codes "period") (decimal n ∷ []) ∙ period-set

-- ---- lines

first-line : (line : List ℕ) (pieces : List (List ℕ)) → 0 < length pieces
    → all_but_last (line ∷ pieces) ++ unless_empty (last_of (line ∷ pieces))
    ≡ line ∷ (all_but_last pieces ++ unless_empty (last_of pieces))
first-line line [] some = absurd (omega (arith, some))
first-line line (piece ∷ pieces) some = refl

lines_of-first : (line rest : List ℕ) → HasNoLineEnd line
    → lines_of (line ++ 10 ∷ rest) ≡ line ∷ lines_of rest
unfolding lines_of whole_lines rest_of
lines_of-first line rest h =
    ap (λ pieces. all_but_last pieces ++ unless_empty (last_of pieces))
    (slice_split_at (λ b. nat_eq b 10) line 10 rest h refl)
    ∙ first-line line (pieces_between rest) (some_piece rest)

lines_of-none : lines_of [] ≡ []
unfolding lines_of whole_lines rest_of
lines_of-none = refl

abbrev asked : List ℕ → List (Result Line Refusal)
asked text = map line_of (lines_of text)

abbrev asks_for : command.Command → Result Line Refusal
asks_for k = Ok (Command k)

asked-first : (line rest : List ℕ) (k : command.Command) → HasNoLineEnd line
    → line_of line ≡ asks_for k
    → asked (line ++ 10 ∷ rest) ≡ asks_for k ∷ asked rest
asked-first line rest k h e =
    ap (map line_of) (lines_of-first line rest h) ∙ ap (λ r. r ∷ asked rest) e

asked-period : (n : ℕ) (none : Bool) → n ≤ 16777215
    → asked (cond none [] (period_words n ++ 10 ∷ []))
    ≡ map asks_for (cond none [] (Period n ∷ []))
asked-period n true few = ap (map line_of) lines_of-none
asked-period n false few =
    asked-first (period_words n) [] (Period n) (period-endless n few) (period-asks n few)
    ∙ ap (λ l. asks_for (Period n) ∷ map line_of l) lines_of-none

asked-puts : (objects : List Object) (n : ℕ) → AllByRecursion KeepsRules objects → n ≤ 16777215
    → asked (flat_map put_line objects ++ period_line n)
    ≡ map asks_for (map put_again objects ++ set_period_again n)
asked-puts [] n all few = asked-period n (n == 0) few
asked-puts (o ∷ objects) n all few =
    let rest : List ℕ = flat_map put_line objects in
    ap asked (
    append_assoc (put_line o) rest (period_line n)
    ∙ append_assoc (put_words o) (10 ∷ []) (rest ++ period_line n))
    ∙ asked-first (put_words o) (rest ++ period_line n) (put_again o) (put-endless o all.0)
    (put-asks o all.0)
    ∙ ap (λ l. asks_for (put_again o) ∷ l) (asked-puts objects n all.1 few)

-- the lines that rebuild a carousel ask for the commands that rebuild it
pub export_laws : ExportsAskForTheirCommands
export_laws c is = asked-puts c.objects c.period is.objects is.period
