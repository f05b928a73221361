-- What lines ask for.
use Rattle.std.proofs.Common.{◌≡◌, ◌∙◌, ℕ, ◌+◌, ◌<◌, ◌≤◌, Bool, true, false, List, [], ◌∷◌, length}
use Rattle.std.proofs.Common.{Ok, Err, refl, sym, ap, arith}
use Rattle.std.specs.Prelude.{nat_le}
use Rattle.std.proofs.lemmas.Bool.{lt-leb, le-leb, leb-true, leb-false}
use Rattle.std.proofs.lemmas.List.{length-take, take_all}
use Rattle.mot_lines.specs.declared.line.TheConstants.{MAX_LINE}
use Rattle.mot_lines.specs.Lines.{bytes_in_hand}
use Rattle.hex.specs.Hex.{decode_of}
use Rattle.mot_lines.specs.declared.line.Line.TheVariants.{Raw}
use Rattle.mot_lines.specs.Fields.{kind_in, number_to, segment_in, number_of_word, words_of}
use Rattle.mot_lines.specs.Line.{asked_by, line_of, raw_of, request_of}
use Rattle.mot_lines.specs.Verb.{verb_of}
use Rattle.mot_numbers.specs.declared.group_kind.GroupKind.{GroupKind}
use Rattle.mot_numbers.specs.declared.refusal.Refusal.{Refusal}
use Rattle.mot_numbers.specs.declared.refusal.Refusal.TheVariants.{BadLine}

module _ (words : List (List ℕ)) (kind tid hex : List ℕ)
    (three : words ≡ kind ∷ tid ∷ hex ∷ []) where
  -- a raw line whose type is refused is refused for it
  pub raw_of-kind : (r : Refusal) → Err r ≡ kind_in (number_of_word kind) → Err r ≡ raw_of words
  unfolding raw_of
  raw_of-kind r e = rw (three, ← e) refl

  -- a raw line whose id is refused, behind a type that is none, is refused for it
  pub raw_of-tid : (k : GroupKind) (r : Refusal) → Ok k ≡ kind_in (number_of_word kind)
      → Err r ≡ number_to 65535 (number_of_word tid) → Err r ≡ raw_of words
  unfolding raw_of
  raw_of-tid k r e f = rw (three, ← e, ← f) refl

  -- a raw line whose bytes are refused, behind a type and an id, is refused for them
  pub raw_of-hex : (k : GroupKind) (t : ℕ) (r : Refusal) → Ok k ≡ kind_in (number_of_word kind)
      → Ok t ≡ number_to 65535 (number_of_word tid) → Err r ≡ segment_in (decode_of hex)
      → Err r ≡ raw_of words
  unfolding raw_of
  raw_of-hex k t r e f g = rw (three, ← e, ← f, ← g) refl

  -- a raw line of a type, an id and bytes asks for their group
  pub raw_of-all : (k : GroupKind) (t : ℕ) (body : List ℕ) → Ok k ≡ kind_in (number_of_word kind)
      → Ok t ≡ number_to 65535 (number_of_word tid) → Ok body ≡ segment_in (decode_of hex)
      → Ok (Raw k t body) ≡ raw_of words
  unfolding raw_of
  raw_of-all k t body e f g = rw (three, ← e, ← f, ← g) refl

-- a line that is too long is no request
pub line_of-long : (line : List ℕ) → MAX_LINE < length line → line_of line ≡ Err BadLine
unfolding line_of
line_of-long line h = rw (lt-leb (length line) MAX_LINE h) refl

-- a line that is not too long asks for what its words do
pub line_of-short : (line : List ℕ) → length line ≤ MAX_LINE
    → line_of line ≡ request_of (words_of line)
unfolding line_of
line_of-short line h = rw (le-leb (length line) MAX_LINE h) refl

in_hand-cases : (line : List ℕ) (b : Bool) → nat_le (length line) MAX_LINE ≡ b
    → line_of (bytes_in_hand line) ≡ line_of line
in_hand-cases line true e =
    let short = leb-true (length line) MAX_LINE e in
    ap line_of (take_all (MAX_LINE + 1) line (omega arith))
in_hand-cases line false e =
    let long = leb-false (length line) MAX_LINE e in
    line_of-long (bytes_in_hand line) (omega (arith, length-take (MAX_LINE + 1) line))
    ∙ sym (line_of-long line long)

-- what is kept of a line in hand asks for what the line asks for
pub line_of-in_hand : (line : List ℕ) → line_of (bytes_in_hand line) ≡ line_of line
line_of-in_hand line = in_hand-cases line (nat_le (length line) MAX_LINE) refl

-- the words of a line ask for what the first one says
pub request_of-first : (first : List ℕ) (words : List (List ℕ))
    → request_of (first ∷ words) ≡ asked_by (verb_of first) words
unfolding request_of
request_of-first first words = refl
