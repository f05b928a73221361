-- What the lines of a text say of suffixes, one after the other.
use Rattle.std.proofs.Common.{◌≡◌, ◌∙◌, ◌++◌, ◌+◌, ◌≤◌, ◌==◌, ℕ, List, [], ◌∷◌, Option, None}
use Rattle.std.proofs.Common.{Result, Ok, Err, append-nil, append_assoc, ap, arith, length, not}
use Rattle.std.proofs.Common.{refl, sym, length-append}
use Rattle.std.proofs.lemmas.List.Elements.{filter-append}
use Rattle.std.proofs.lemmas.List.Splits.{slice_split_at, slice_split_none}
use Rattle.mot_lines.specs.Lines.{HasNoLineEnd, pieces_between}
use Rattle.mot_numbers.specs.declared.refusal.Refusal.{Refusal}
use Rattle.mot_suffixes.specs.Inner.{AddsLine, RefusesLine}
use Rattle.mot_suffixes.specs.Types.{StopsAtLine, SuffixType, refusal_before, refusal_in}
use Rattle.mot_suffixes.specs.Types.{refusal_of_lines, says_nothing, that_say, type_before, type_in}
use Rattle.mot_suffixes.specs.Types.{types_in, types_of_lines}

-- ---- lines that are right, and others behind them

right-refusal : (said : Result SuffixType Refusal) (lines all others : Option Refusal)
    → refusal_before said lines ≡ None → (lines ≡ None → all ≡ others)
    → refusal_before said all ≡ others
right-refusal (Ok type) lines all others e f = f e
right-refusal (Err refusal) lines all others e f = absurd (cc)

right-types : (said : Result SuffixType Refusal) (lines : Option Refusal)
    (all types others : List SuffixType) → refusal_before said lines ≡ None
    → (lines ≡ None → all ≡ types ++ others)
    → type_before said all ≡ type_before said types ++ others
right-types (Ok type) lines all types others e f = ap (λ ts. type ∷ ts) (f e)
right-types (Err refusal) lines all types others e f = absurd (cc)

-- behind lines that are right, others are refused as they are alone
pub refusal-right : (lines others : List (List ℕ)) → refusal_of_lines lines ≡ None
    → refusal_of_lines (lines ++ others) ≡ refusal_of_lines others
refusal-right [] others e = refl
refusal-right (line ∷ lines) others e =
    right-refusal (type_in line) (refusal_of_lines lines) (refusal_of_lines (lines ++ others))
    (refusal_of_lines others) e (refusal-right lines others)

-- and what they say follows
pub types-right : (lines others : List (List ℕ)) → refusal_of_lines lines ≡ None
    → types_of_lines (lines ++ others) ≡ types_of_lines lines ++ types_of_lines others
types-right [] others e = refl
types-right (line ∷ lines) others e =
    right-types (type_in line) (refusal_of_lines lines) (types_of_lines (lines ++ others))
    (types_of_lines lines) (types_of_lines others) e (types-right lines others)

-- ---- the lines of a text

-- the text up to the rest, and so to the line of this number, was gone over: what its lines say was
-- added, and none was refused
pub record IsGoneOver (start now : List SuffixType) (text rest : List ℕ) (number : ℕ)
    : Type 0 where
  pub before : List (List ℕ)
  pub split : pieces_between text ≡ before ++ pieces_between rest
  pub counted : number ≡ length before + 1
  pub short : length before + length rest ≤ length text
  pub right : refusal_of_lines (that_say before) ≡ None
  pub added : now ≡ start ++ types_of_lines (that_say before)

-- a line, and what follows its end
pub pieces-line : (rest line others : List ℕ) → rest ≡ line ++ 10 ∷ others → HasNoLineEnd line
    → pieces_between rest ≡ line ∷ pieces_between others
pieces-line rest line others parts none =
    ap pieces_between parts ∙ slice_split_at (λ b. b == 10) line 10 others none refl

-- the last line
pub pieces-last : (line : List ℕ) → HasNoLineEnd line → pieces_between line ≡ line ∷ []
pieces-last line none = slice_split_none (λ b. b == 10) line none

module _ (start now : List SuffixType) (text rest line : List ℕ) (number : ℕ)
    (behind : List (List ℕ)) (over : IsGoneOver start now text rest number)
    (is : pieces_between rest ≡ line ∷ behind) where
  split : pieces_between text ≡ over.before ++ line ∷ behind
  split = over.split ∙ ap (λ l. over.before ++ l) is

  whole : pieces_between text ≡ (over.before ++ line ∷ []) ++ behind
  whole = split ∙ sym (append_assoc over.before (line ∷ []) behind)

  said : that_say (over.before ++ line ∷ []) ≡ that_say over.before ++ that_say (line ∷ [])
  said = filter-append (λ l. not (says_nothing l)) over.before (line ∷ [])

  module _ (new : List SuffixType) (one : AddsLine now new line) where
    right : refusal_of_lines (that_say (over.before ++ line ∷ [])) ≡ None
    right = ap refusal_of_lines said
        ∙ refusal-right (that_say over.before) (that_say (line ∷ [])) over.right ∙ one.right

    added : new ≡ start ++ types_of_lines (that_say (over.before ++ line ∷ []))
    added = one.added ∙ ap (λ l. l ++ types_of_lines (that_say (line ∷ []))) over.added
        ∙ append_assoc start (types_of_lines (that_say over.before))
        (types_of_lines (that_say (line ∷ [])))
        ∙ ap (λ l. start ++ l)
        (sym (types-right (that_say over.before) (that_say (line ∷ [])) over.right))
        ∙ ap (λ l. start ++ types_of_lines l) (sym said)

    -- one line more was gone over
    pub gone_over-line : (others : List ℕ) → behind ≡ pieces_between others
        → rest ≡ line ++ 10 ∷ others → IsGoneOver start new text others (number + 1)
    gone_over-line others are parts =
        let longer = length-append over.before (line ∷ []) in
        let rest_length = ap length parts ∙ length-append line (10 ∷ others) in
        record {
          before = over.before ++ line ∷ [];
          split = whole ∙ ap (λ l. (over.before ++ line ∷ []) ++ l) are;
          counted = omega (arith, longer, over.counted);
          short = omega (arith, longer, rest_length, over.short);
          right = right;
          added = added;
        }

    -- no line follows
    all : behind ≡ [] → pieces_between text ≡ over.before ++ line ∷ []
    all none = whole ∙ ap (λ l. (over.before ++ line ∷ []) ++ l) none
        ∙ append-nil (over.before ++ line ∷ [])

    pub gone_over-right : behind ≡ [] → refusal_in text ≡ None
    gone_over-right none = ap (λ l. refusal_of_lines (that_say l)) (all none) ∙ right

    pub gone_over-added : behind ≡ [] → new ≡ start ++ types_in text
    gone_over-added none =
        added ∙ ap (λ l. start ++ types_of_lines (that_say l)) (sym (all none))

  -- the line is not added
  pub gone_over-stops : (new : List SuffixType) (at : ℕ) (refusal : Refusal) → at ≡ number
      → RefusesLine now new line refusal → StopsAtLine start new text at refusal
  gone_over-stops new at refusal is_number stops = record {
    before = over.before;
    line = line;
    behind = behind;
    split = split;
    counted = is_number ∙ over.counted;
    right = over.right;
    added = stops.same ∙ over.added;
    why = stops.why;
  }
