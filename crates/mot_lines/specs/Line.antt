-- What a line asks for.
use Rattle.std.specs.Prelude.{⊤, ℕ, ◌≡◌, ◌⊎◌, nat_le, if◌then◌else◌, List, [], ◌∷◌, length, Result}
use Rattle.std.specs.Prelude.{Ok, Err, Option, Some, None}
use Rattle.hex.specs.Hex.{decode_of}
use Rattle.mot_lines.specs.Fields.{kind_in, number_to, segment_in, name_in, content_in, mime_in}
use Rattle.mot_lines.specs.Fields.{body_in, period_in, words_of, number_of_word}
use Rattle.mot_lines.specs.Verb.{verb_of}
use Rattle.mot_lines.specs.declared.line.TheConstants.{MAX_LINE, MAX_PACKETS}
use Rattle.mot_objects.specs.declared.command.Item.{Item}
use Rattle.mot_lines.specs.declared.line.Line.{Line}
use Rattle.mot_lines.specs.declared.line.Line.TheVariants.{Raw, Command}
use Rattle.mot_lines.specs.declared.line.Line.TheVariants as asks
use Rattle.mot_lines.specs.declared.line.verb.Verb.{Verb}
use Rattle.mot_lines.specs.declared.line.verb.Verb.TheVariants as verb
use Rattle.mot_numbers.specs.Refusal.{◌>>=◌}
use Rattle.mot_numbers.specs.declared.refusal.Refusal.{Refusal}
use Rattle.mot_numbers.specs.declared.refusal.Refusal.TheVariants.{OutOfMemory, BadLine}
use Rattle.mot_objects.specs.declared.command.Command.TheVariants.{Put, Replace, Withdraw, Period}

-- the words of a `raw` line, after its first: TYPE TID HEX, where TID is 1 to 65,535
unfoldable pub raw_of : List (List ℕ) → Result Line Refusal
raw_of (kind ∷ tid ∷ hex ∷ []) = do
  k ← kind_in (number_of_word kind)
  t ← number_to 65535 (number_of_word tid)
  body ← segment_in (decode_of hex)
  Ok (Raw k t body)
raw_of words = Err BadLine

-- the words of a `put` or `replace` line, after its first: NAME TYPE SUBTYPE MIME HEX
unfoldable pub description_of : List (List ℕ) → Result Item Refusal
description_of (name ∷ kind ∷ subtype ∷ mime ∷ hex ∷ []) = do
  n ← name_in name
  c ← content_in (number_of_word kind) (number_of_word subtype)
  m ← mime_in mime
  b ← body_in (decode_of hex)
  Ok (record { name = n; content = c; mime = m; body = b })
description_of words = Err BadLine

abbrev pub put_of : List (List ℕ) → Result Line Refusal
put_of words = do
  d ← description_of words
  Ok (Command (Put d.name d.content d.mime d.body))

abbrev pub replace_of : List (List ℕ) → Result Line Refusal
replace_of words = do
  d ← description_of words
  Ok (Command (Replace d.name d.content d.mime d.body))

-- the words of a `withdraw` line, after its first: NAME
abbrev pub withdraw_of : List (List ℕ) → Result Line Refusal
withdraw_of (name ∷ []) = do
  n ← name_in name
  Ok (Command (Withdraw n))
withdraw_of words = Err BadLine

-- the words of a `period` line, after its first: N
abbrev pub period_of : List (List ℕ) → Result Line Refusal
period_of (number ∷ []) = do
  n ← period_in (number_of_word number)
  Ok (Command (Period n))
period_of words = Err BadLine

-- a `list` and a `turn` line have no words after their first
abbrev pub alone_of : Line → List (List ℕ) → Result Line Refusal
alone_of line [] = Ok line
alone_of line (word ∷ words) = Err BadLine

-- the words of a `next` line, after its first: N, which says how many packets, 1 to 100,000
abbrev pub next_of : List (List ℕ) → Result Line Refusal
next_of (number ∷ []) = do
  n ← number_to MAX_PACKETS (number_of_word number)
  Ok (asks.Next n)
next_of words = Err BadLine

-- what the words after the first one ask for
abbrev pub asked_by : Option Verb → List (List ℕ) → Result Line Refusal
asked_by (Some verb.Raw) words = raw_of words
asked_by (Some verb.Put) words = put_of words
asked_by (Some verb.Replace) words = replace_of words
asked_by (Some verb.Withdraw) words = withdraw_of words
asked_by (Some verb.Period) words = period_of words
asked_by (Some verb.List) words = alone_of asks.List words
asked_by (Some verb.Next) words = next_of words
asked_by (Some verb.Turn) words = alone_of asks.Turn words
asked_by None words = Err BadLine

-- words ask for what their first one says
unfoldable pub request_of : List (List ℕ) → Result Line Refusal
request_of [] = Err BadLine
request_of (first ∷ words) = asked_by (verb_of first) words

-- what a line of at most 530,000 bytes asks for, or why it is refused
unfoldable pub line_of : List ℕ → Result Line Refusal
line_of bytes = if nat_le (length bytes) MAX_LINE then request_of (words_of bytes) else Err BadLine

-- What a line asks for takes memory where it is a command or a raw line's packets; and a line that
-- is refused may have taken some for the words before the one that is wrong. A list, a `next` and a
-- `turn` line take none.
abbrev pub NeedsMemory : Result Line Refusal → Type 0
NeedsMemory (Err r) = ⊤
NeedsMemory (Ok (Command c)) = ⊤
NeedsMemory (Ok (Raw kind tid body)) = ⊤
NeedsMemory (Ok asks.List) = ⊥
NeedsMemory (Ok (asks.Next count)) = ⊥
NeedsMemory (Ok asks.Turn) = ⊥

-- what a line asks for, but where that takes memory a growth that is refused may stand in its place
abbrev pub IsParsed : Result Line Refusal → Result Line Refusal → Type 0
IsParsed result request = (result ≡ request) ⊎ ((result ≡ Err OutOfMemory) × NeedsMemory request)
