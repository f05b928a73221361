-- Which files of a folder are objects, and what they are.
use Rattle.std.specs.Prelude.{◌≡◌, ◌==◌, ◌⊎◌, ◌||◌, ◌+◌, ℕ, Bool, true, false, not, if◌then◌else◌}
use Rattle.std.specs.Prelude.{List, [], ◌∷◌, ◌++◌, bytes_eq, codes, filter, length, Option, Some}
use Rattle.std.specs.Prelude.{None, Result, Ok, Err}
use Rattle.std.specs.List.{AllByRecursion, list_any}
use Rattle.std.specs.Option.{option_or}
use Rattle.std.specs.Str.{str_eq_ignore_ascii_case}
use Rattle.mot_lines.specs.Fields.{content_in, number_of_word, words_of}
use Rattle.mot_numbers.specs.Refusal.{◌>>=◌}
use Rattle.mot_lines.specs.Lines.{pieces_between}
use Rattle.mot_numbers.specs.Reading as reading
use Rattle.mot_numbers.specs.declared.refusal.Refusal.{Refusal}
use Rattle.mot_numbers.specs.declared.refusal.Refusal.TheVariants.{BadLine, BadMime, BadName}
use Rattle.mot_numbers.specs.declared.refusal.Refusal.TheVariants.{BadType, OutOfMemory}
use Rattle.mot_objects.specs.Name.{ContentNumbers, is_mime}

-- what files of a suffix are
pub record SuffixType : Type 0 where
  pub suffix : List ℕ
  pub content : ContentNumbers
  pub mime : Option (List ℕ)

abbrev pub suffix_type : List ℕ → ℕ → ℕ → List ℕ → SuffixType
suffix_type suffix kind subtype mime = record {
  suffix = suffix;
  content = record { content_type = kind; subtype = subtype };
  mime = Some mime;
}

-- the known ones (TS 101 756, table 17)
abbrev pub known_types : List SuffixType
known_types =
    suffix_type (codes "txt") 1 0 (codes "text/plain")
    ∷ suffix_type (codes "html") 1 2 (codes "text/html")
    ∷ suffix_type (codes "htm") 1 2 (codes "text/html")
    ∷ suffix_type (codes "xml") 0 1 (codes "text/xml")
    ∷ suffix_type (codes "gif") 2 0 (codes "image/gif")
    ∷ suffix_type (codes "jpg") 2 1 (codes "image/jpeg")
    ∷ suffix_type (codes "jpeg") 2 1 (codes "image/jpeg")
    ∷ suffix_type (codes "bmp") 2 2 (codes "image/bmp")
    ∷ suffix_type (codes "png") 2 3 (codes "image/png")
    ∷ []

-- SUFFIX: at least one byte, and no dot
abbrev pub suffix_in : List ℕ → Result (List ℕ) Refusal
suffix_in word =
    if reading.is_empty word || list_any (λ b. b == 46) word then Err BadName else Ok word

-- MIME: 1 to 64 bytes 0x21 to 0x7E, and `-` alone for none
abbrev pub some_mime_in : List ℕ → Result (List ℕ) Refusal
some_mime_in word = if is_mime word then Ok word else Err BadMime

abbrev pub or_none : Result (List ℕ) Refusal → Result (Option (List ℕ)) Refusal
or_none (Ok mime) = Ok (Some mime)
or_none (Err refusal) = Err refusal

abbrev pub type_mime_in : List ℕ → Result (Option (List ℕ)) Refusal
type_mime_in word = if bytes_eq word (codes "-") then Ok None else or_none (some_mime_in word)

-- the words of a line: SUFFIX TYPE SUBTYPE MIME
unfoldable pub type_of_words : List (List ℕ) → Result SuffixType Refusal
type_of_words (suffix ∷ kind ∷ subtype ∷ mime ∷ []) = do
  s ← suffix_in suffix
  c ← content_in (number_of_word kind) (number_of_word subtype)
  m ← type_mime_in mime
  Ok (record { suffix = s; content = c; mime = m })
type_of_words words = Err BadLine

-- what a line says, or why it is refused
abbrev pub type_in : List ℕ → Result SuffixType Refusal
type_in line = type_of_words (words_of line)

-- an empty line, and one that begins with `#`
abbrev pub says_nothing : List ℕ → Bool
says_nothing [] = true
says_nothing (byte ∷ others) = byte == 35

-- those of these lines that say something
abbrev pub that_say : List (List ℕ) → List (List ℕ)
that_say lines = filter (λ line. not (says_nothing line)) lines

-- the lines of a text that say something
abbrev pub saying_lines : List ℕ → List (List ℕ)
saying_lines text = that_say (pieces_between text)

abbrev pub type_before : Result SuffixType Refusal → List SuffixType → List SuffixType
type_before (Ok type) others = type ∷ others
type_before (Err refusal) others = []

-- what lines say, up to the first that is refused
abbrev pub types_of_lines : List (List ℕ) → List SuffixType
types_of_lines [] = []
types_of_lines (line ∷ lines) = type_before (type_in line) (types_of_lines lines)

abbrev pub types_in : List ℕ → List SuffixType
types_in text = types_of_lines (saying_lines text)

abbrev pub refusal_before : Result SuffixType Refusal → Option Refusal → Option Refusal
refusal_before (Ok type) later = later
refusal_before (Err refusal) later = Some refusal

-- why the first of the lines that is refused is
abbrev pub refusal_of_lines : List (List ℕ) → Option Refusal
refusal_of_lines [] = None
refusal_of_lines (line ∷ lines) = refusal_before (type_in line) (refusal_of_lines lines)

abbrev pub refusal_in : List ℕ → Option Refusal
refusal_in text = refusal_of_lines (saying_lines text)

-- Adding stopped at the line of a text that has this number, from 1 on: it is the first that is
-- refused, or memory was wanting at it, and what the lines before it say was added.
pub record StopsAtLine (old now : List SuffixType) (text : List ℕ) (number : ℕ) (refusal : Refusal)
    : Type 0 where
  pub before : List (List ℕ)
  pub line : List ℕ
  pub behind : List (List ℕ)
  pub split : pieces_between text ≡ before ++ line ∷ behind
  pub counted : number ≡ length before + 1
  pub right : refusal_of_lines (that_say before) ≡ None
  pub added : now ≡ old ++ types_of_lines (that_say before)
  pub why : (refusal_of_lines (that_say (line ∷ [])) ≡ Some refusal) ⊎ (refusal ≡ OutOfMemory)

-- the name begins with a dot
abbrev pub is_hidden : List ℕ → Bool
is_hidden [] = false
is_hidden (byte ∷ others) = byte == 46

abbrev pub after_last_dot : List ℕ → Option (List ℕ)
after_last_dot [] = None
after_last_dot (byte ∷ others) =
    option_or (after_last_dot others) (if byte == 46 then Some others else None)

-- the suffix of a name: what follows its last dot; one that begins with a dot has none
abbrev pub suffix_of : List ℕ → Option (List ℕ)
suffix_of name = if is_hidden name then None else after_last_dot name

-- the last of these types whose suffix it is, whatever the case of ASCII letters
abbrev pub last_of_suffix : List ℕ → List SuffixType → Option SuffixType
last_of_suffix suffix [] = None
last_of_suffix suffix (type ∷ types) =
    option_or (last_of_suffix suffix types)
    (if str_eq_ignore_ascii_case type.suffix suffix then Some type else None)

abbrev pub last_of_some : Option (List ℕ) → List SuffixType → Option SuffixType
last_of_some None types = None
last_of_some (Some suffix) types = last_of_suffix suffix types

-- what files of this name are, where these types are known
abbrev pub type_of_name : List SuffixType → List ℕ → Option SuffixType
type_of_name types name = last_of_some (suffix_of name) types

-- none of these names begins with a dot
abbrev pub AreShown : List (List ℕ) → Type 0
AreShown names = AllByRecursion (λ (name : List ℕ). is_hidden name ≡ false) names

-- why lines that tell of suffixes are not taken
abbrev pub IsTypesRefusal : Refusal → Type 0
IsTypesRefusal r =
    (r ≡ OutOfMemory) ⊎ (r ≡ BadLine) ⊎ (r ≡ BadName) ⊎ (r ≡ BadType) ⊎ (r ≡ BadMime)
