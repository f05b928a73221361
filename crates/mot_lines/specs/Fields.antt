-- The fields of lines, each by its word.
use Rattle.std.specs.Prelude.{ℕ, ◌&&◌, ◌==◌, nat_lt, nat_le, if◌then◌else◌, List, length, Option}
use Rattle.std.specs.Prelude.{Some, None, Result, Ok, Err, codes, bytes_eq, ◌+◌, ◌-◌, ◌*◌, ◌^◌, []}
use Rattle.std.specs.Prelude.{◌∷◌}
use Rattle.hex.specs.declared.error.FromHexError.{FromHexError}
use Rattle.mot_groups.specs.SegmentBytes.{segment_of_bytes}
use Rattle.mot_numbers.specs.Reading.{is_empty}
use Rattle.mot_numbers.specs.declared.group_kind.GroupKind.{GroupKind}
use Rattle.mot_numbers.specs.declared.group_kind.GroupKind.TheVariants.{Body, Directory}
use Rattle.mot_numbers.specs.declared.refusal.Refusal.{Refusal}
use Rattle.mot_numbers.specs.declared.refusal.Refusal.TheVariants.{BadName, BadType, BadMime}
use Rattle.mot_numbers.specs.declared.refusal.Refusal.TheVariants.{BadNumber, BadBody, EmptyBody}
use Rattle.mot_numbers.specs.declared.refusal.Refusal.TheVariants.{BodyTooLong}
use Rattle.mot_objects.specs.Name.{ContentNumbers, is_name, is_mime}
use Rattle.mot_objects.specs.declared.body.TheConstants.{MAX_BODY}
use Rattle.mot_objects.specs.declared.content.TheConstants.{MAX_TYPE, MAX_SUBTYPE}
use Rattle.mot_objects.specs.declared.period.TheConstants.{MAX_PERIOD}
use Rattle.mot_objects.specs.declared.name.TheConstants.{MAX_NAME}
use Rattle.std.specs.Borrow.{Bor}
use Rattle.std.specs.Char.{is_ascii_digit}
use Rattle.std.specs.List.{slice_split, list_all}

-- TYPE of a `raw` line: 4 is a body, 6 a directory
abbrev pub kind_in : Option ℕ → Result GroupKind Refusal
kind_in None = Err BadType
kind_in (Some n) = if n == 4 then Ok Body else (if n == 6 then Ok Directory else Err BadType)

-- a number from 1 to this one: TID, and N of a `next` line
abbrev pub number_to : ℕ → Option ℕ → Result ℕ Refusal
number_to last None = Err BadNumber
number_to last (Some n) = if nat_lt 0 n && nat_le n last then Ok n else Err BadNumber

-- HEX of a `raw` line, decoded: 1 to 8,189 bytes
abbrev pub segment_in : Result (List ℕ) FromHexError → Result (List ℕ) Refusal
segment_in (Err e) = Err BadBody
segment_in (Ok bytes) = segment_of_bytes bytes

-- NAME: 1 to 255 bytes of UTF-8, with no byte up to 0x20 and no 0x7F
unfoldable pub name_in : List ℕ → Result (List ℕ) Refusal
name_in word = if is_name MAX_NAME word then Ok word else Err BadName

-- TYPE and SUBTYPE of an object: 0 to 63, and 0 to 511
abbrev pub content_in : Option ℕ → Option ℕ → Result ContentNumbers Refusal
content_in None subtype = Err BadType
content_in (Some t) None = Err BadType
content_in (Some t) (Some s) =
    if nat_le t MAX_TYPE && nat_le s MAX_SUBTYPE then Ok (record { content_type = t; subtype = s })
    else Err BadType

-- MIME: 1 to 64 bytes 0x21 to 0x7E; `-` is none
unfoldable pub mime_in : List ℕ → Result (Option (List ℕ)) Refusal
mime_in word =
    if bytes_eq word (codes "-") then Ok None
    else (if is_mime word then Ok (Some word) else Err BadMime)

-- HEX of an object, decoded: 1 to 262,144 bytes
abbrev pub body_in : Result (List ℕ) FromHexError → Result (List ℕ) Refusal
body_in (Err e) = Err BadBody
body_in (Ok bytes) =
    if is_empty bytes then Err EmptyBody
    else (if nat_le (length bytes) MAX_BODY then Ok bytes else Err BodyTooLong)

-- N of a period: 0 to 16,777,215
abbrev pub period_in : Option ℕ → Result ℕ Refusal
period_in None = Err BadNumber
period_in (Some n) = if nat_le n MAX_PERIOD then Ok n else Err BadNumber

-- The words of a line, and the numbers that they write.

-- words are what stands between single spaces
abbrev pub words_of : List ℕ → List (List ℕ)
words_of bytes = slice_split (λ b. b == 32) bytes

-- the words of what follows a word, if something does
abbrev pub words_after : Option (Bor (List ℕ)) → List (List ℕ)
words_after None = []
words_after (Some rest) = words_of rest.now

-- the number that decimal digits write
abbrev pub decimal_value : List ℕ → ℕ
decimal_value [] = 0
decimal_value (d ∷ ds) = (d - 48) * 10 ^ length ds + decimal_value ds

-- a number has 1 to 10 digits; leading zeros are allowed
unfoldable pub number_of_word : List ℕ → Option ℕ
number_of_word word =
    if nat_lt 0 (length word) && nat_le (length word) 10 && list_all is_ascii_digit word
    then Some (decimal_value word) else None
