-- No line is refused for a fault of the disk.
use Rattle.std.proofs.Common.{◌≡◌, ℕ, Bool, true, false, List, [], ◌∷◌, length, Option, Some, None}
use Rattle.std.proofs.Common.{Result, Ok, Err}
use Rattle.std.specs.Prelude.{◌&&◌, ◌==◌, nat_lt, nat_le, if◌then◌else◌, codes, bytes_eq}
use Rattle.hex.specs.Hex.{decode_of}
use Rattle.hex.specs.declared.error.FromHexError.{FromHexError}
use Rattle.mot_lines.specs.Fields.{kind_in, number_to, segment_in, name_in, content_in, mime_in}
use Rattle.mot_lines.specs.Fields.{body_in, period_in, number_of_word, words_of}
use Rattle.mot_lines.specs.Line.{raw_of, description_of, put_of, replace_of, withdraw_of, period_of}
use Rattle.mot_lines.specs.Line.{alone_of, asked_by, next_of, request_of, line_of}
use Rattle.mot_numbers.specs.Refusal.{◌>>=◌}
use Rattle.mot_lines.specs.Verb.{verb_of}
use Rattle.mot_lines.specs.declared.line.Line.{Line}
use Rattle.mot_lines.specs.declared.line.Line.TheVariants as asks
use Rattle.mot_lines.specs.declared.line.verb.Verb.{Verb}
use Rattle.mot_lines.specs.declared.line.verb.Verb.TheVariants as verb
use Rattle.mot_lines.specs.declared.line.TheConstants.{MAX_LINE, MAX_PACKETS}
use Rattle.mot_numbers.specs.Reading.{is_empty}
use Rattle.mot_numbers.specs.declared.refusal.Refusal.{Refusal}
use Rattle.mot_numbers.specs.declared.numbers.TheConstants.{MAX_SEGMENT}
use Rattle.mot_numbers.specs.declared.refusal.Refusal.TheVariants.{BadLine, BadNumber, BadType}
use Rattle.mot_numbers.specs.declared.refusal.Refusal.TheVariants.{BodyTooLong, DeviceFault}
use Rattle.mot_numbers.specs.declared.refusal.Refusal.TheVariants.{EmptyBody}
use Rattle.mot_objects.specs.declared.body.TheConstants.{MAX_BODY}
use Rattle.mot_objects.specs.declared.content.TheConstants.{MAX_TYPE, MAX_SUBTYPE}
use Rattle.mot_objects.specs.declared.period.TheConstants.{MAX_PERIOD}
use Rattle.mot_objects.specs.Name.{is_mime, is_name}

abbrev IsNoFault : {T : Type 0} → Result T Refusal → Type 0
IsNoFault result = result ≡ Err DeviceFault → ⊥

value : {T : Type 0} (it : T) → IsNoFault (Ok it)
value it = λ e. cc

either : {T : Type 0} (holds : Bool) (one other : Result T Refusal) → IsNoFault one
    → IsNoFault other
    → IsNoFault (if holds then one else other)
either true one other p q = p
either false one other p q = q

bound : {A B : Type 0} (x : Result A Refusal) (f : A → Result B Refusal) → IsNoFault x
    → ((it : A) → IsNoFault (f it)) → IsNoFault (x >>= f)
bound (Ok it) f p q = q it
bound (Err r) f p q = λ e. p (cc)

kind : (number : Option ℕ) → IsNoFault (kind_in number)
kind None = λ e. cc
kind (Some n) = either (n == 4) _ _ (value _) (either (n == 6) _ _ (value _) (λ e. cc))

up_to : (last : ℕ) (read : Option ℕ) → IsNoFault (number_to last read)
up_to last None = λ e. cc
up_to last (Some n) =
    either (nat_lt 0 n && nat_le n last) (Ok n) (Err BadNumber) (value n) (λ e. cc)

segment : (bytes : Result (List ℕ) FromHexError) → IsNoFault (segment_in bytes)
segment (Err e) = λ f. cc
segment (Ok bytes) =
    either (is_empty bytes) (Err EmptyBody) _ (λ e. cc)
    (either (nat_le (length bytes) MAX_SEGMENT) (Ok bytes) (Err BodyTooLong) (value bytes)
    (λ e. cc))

name : (word : List ℕ) → IsNoFault (name_in word)
unfolding name_in
name word = either (is_name 255 word) _ _ (value word) (λ e. cc)

content : (kind subtype : Option ℕ) → IsNoFault (content_in kind subtype)
content None subtype = λ e. cc
content (Some t) None = λ e. cc
content (Some t) (Some s) =
    either (nat_le t MAX_TYPE && nat_le s MAX_SUBTYPE) _ (Err BadType) (value _) (λ e. cc)

mime : (word : List ℕ) → IsNoFault (mime_in word)
unfolding mime_in
mime word =
    either (bytes_eq word (codes "-")) _ _ (value None)
    (either (is_mime word) _ _ (value _) (λ e. cc))

body : (bytes : Result (List ℕ) FromHexError) → IsNoFault (body_in bytes)
body (Err e) = λ f. cc
body (Ok bytes) =
    either (is_empty bytes) (Err EmptyBody) _ (λ e. cc)
    (either (nat_le (length bytes) MAX_BODY) (Ok bytes) (Err BodyTooLong) (value bytes) (λ e. cc))

period : (number : Option ℕ) → IsNoFault (period_in number)
period None = λ e. cc
period (Some n) = either (nat_le n MAX_PERIOD) (Ok n) (Err BadNumber) (value n) (λ e. cc)

raw : (words : List (List ℕ)) → IsNoFault (raw_of words)
unfolding raw_of
raw [] = λ e. cc
raw (k ∷ []) = λ e. cc
raw (k ∷ t ∷ []) = λ e. cc
raw (k ∷ t ∷ h ∷ []) =
    bound _ _ (kind (number_of_word k)) (λ one. bound _ _ (up_to 65535 (number_of_word t))
    (λ two. bound _ _ (segment (decode_of h)) (λ three. value _)))
raw (k ∷ t ∷ h ∷ more ∷ words) = λ e. cc

description : (words : List (List ℕ)) → IsNoFault (description_of words)
unfolding description_of
description [] = λ e. cc
description (n ∷ []) = λ e. cc
description (n ∷ k ∷ []) = λ e. cc
description (n ∷ k ∷ s ∷ []) = λ e. cc
description (n ∷ k ∷ s ∷ m ∷ []) = λ e. cc
description (n ∷ k ∷ s ∷ m ∷ h ∷ []) =
    bound _ _ (name n) (λ one. bound _ _ (content (number_of_word k) (number_of_word s))
    (λ two. bound _ _ (mime m) (λ three. bound _ _ (body (decode_of h)) (λ four. value _))))
description (n ∷ k ∷ s ∷ m ∷ h ∷ more ∷ words) = λ e. cc

put : (words : List (List ℕ)) → IsNoFault (put_of words)
put words = bound _ _ (description words) (λ d. value _)

replace : (words : List (List ℕ)) → IsNoFault (replace_of words)
replace words = bound _ _ (description words) (λ d. value _)

withdraw : (words : List (List ℕ)) → IsNoFault (withdraw_of words)
withdraw [] = λ e. cc
withdraw (n ∷ []) = bound _ _ (name n) (λ it. value _)
withdraw (n ∷ more ∷ words) = λ e. cc

period-line : (words : List (List ℕ)) → IsNoFault (period_of words)
period-line [] = λ e. cc
period-line (n ∷ []) = bound _ _ (period (number_of_word n)) (λ it. value _)
period-line (n ∷ more ∷ words) = λ e. cc

alone : (it : Line) (words : List (List ℕ)) → IsNoFault (alone_of it words)
alone it [] = value _
alone it (word ∷ words) = λ e. cc

next : (words : List (List ℕ)) → IsNoFault (next_of words)
next [] = λ e. cc
next (n ∷ []) = bound _ _ (up_to MAX_PACKETS (number_of_word n)) (λ it. value _)
next (n ∷ more ∷ words) = λ e. cc

asked : (v : Option Verb) (words : List (List ℕ)) → IsNoFault (asked_by v words)
asked (Some verb.Raw) words = raw words
asked (Some verb.Put) words = put words
asked (Some verb.Replace) words = replace words
asked (Some verb.Withdraw) words = withdraw words
asked (Some verb.Period) words = period-line words
asked (Some verb.List) words = alone asks.List words
asked (Some verb.Next) words = next words
asked (Some verb.Turn) words = alone asks.Turn words
asked None words = λ e. cc

request : (words : List (List ℕ)) → IsNoFault (request_of words)
unfolding request_of
request [] = λ e. cc
request (first ∷ words) = asked (verb_of first) words

-- no line is refused for a fault of the disk
pub line : (bytes : List ℕ) → IsNoFault (line_of bytes)
unfolding line_of
line bytes =
    either (nat_le (length bytes) MAX_LINE) _ (Err BadLine) (request (words_of bytes)) (λ e. cc)
