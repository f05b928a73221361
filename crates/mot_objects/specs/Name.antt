-- What an object is, without its body: its name (own rule: what stands between the spaces of a line),
-- its content and its MIME type, and the texts that keep names and MIME types.
use Rattle.std.specs.Prelude.{ℕ, ◌+◌, ◌*◌, ◌%◌, ◌^◌, ◌<◌, ◌≤◌, ◌&&◌, ◌==◌, not, nat_lt, List, length, IsUtf8, Bool, ◌≢◌}
use Rattle.std.specs.Prelude.{[], ◌∷◌, bytes_eq, codes}
use Rattle.std.specs.List.{AllPass, fold, list_all}
use Rattle.mot_objects.specs.declared.name.TheConstants.{MAX_NAME}
use Rattle.std.specs.Str.{is_utf8}
use Rattle.mot_numbers.specs.Geometry.{is_within}
use Rattle.mot_objects.specs.declared.text.Text.{Text}
use Rattle.mot_objects.specs.declared.text.Text.TheVariants.{Alone, Together}
use Rattle.mot_objects.specs.declared.mime.TheConstants.{MAX_MIME}

-- UTF-8 with no byte up to 0x20 and no 0x7F, of a bounded length
pub record IsName (bytes : List ℕ) : Type 0 where
  pub some : 0 < length bytes
  pub short : length bytes ≤ MAX_NAME
  pub text : IsUtf8 bytes
  pub printed : AllPass (λ b. nat_lt 32 b && not (b == 127)) bytes

-- the same as a test, of at most so many bytes
abbrev pub is_name : ℕ → List ℕ → Bool
is_name longest bytes =
    is_within 1 longest (length bytes) && is_utf8 bytes && list_all
    (λ b. nat_lt 32 b && not (b == 127)) bytes

-- a sum of a name's bytes, in which each counts by its place
abbrev pub and_byte : (sum byte : ℕ) → ℕ
and_byte sum byte = (sum * 31 % 2 ^ 32 + byte) % 2 ^ 32

abbrev pub sum_of : List ℕ → ℕ
sum_of name = fold and_byte 0 name

-- What an object is (EN 301 234, TS 101 756).

-- the header core's ContentType and ContentSubType
pub record ContentNumbers : Type 0 where
  pub content_type : ℕ
  pub subtype : ℕ

-- The bytes that a text holds, alone or together with its copies.

abbrev pub text_bytes : Text → List ℕ
text_bytes (Alone bytes) = bytes.items
text_bytes (Together shared) = shared.value.items

-- The MIME types of bodies (own rule: what stands between the spaces of a line).

-- printed ASCII of a bounded length, and not `-` alone
pub record IsMime (bytes : List ℕ) : Type 0 where
  pub some : 0 < length bytes
  pub short : length bytes ≤ MAX_MIME
  pub printed : AllPass (λ b. nat_lt 32 b && nat_lt b 127) bytes
  pub named : bytes ≢ 45 ∷ []

-- the same as a test
abbrev pub is_mime : List ℕ → Bool
is_mime bytes =
    is_within 1 MAX_MIME (length bytes) && list_all (is_within 0x21 0x7E) bytes
    && not (bytes_eq bytes (codes "-"))
