-- How a log shows a name, so that none ends its line or moves what follows.
use Rattle.std.specs.Prelude.{ℕ, ◌==◌, ◌&&◌, ◌||◌, nat_lt, Bool, if◌then◌else◌, List, [], ◌∷◌}

-- a control character, by its number: below 0x20, 0x7F, and U+0080 to U+009F
abbrev pub is_control : ℕ → Bool
is_control letter = nat_lt letter 32 || nat_lt 126 letter && nat_lt letter 160

-- these two bytes are one of those from U+0080 on
abbrev pub are_control : ℕ → ℕ → Bool
are_control first second = first == 194 && (nat_lt 127 second && is_control second)

-- a byte alone: one above 0x7F is a part of a character
abbrev pub shown_byte : ℕ → ℕ
shown_byte byte = if nat_lt byte 128 && is_control byte then 63 else byte

-- the name with `?` for each control character
abbrev pub shown : List ℕ → List ℕ
shown [] = []
shown (byte ∷ []) = shown_byte byte ∷ []
shown (byte ∷ next ∷ rest) =
    if are_control byte next then 63 ∷ shown rest else shown_byte byte ∷ shown (next ∷ rest)
