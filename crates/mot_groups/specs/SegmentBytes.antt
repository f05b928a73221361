-- Which bytes are those of one segment (EN 301 234).
use Rattle.std.specs.Prelude.{ℕ, nat_le, if◌then◌else◌, List, length, Result, Ok, Err}
use Rattle.mot_numbers.specs.Reading.{is_empty}
use Rattle.mot_numbers.specs.declared.numbers.TheConstants.{MAX_SEGMENT}
use Rattle.mot_numbers.specs.declared.refusal.Refusal.{Refusal}
use Rattle.mot_numbers.specs.declared.refusal.Refusal.TheVariants.{BodyTooLong, EmptyBody}

-- the bytes, or why they are no segment's
abbrev pub segment_of_bytes : List ℕ → Result (List ℕ) Refusal
segment_of_bytes bytes =
    if is_empty bytes then Err EmptyBody
    else (if nat_le (length bytes) MAX_SEGMENT then Ok bytes else Err BodyTooLong)
