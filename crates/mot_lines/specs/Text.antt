-- The lines of replies. The last byte of each is 0x0A.
use Rattle.std.specs.Prelude.{ℕ, Bool, false, if◌then◌else◌, List, [], ◌∷◌, ◌++◌, Option}
use Rattle.std.specs.Prelude.{Some, None}
use Rattle.std.specs.Prelude.{codes}
use Rattle.std.specs.Fmt.{decimal}
use Rattle.hex.specs.Hex.{encode_lower}
use Rattle.mot_numbers.specs.declared.refusal.Refusal.{Refusal}
use Rattle.mot_numbers.specs.Refusal.{number_of, name_of}
use Rattle.mot_objects.specs.declared.command.Done.{Done}

-- a number, and the space after it
abbrev pub field : ℕ → List ℕ
field n = decimal n ++ codes " "

-- the id that a put or a replace took
abbrev pub taken_words : Option ℕ → List ℕ
taken_words None = []
taken_words (Some tid) = codes "object " ++ field tid

-- the ids that a command took
abbrev pub done_line : Done → List ℕ
done_line d =
    codes "done " ++ taken_words d.object ++ codes "directory " ++ decimal d.directory ++ 10 ∷ []

-- a refusal's line
abbrev pub refusal_line : Refusal → List ℕ
refusal_line r = codes "refused " ++ decimal (number_of r) ++ codes " " ++ name_of r ++ 10 ∷ []

-- the line of a packet that was played, in small hexadecimal digits, with a word behind it where it
-- ends a turn
abbrev pub played_line : List ℕ → Bool → List ℕ
played_line packet ends_turn =
    codes "packet " ++ encode_lower packet ++ (if ends_turn then codes " end" else []) ++ 10 ∷ []

-- a packet's line
abbrev pub packet_line : List ℕ → List ℕ
packet_line packet = played_line packet false
