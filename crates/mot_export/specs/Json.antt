-- Lines of JSON.
use Rattle.std.specs.Prelude.{ℕ, List, [], ◌∷◌, ◌++◌, flat_map, map, Option, None, Some}
use Rattle.std.specs.Borrow.{Bor}
use Rattle.std.specs.Fmt.{decimal}
use Rattle.json.specs.Print.{print}
use Rattle.json.specs.Token.{Token, begin_object, boolean, end_object, key, null, number, string}
use Rattle.mot_export.specs.declared.json_line.JsonValue.{JsonValue}
use Rattle.mot_export.specs.declared.json_line.JsonValue.TheVariants.{Absent, Count, Flag, Text}

-- a number
abbrev pub count : ℕ → Token
count n = number (decimal n)

-- a number, if there is one
abbrev pub maybe_count : Option ℕ → Token
maybe_count (Some n) = count n
maybe_count None = null

-- what a member of an object is
abbrev pub value_token : JsonValue → Token
value_token (Count n) = count n
value_token (Text text) = string text.now
value_token (Flag flag) = boolean flag
value_token Absent = null

-- members, each a name and a value
abbrev pub members_of : List (Bor (List ℕ) × JsonValue) → List (List ℕ × Token)
members_of members =
    map (λ (m : Bor (List ℕ) × JsonValue). (m.0.now, value_token m.1)) members

abbrev pub member_tokens : List ℕ × Token → List Token
member_tokens m = key m.0 ∷ m.1 ∷ []

-- an object with these members, on a line of its own
abbrev pub json_line : List (List ℕ × Token) → List ℕ
json_line members =
    print (begin_object ∷ flat_map member_tokens members ++ end_object ∷ []) ++ 10 ∷ []
