-- The first words of lines.
use Rattle.std.specs.Prelude.{ℕ, if◌then◌else◌, List, [], ◌∷◌, Option, Some, None, bytes_eq, codes}
use Rattle.mot_lines.specs.declared.line.verb.TheConstants.{VERBS}
use Rattle.mot_lines.specs.declared.line.verb.Verb.{Verb}
use Rattle.mot_lines.specs.declared.line.verb.Verb.TheVariants as verb

abbrev pub verb_word : Verb → List ℕ
verb_word verb.Put = codes "put"
verb_word verb.Replace = codes "replace"
verb_word verb.Withdraw = codes "withdraw"
verb_word verb.Period = codes "period"
verb_word verb.List = codes "list"
verb_word verb.Next = codes "next"
verb_word verb.Turn = codes "turn"
verb_word verb.Raw = codes "raw"

-- the first of these whose word it is
abbrev pub verb_among : List ℕ → List Verb → Option Verb
verb_among word [] = None
verb_among word (v ∷ verbs) =
    if bytes_eq word (verb_word v) then Some v else verb_among word verbs

-- the one that a first word is
abbrev pub verb_of : List ℕ → Option Verb
verb_of word = verb_among word VERBS
