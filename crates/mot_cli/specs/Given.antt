-- The words and numbers that were given.
use Rattle.std.specs.Prelude.{ℕ, ◌≡◌, ◌<◌, ◌^◌, Bool, false, List, Option, Some, None, bytes_eq}
use Rattle.std.specs.Prelude.{codes, map, ◌&&◌, ◌||◌, is_none, is_some, not, ◌≢◌, ◌⊎◌, ◌↔◌}
use Rattle.std.specs.Borrow.{Bor}
use Rattle.std.specs.Str.Parse.{IsNumeral, digits_value, without_leading_plus}
use Rattle.clap.specs.Words.{Row, Text, all_of, first_of, App, IsAmong, fault_of, subcommand_of}
use Rattle.clap.specs.declared.error.ErrorKind.{ErrorKind}
use Rattle.clap.specs.declared.error.ErrorKind.TheVariants.{DisplayHelp}

-- this word was given for that one
abbrev pub NameWord : List Row → Text → Text → Type 0
NameWord rows name word = first_of name rows ≡ Some word

-- these words were given for that one, in order
abbrev pub NameWords : List Row → Text → List (Bor Text) → Type 0
NameWords rows name words = all_of name rows ≡ Some (map (λ (word : Bor Text). word.now) words)

-- the text writes a number of 32 bits
abbrev pub IsNumberOf32Bits : List ℕ → Type 0
IsNumberOf32Bits text = IsNumeral 10 (without_leading_plus text)
    × (digits_value 10 (without_leading_plus text) < 2 ^ 32)

-- the number that the text of an option writes, where the option was given
abbrev pub IsGiven : Option (List ℕ) → Option ℕ → Type 0
IsGiven None number = number ≡ None
IsGiven (Some text) number =
    IsNumberOf32Bits text × (number ≡ Some (digits_value 10 (without_leading_plus text)))

abbrev pub is_true : Option (List ℕ) → Bool
is_true None = false
is_true (Some word) = bytes_eq word (codes "true")

-- a flag was given: its word is `true` then, and `false` else
abbrev pub is_set : List Row → Text → Bool
is_set rows name = is_true (first_of name rows)

-- Options that are given with another one.

-- an option is given with the other of which it says more, or is not given
abbrev pub goes_with : List Row → Text → Text → Bool
goes_with rows name other = is_none (first_of name rows) || is_some (first_of other rows)

abbrev pub flag_goes_with : List Row → Text → Text → Bool
flag_goes_with rows name other = not (is_set rows name) || is_some (first_of other rows)

-- behind how many packets lines are read is said of lines; and of a folder suffixes, when it is
-- looked at, and how
abbrev pub is_whole : List Row → Bool
is_whole rows =
    goes_with rows (codes "every") (codes "lines")
    && goes_with rows (codes "types") (codes "folder")
    && goes_with rows (codes "look") (codes "folder")
    && flag_goes_with rows (codes "allow-empty") (codes "folder")
    && flag_goes_with rows (codes "keep-most") (codes "folder")
    && flag_goes_with rows (codes "at-once") (codes "folder")

-- What words ask for in a command line.

-- The words ask for this task. What a command of a name does, with the words behind it, the command
-- line's own `IsTask` says.
pub record AskFor {T : Type 0} (app : App) (IsTask : Text → List Row → T → Type 0)
    (words : List Text) (task : T) : Type 0 where
  pub name : Text
  pub rows : List Row
  pub matched : subcommand_of app words ≡ Some (name, rows)
  pub is_task : IsTask name rows task

-- they ask for just what a command of this name does, with these rows behind it
abbrev pub AskBy : {T : Type 0} → (app : App) → (IsTask : Text → List Row → T → Type 0)
    → Text → List Row → (words : List Text) → Type 0
AskBy {T} app IsTask name rows words =
    (task : T) → AskFor app IsTask words task ↔ IsTask name rows task

-- the words ask for help
abbrev pub AskForHelp : App → List Text → Type 0
AskForHelp app words = IsAmong DisplayHelp (fault_of app words)

-- a word is wrong, or none names a command
abbrev pub AreWrong : App → List Text → Type 0
AreWrong app words =
    ((kind : ErrorKind) × (kind ≢ DisplayHelp) × IsAmong kind (fault_of app words))
    ⊎ (subcommand_of app words ≡ None)
