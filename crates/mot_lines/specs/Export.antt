-- A carousel as the lines that rebuild it.
use Rattle.std.specs.Prelude.{◌≡◌, ◌==◌, if◌then◌else◌, ℕ, List, [], ◌∷◌, ◌++◌, map, Option, Ok}
use Rattle.std.specs.Prelude.{codes}
use Rattle.std.specs.Fmt.{decimal}
use Rattle.std.specs.List.{flat_map}
use Rattle.hex.specs.Hex.{encode_lower}
use Rattle.mot_lines.specs.Line.{line_of}
use Rattle.mot_lines.specs.Lines.{lines_of}
use Rattle.mot_lines.specs.Listing.{mime_word}
use Rattle.mot_lines.specs.Text.{field}
use Rattle.mot_lines.specs.declared.line.Line.TheVariants.{Command}
use Rattle.mot_objects.specs.Carousel.{Carousel, Object, rebuilding, AllKeepRules}
use Rattle.mot_objects.specs.Name.{ContentNumbers}
use Rattle.mot_objects.specs.declared.command.Command as command

-- the first word of a `put` line, and its name
abbrev pub name_words : List ℕ → List ℕ
name_words name = codes "put " ++ name ++ codes " "

abbrev pub content_words : ContentNumbers → List ℕ
content_words content = field content.content_type ++ field content.subtype

abbrev pub mime_words : Option (List ℕ) → List ℕ
mime_words mime = mime_word mime ++ codes " "

-- all words before the body, and the space behind them
abbrev pub front_words : List ℕ → ContentNumbers → Option (List ℕ) → List ℕ
front_words name content mime = name_words name ++ content_words content ++ mime_words mime

-- the line that puts an object
abbrev pub put_line : Object → List ℕ
put_line o = front_words o.name o.content o.mime ++ encode_lower o.body ++ 10 ∷ []

-- the line that sets a period, where it is not that of a new carousel
abbrev pub period_line : ℕ → List ℕ
period_line n = if n == 0 then [] else codes "period " ++ decimal n ++ 10 ∷ []

-- the lines that rebuild a carousel: its objects in order, and its period
abbrev pub export_text : Carousel → List ℕ
export_text c = flat_map put_line c.objects ++ period_line c.period

-- the lines of the input are these commands, one a line, in order, and nothing else
abbrev pub AsksForJust : List ℕ → List command.Command → Type 0
AsksForJust input commands = map line_of (lines_of input) ≡ map (λ k. Ok (Command k)) commands

-- the text asks for the commands that rebuild the carousel
abbrev pub ExportsAskForTheirCommands : Type 0
ExportsAskForTheirCommands =
    (c : Carousel) → AllKeepRules c → AsksForJust (export_text c) (rebuilding c)
