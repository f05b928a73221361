-- The line of what a look met of a name: of a command, what came of it; of a file, why it was not taken; or a note.
use Rattle.std.specs.Prelude.{ℕ, List, [], ◌∷◌, ◌++◌, None, Option, Some, codes, ◌&&◌, nat_le}
use Rattle.std.specs.Prelude.{nat_lt, if◌then◌else◌, map}
use Rattle.std.specs.Fmt.{decimal}
use Rattle.mot_events.specs.Events.{step_word, skip_word}
use Rattle.mot_events.specs.declared.event.LookStep.{LookStep}
use Rattle.mot_events.specs.declared.event.LookEvent.{LookEvent}
use Rattle.mot_events.specs.declared.event.LookResult.{LookResult}
use Rattle.mot_events.specs.declared.event.LookResult.TheVariants as outcome
use Rattle.mot_events.specs.declared.event.Why.{Why}
use Rattle.mot_events.specs.declared.event.Why.TheVariants as why
use Rattle.mot_lines.specs.Text.{taken_words}
use Rattle.mot_numbers.specs.Refusal.{name_of, number_of}
use Rattle.mot_numbers.specs.declared.refusal.Refusal.{Refusal}
use Rattle.mot_objects.specs.declared.body.TheConstants.{MAX_BODY}
use Rattle.mot_objects.specs.declared.command.Done.{Done}
use Rattle.mot_suffixes.specs.declared.images.ImageType.{ImageType}
use Rattle.mot_suffixes.specs.declared.images.ImageType.TheVariants.{Bmp, Gif, Jpeg, Png}
use Rattle.mot_suffixes.specs.declared.images.OtherImage.{OtherImage}
use Rattle.std.specs.Str.{is_utf8}
use Rattle.mot_suffixes.specs.Shown.{shown}

-- How a line shows a name of any bytes.

-- a byte of a name that is not UTF-8: `?` for each that is no printed one of ASCII
abbrev pub ascii_byte : ℕ → ℕ
ascii_byte byte = if nat_le 32 byte && nat_lt byte 127 then byte else 63

-- a name of any bytes
abbrev pub shown_name : List ℕ → List ℕ
shown_name name = if is_utf8 name then shown name else map ascii_byte name

-- the ids that a command took
abbrev pub done_words : Done → List ℕ
done_words done =
    codes "done " ++ taken_words done.object ++ codes "directory " ++ decimal done.directory

-- why, after a colon
abbrev pub why_words : Why → List ℕ
why_words why.Unsaid = []
why_words (why.Bytes n) = codes ": " ++ decimal n ++ codes " bytes"
why_words (why.TooLong n) =
    codes ": " ++ decimal n ++ codes " bytes, at most " ++ decimal MAX_BODY
why_words why.Space = codes ": a space"
why_words why.Control = codes ": a control character"
why_words (why.Names n) = codes ": more than " ++ decimal n ++ codes " names have a suffix"
why_words (why.Objects n) = codes ": " ++ decimal n ++ codes " at most"
why_words why.NoCommand = codes ": its first word is no command"
why_words why.NotUtf8 = codes ": not UTF-8"
why_words why.NotRegular = codes ": not a regular file"
why_words why.Return = codes ": a carriage return"
why_words why.NotHere = codes ": not while a disk is played"
why_words (why.WordCount count asked) =
    codes ": " ++ decimal count ++ codes " words, " ++ decimal asked ++ codes " asked for"
why_words (why.Words words) = codes ": " ++ shown_name words

-- the number of a refusal and its name, and why
abbrev pub refusal_words : Refusal → List ℕ
refusal_words refusal = decimal (number_of refusal) ++ codes " " ++ name_of refusal

abbrev pub reason_words : Refusal → Why → List ℕ
reason_words refusal why = refusal_words refusal ++ why_words why

abbrev pub refused_words : Refusal → Why → List ℕ
refused_words refusal why = codes "refused " ++ reason_words refusal why

-- what was done to a name
abbrev pub step_words : LookStep → List ℕ → List ℕ
step_words step name = step_word step ++ codes " " ++ shown_name name ++ codes " "

abbrev pub note_words : List ℕ → List ℕ
note_words name = codes "note " ++ shown_name name ++ codes " "

-- the name of an image type, or that there is none
abbrev pub image_word : Option ImageType → List ℕ
image_word None = codes "unknown"
image_word (Some Gif) = codes "GIF"
image_word (Some Jpeg) = codes "JPEG"
image_word (Some Bmp) = codes "BMP"
image_word (Some Png) = codes "PNG"

-- which image type an object is by its suffix, and which by its first bytes
abbrev pub image_words : OtherImage → List ℕ
image_words other =
    image_word (Some other.by_suffix) ++ codes " by its suffix, "
    ++ image_word other.by_bytes ++ codes " by its bytes"

-- what a look met of a name
abbrev pub result_text : List ℕ → LookResult → List ℕ
result_text name (outcome.Done step done) = step_words step name ++ done_words done
result_text name (outcome.Refused step refusal why) = step_words step name ++ refused_words refusal why
result_text name outcome.Young = codes "read " ++ shown_name name ++ codes " too young, next look"
result_text name outcome.Changed = codes "read " ++ shown_name name ++ codes " changed, next look"
result_text name (outcome.Skipped skip) =
    codes "skip " ++ shown_name name ++ codes " " ++ skip_word skip
result_text name (outcome.Going unknown all) =
    note_words name ++ decimal unknown ++ codes " of " ++ decimal all ++ codes " objects go"
result_text name (outcome.Gap gap) = note_words name ++ decimal gap ++ codes " bytes in the longest gap"
result_text name (outcome.Waiting most files) =
    note_words name ++ decimal most ++ codes " objects at most, " ++ decimal files
    ++ codes " files wait"
result_text name outcome.Kept = codes "look " ++ shown_name name ++ codes " empty, kept"
result_text name (outcome.KeptMost going all) =
    codes "look " ++ shown_name name ++ codes " " ++ decimal going ++ codes " of " ++ decimal all
    ++ codes " objects would go, kept"
result_text name outcome.Listed = codes "look " ++ shown_name name ++ codes " listed"
result_text name (outcome.OtherImage other) = note_words name ++ image_words other

-- the line of what a look met, with its end
abbrev pub look_line : LookEvent → List ℕ
look_line e = result_text e.name e.outcome ++ 10 ∷ []
