-- Which command a file or a name asks for, or why it asks for none.
use Rattle.std.specs.Prelude.{◌≡◌, ◌≢◌, ◌⊎◌, ◌==◌, ℕ, true, if◌then◌else◌, List, [], ◌∷◌}
use Rattle.std.specs.Prelude.{Option, None, Some, Result, Ok, Err}
use Rattle.mot_commands.specs.declared.asking.Words.{Words}
use Rattle.mot_commands.specs.declared.asking.Words.TheVariants.{Files, Objects}
use Rattle.mot_files.specs.Call.{Call}
use Rattle.mot_files.specs.Reading.{IsRead, IsUnread}
use Rattle.mot_files.specs.declared.reading.ReadFailure.{ReadFailure}
use Rattle.mot_files.specs.declared.reading.ReadFailure.TheVariants.{TooLong, NoMemory}
use Rattle.mot_numbers.specs.declared.refusal.Refusal.{Refusal}
use Rattle.mot_numbers.specs.declared.refusal.Refusal.TheVariants.{BadName, BadType, BodyTooLong}
use Rattle.mot_numbers.specs.declared.refusal.Refusal.TheVariants.{EmptyBody, OutOfMemory, ReadFault}
use Rattle.mot_objects.specs.Name.{IsName}
use Rattle.mot_objects.specs.Stands.{index_of}
use Rattle.mot_objects.specs.declared.body.TheConstants.{MAX_BODY}
use Rattle.mot_objects.specs.declared.carousel.Carousel.{Carousel}
use Rattle.mot_objects.specs.declared.command.Command.{Command}
use Rattle.mot_objects.specs.declared.command.Command.TheVariants.{Put, Replace, Withdraw}
use Rattle.mot_suffixes.specs.Types.{SuffixType, type_of_name}

-- what follows the last `/` of a path; all of it, if there is none
abbrev pub name_after : (found path : List ℕ) → List ℕ
name_after found [] = found
name_after found (byte ∷ path) = name_after (if byte == 47 then path else found) path

abbrev pub base_name : List ℕ → List ℕ
base_name path = name_after path path

-- an object is put, or replaces the one of its name, if that stands at a place
abbrev pub put_at : (place : Option ℕ) → (name : List ℕ) → SuffixType → (body : List ℕ) → Command
put_at None name type body = Put name type.content type.mime body
put_at (Some place) name type body = Replace name type.content type.mime body

-- what a file is refused with that was not read
abbrev pub unread_refusal : ReadFailure → Refusal
unread_refusal (TooLong length) = BodyTooLong
unread_refusal NoMemory = OutOfMemory
unread_refusal unread = ReadFault

-- no object can have the name, or there was no memory for it
abbrev pub IsUnnamed : (name : List ℕ) → Refusal → Type 0
IsUnnamed name refusal = ((refusal ≡ BadName) × ¬ (IsName name)) ⊎ (refusal ≡ OutOfMemory)

-- why a file is not put: by its name or its suffix, before anything is asked of the system; or it could
-- not be read, or is empty
pub data IsUnput (types : List SuffixType) (path : List ℕ) (refusal : Refusal)
    (old new : List Call) : Type 0 where
  unnamed : IsUnnamed (base_name path) refusal → new ≡ old → IsUnput types path refusal old new
  untyped : refusal ≡ BadType → type_of_name types (base_name path) ≡ None → new ≡ old
      → IsUnput types path refusal old new
  unread : (unread : ReadFailure) → refusal ≡ unread_refusal unread
      → IsUnread path MAX_BODY true unread old new → IsUnput types path refusal old new
  empty : refusal ≡ EmptyBody → IsRead path MAX_BODY true [] old new
      → IsUnput types path refusal old new

-- With these calls of the system a word asks for this command on a carousel, or for none: its file was
-- read, and is put or replaces the object of its name; or the object of that name is withdrawn.
abbrev pub IsRequest : Words → (word : List ℕ) → Carousel → Result Command Refusal
    → (old new : List Call) → Type 0
IsRequest (Files types) path c (Ok command) old new = (bytes : List ℕ) × (type : SuffixType)
    × IsRead path MAX_BODY true bytes old new × (bytes ≢ []) × IsName (base_name path)
    × (type_of_name types (base_name path) ≡ Some type)
    × (command ≡ put_at (index_of (base_name path) c.objects.items) (base_name path) type bytes)
IsRequest (Files types) path c (Err refusal) old new = IsUnput types path refusal old new
IsRequest Objects name c (Ok command) old new =
    (new ≡ old) × IsName name × (command ≡ Withdraw name)
IsRequest Objects name c (Err refusal) old new = (new ≡ old) × IsUnnamed name refusal
