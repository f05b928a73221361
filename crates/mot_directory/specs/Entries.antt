-- What stands in a carousel's directory (own profile of EN 301 234).
use Rattle.std.specs.Prelude.{ℕ, ◌≤◌, ◌&&◌, ◌==◌, nat_lt, nat_le, if◌then◌else◌, List, [], ◌∷◌}
use Rattle.std.specs.Prelude.{◌++◌, length, drop, map, All, Option, Some, None, option_to_list}
use Rattle.std.specs.Prelude.{slice_index, slice_set, ◌≡◌}
use Rattle.mot_directory.specs.Parameter.{Parameter, OneByte, Short, Long}
use Rattle.mot_directory.specs.Header.{HeaderFields}
use Rattle.mot_directory.specs.Directory.{Entry, DirectoryFields, bytes_of_directory}
use Rattle.mot_numbers.specs.Reading.{◌>>=◌}
use Rattle.mot_numbers.specs.declared.geometry.TheConstants.{MAX_OBJECTS}
use Rattle.mot_numbers.specs.declared.numbers.TheConstants.{MAX_SEGMENT}
use Rattle.mot_objects.specs.Carousel.{Object, Carousel}
use Rattle.mot_objects.specs.declared.body.TheConstants.{MAX_BODY}
use Rattle.mot_objects.specs.declared.content.TheConstants.{MAX_SUBTYPE, MAX_TYPE}
use Rattle.mot_objects.specs.declared.mime.TheConstants.{MAX_MIME}
use Rattle.mot_objects.specs.declared.name.TheConstants.{MAX_NAME}
use Rattle.mot_objects.specs.declared.period.TheConstants.{MAX_PERIOD}

-- up to 127 bytes have a length of 7 bits, more have one of 15
abbrev pub text_parameter : ℕ → List ℕ → Parameter
text_parameter id text = if nat_le (length text) 127 then Short id text else Long id text

-- of a name, a MIME type and a version, in this order: ContentName, whose data is 0xF0, for UTF-8,
-- and the name; MimeType if there is one; VersionNumber
abbrev pub parameters_with : List ℕ → Option (List ℕ) → ℕ → List Parameter
parameters_with name mime version =
    text_parameter 12 (240 ∷ name) ∷ map (text_parameter 16) (option_to_list mime)
    ++ OneByte 6 version ∷ []

abbrev pub header_of : Object → HeaderFields
header_of o = record {
  body_size = length o.body;
  content = o.content;
  parameters = parameters_with o.name o.mime o.version;
}

abbrev pub entry_of : Object → Entry
entry_of o = record { tid = o.tid; header = header_of o }

-- the objects' entries, in the objects' order
abbrev pub entries_of : Carousel → List Entry
entries_of c = map entry_of c.objects

abbrev pub directory_of : Carousel → ℕ → DirectoryFields
directory_of c segment_size =
    record { period = c.period; segment_size = segment_size; entries = entries_of c }

-- the bytes are those of a directory with the carousel's entries, but for the one at this place
pub record HasAnother (bytes : List ℕ) (c : Carousel) (place : ℕ) : Type 0 where
  pub period : ℕ
  pub segment_size : ℕ
  pub gone : Entry
  pub is : bytes ≡ bytes_of_directory (record {
    period = period;
    segment_size = segment_size;
    entries = slice_set (entries_of c) place gone;
  })

-- the text of a parameter of this id, in the form that its length asks for
abbrev pub text_in : ℕ → Parameter → Option (List ℕ)
text_in id (Short own text) = if own == id then Some text else None
text_in id (Long own text) = if own == id && nat_lt 127 (length text) then Some text else None
text_in id _ = None

abbrev pub content_name_in : Parameter → Option (List ℕ)
content_name_in p = text_in 12 p >>= λ t. if slice_index t 0 == 240 then Some (drop 1 t) else None

abbrev pub version_in : Parameter → Option ℕ
version_in (OneByte id version) = if id == 6 then Some version else None
version_in _ = None

-- the name, MIME type and version in parameters of that order
abbrev pub description_in : List Parameter → Option (List ℕ × Option (List ℕ) × ℕ)
description_in (p ∷ q ∷ []) = do
  name ← content_name_in p
  version ← version_in q
  Some (name, None, version)
description_in (p ∷ q ∷ r ∷ []) = do
  name ← content_name_in p
  mime ← text_in 16 q
  version ← version_in r
  Some (name, Some mime, version)
description_in _ = None

abbrev pub IsShortMime : Option (List ℕ) → Type 0
IsShortMime None = Unit {0}
IsShortMime (Some text) = length text ≤ MAX_MIME

-- an object within the limits of an object's numbers and texts
pub record IsWithinLimits (o : Object) : Type 0 where
  pub name : length o.name ≤ MAX_NAME
  pub mime : IsShortMime o.mime
  pub content_type : o.content.content_type ≤ MAX_TYPE
  pub subtype : o.content.subtype ≤ MAX_SUBTYPE
  pub tid : o.tid ≤ 65535
  pub body : length o.body ≤ MAX_BODY

-- a carousel whose directory can be written with segments of this size
pub record HasDirectory (c : Carousel) (segment_size : ℕ) : Type 0 where
  pub period : c.period ≤ MAX_PERIOD
  pub size : segment_size ≤ MAX_SEGMENT
  pub few : length c.objects ≤ MAX_OBJECTS
  pub objects : All IsWithinLimits c.objects
