-- How long headers and directories within the limits are, and that their lengths fit.
use Rattle.std.proofs.Common.{◌≡◌, ℕ, ◌+◌, ◌*◌, ◌^◌, ◌<◌, ◌≤◌, List, [], ◌∷◌, ◌++◌, Bool, true}
use Rattle.std.proofs.Common.{false, refl, length, map, All, Option, Some, None, arith, ap, ◌∙◌}
use Rattle.std.proofs.Common.{length-append}
use Rattle.std.proofs.lemmas.Bool.{le-leb, leb-true}
use Rattle.std.proofs.lemmas.List.{length-map}
use Rattle.std.proofs.lemmas.List.Elements.{All-cons, All-nil, All-head, All-tail, All-map}
use Rattle.std.proofs.lemmas.List.Elements.{All-weaker}
use Rattle.std.specs.Prelude.{if◌then◌else◌, nat_le}
use Rattle.mot_directory.specs.Parameter.{OneByte, Short, Long, IsParameter, bytes_of_parameter}
use Rattle.mot_directory.specs.Header.{IsHeader, bytes_of_header, bytes_of_extension}
use Rattle.mot_directory.specs.Directory.{Entry, IsEntry, IsDirectory, bytes_of_entry}
use Rattle.mot_directory.specs.Directory.{bytes_of_entries, bytes_of_directory, read_directory}
use Rattle.mot_directory.specs.Directory.{text_size, mime_size}
use Rattle.mot_directory.specs.Entries.{text_parameter, parameters_with, entry_of, directory_of}
use Rattle.mot_directory.specs.Entries.{IsShortMime, IsWithinLimits, HasDirectory}
use Rattle.mot_directory.proofs.ReadBack.{read_directory-bytes_of_directory}
use Rattle.mot_objects.specs.Carousel.{Object, Carousel}
use Rattle.mot_objects.specs.Name.{ContentNumbers}

length-by_form : (id : ℕ) (text : List ℕ) (b : Bool) →
    length (bytes_of_parameter (if b then Short id text else Long id text))
    ≡ (if b then 2 + length text else 3 + length text)
length-by_form id text true = omega arith
length-by_form id text false = omega arith

length-text_parameter : (id : ℕ) (text : List ℕ) →
    length (bytes_of_parameter (text_parameter id text)) ≡ text_size (length text)
length-text_parameter id text = length-by_form id text (nat_le (length text) 127)

length-name_parameter : (name : List ℕ) →
    length (bytes_of_parameter (text_parameter 12 (240 ∷ name))) ≡ text_size (1 + length name)
length-name_parameter name =
    let longer : length (240 ∷ name) ≡ 1 + length name = omega arith in
    length-text_parameter 12 (240 ∷ name) ∙ ap text_size longer

-- the length of a header, by its texts
pub length-extension : (name : List ℕ) (mime : Option (List ℕ)) (version : ℕ) →
    7 + length (bytes_of_extension (parameters_with name mime version))
    ≡ 7 + text_size (1 + length name) + mime_size mime + 2
length-extension name None version =
    let first : List ℕ = bytes_of_parameter (text_parameter 12 (240 ∷ name)) in
    ap (λ n. 7 + n) (length-append first (70 ∷ version ∷ []))
    ∙ omega (arith, length-name_parameter name)
length-extension name (Some mime) version =
    let first : List ℕ = bytes_of_parameter (text_parameter 12 (240 ∷ name)) in
    let second : List ℕ = bytes_of_parameter (text_parameter 16 mime) in
    let last : List ℕ = 70 ∷ version ∷ [] in
    ap (λ n. 7 + n)
    (length-append first (second ++ last) ∙ ap (λ n. length first + n) (length-append second last))
    ∙ omega (arith, length-name_parameter name, length-text_parameter 16 mime)

text_size-by_form : (n : ℕ) (b : Bool) → (if b then 2 + n else 3 + n) ≤ 3 + n
text_size-by_form n true = omega arith
text_size-by_form n false = omega arith

text_size-le : (n : ℕ) → text_size n ≤ 3 + n
text_size-le n = text_size-by_form n (nat_le n 127)

mime_size-le : (mime : Option (List ℕ)) → IsShortMime mime → mime_size mime ≤ 66
mime_size-le None m = omega arith
mime_size-le (Some mime) m = rw (le-leb (length mime) 127 (omega arith)) (omega arith)

IsParameter-by_form : (id : ℕ) (text : List ℕ) (b : Bool) → nat_le (length text) 127 ≡ b →
    id < 2 ^ 6 → length text < 2 ^ 15 → IsParameter (if b then Short id text else Long id text)
IsParameter-by_form id text true e i l = (i, omega (arith, leb-true (length text) 127 e))
IsParameter-by_form id text false e i l = (i, l)

IsParameter-text_parameter : (id : ℕ) (text : List ℕ) → id < 2 ^ 6 → length text < 2 ^ 15 →
    IsParameter (text_parameter id text)
IsParameter-text_parameter id text = IsParameter-by_form id text (nat_le (length text) 127) refl

are_parameters : (name : List ℕ) (mime : Option (List ℕ)) (version : ℕ) → length name ≤ 255 →
    IsShortMime mime → All IsParameter (parameters_with name mime version)
are_parameters name None version n m =
    All-cons IsParameter (text_parameter 12 (240 ∷ name)) (OneByte 6 version ∷ [])
    (IsParameter-text_parameter 12 (240 ∷ name) (omega arith) (omega arith))
    (All-cons IsParameter (OneByte 6 version) [] (omega arith) (All-nil IsParameter))
are_parameters name (Some mime) version n m =
    All-cons IsParameter (text_parameter 12 (240 ∷ name))
    (text_parameter 16 mime ∷ OneByte 6 version ∷ [])
    (IsParameter-text_parameter 12 (240 ∷ name) (omega arith) (omega arith))
    (All-cons IsParameter (text_parameter 16 mime) (OneByte 6 version ∷ [])
    (IsParameter-text_parameter 16 mime (omega arith) (omega arith))
    (All-cons IsParameter (OneByte 6 version) [] (omega arith) (All-nil IsParameter)))

le_by : (a b n : ℕ) → a ≡ b → b ≤ n → a ≤ n
le_by a b n e l = omega arith

lt_by : (a b n : ℕ) → a ≡ b → b < n → a < n
lt_by a b n e l = omega arith

-- a header whose numbers and texts are within the limits
pub IsHeader-header : (name : List ℕ) (mime : Option (List ℕ)) (version : ℕ)
    (content : ContentNumbers)
    (body : ℕ) → length name ≤ 255 → IsShortMime mime → content.content_type ≤ 63 →
    content.subtype ≤ 511 → body ≤ 262144 →
    IsHeader (record {
      body_size = body;
      content = content;
      parameters =
          parameters_with name mime version;
    })
IsHeader-header name mime version content body short short_mime content_type subtype few = record {
  body_size = omega arith;
  header_size = lt_by (7 + length (bytes_of_extension (parameters_with name mime version)))
      (7 + text_size (1 + length name) + mime_size mime + 2) (2 ^ 13)
      (length-extension name mime version)
      (omega (arith, text_size-le (1 + length name), mime_size-le mime short_mime));
  content_type = omega arith;
  subtype = omega arith;
  parameters = are_parameters name mime version short short_mime;
}

IsEntry-entry_of : (o : Object) → IsWithinLimits o → IsEntry (entry_of o)
IsEntry-entry_of o l = record {
  tid = omega (arith, l.tid);
  header = IsHeader-header o.name o.mime o.version o.content (length o.body)
      l.name l.mime l.content_type l.subtype l.body;
}

-- an entry has two bytes for its id, seven of the header's core, and its extension
pub length-bytes_of_entry : (e : Entry) →
    length (bytes_of_entry e) ≡ 2 + (7 + length (bytes_of_extension e.header.parameters))
unfolding bytes_of_header
length-bytes_of_entry e = omega arith

entry_of-size : (o : Object) → IsWithinLimits o → length (bytes_of_entry (entry_of o)) ≤ 336
entry_of-size o l =
    le_by (length (bytes_of_entry (entry_of o)))
    (2 + (7 + text_size (1 + length o.name) + mime_size o.mime + 2)) 336
    (length-bytes_of_entry (entry_of o)
    ∙ ap (λ n. 2 + n) (length-extension o.name o.mime o.version))
    (omega (arith, text_size-le (1 + length o.name), mime_size-le o.mime l.mime, l.name))

entries_of-size : (objects : List Object) → All IsWithinLimits objects →
    length (bytes_of_entries (map entry_of objects)) ≤ 336 * length objects
entries_of-size [] all = omega arith
entries_of-size (o ∷ objects) all =
    omega (
      arith,
      length-append (bytes_of_entry (entry_of o)) (bytes_of_entries (map entry_of objects)),
      entry_of-size o (All-head IsWithinLimits o objects all),
      entries_of-size objects (All-tail IsWithinLimits o objects all),
    )

-- a carousel within the limits has a directory whose lengths fit
IsDirectory-directory_of : (c : Carousel) (segment_size : ℕ) → HasDirectory c segment_size →
    IsDirectory (directory_of c segment_size)
IsDirectory-directory_of c segment_size has =
    let few : length (map entry_of c.objects) ≡ length c.objects = length-map c.objects entry_of in
    record {
      directory_size = omega (arith, entries_of-size c.objects has.objects, has.few);
      count = omega (arith, has.few);
      period = omega (arith, has.period);
      segment_size = omega (arith, has.size);
      entries = All-map IsEntry entry_of c.objects
          (All-weaker IsWithinLimits (λ o. IsEntry (entry_of o)) IsEntry-entry_of c.objects
          has.objects);
    }

-- a carousel's directory, where it has one, reads back from its bytes
pub read_directory-directory_of : (c : Carousel) (segment_size : ℕ) → HasDirectory c segment_size →
    read_directory (bytes_of_directory (directory_of c segment_size))
    ≡ Some (directory_of c segment_size)
read_directory-directory_of c segment_size has =
    read_directory-bytes_of_directory (directory_of c segment_size)
    (IsDirectory-directory_of c segment_size has)

-- and has at most so many bytes, and at least those of its header
pub length-directory_of : (c : Carousel) (segment_size : ℕ) → HasDirectory c segment_size →
    (0 < length (bytes_of_directory (directory_of c segment_size)))
    × (length (bytes_of_directory (directory_of c segment_size)) ≤ 84013)
unfolding bytes_of_directory
length-directory_of c segment_size has =
    let entries : List ℕ = bytes_of_entries (map entry_of c.objects) in
    let all : length (bytes_of_directory (directory_of c segment_size)) ≡ 13 + length entries =
    omega arith in (
      omega (arith, all),
      omega (arith, all, entries_of-size c.objects has.objects, has.few),
    )
