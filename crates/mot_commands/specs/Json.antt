-- A carousel as JSON, each line an object.
use Rattle.std.specs.Prelude.{ℕ, Bool, List, [], ◌∷◌, ◌++◌, flat_map, length, Option, None, Some}
use Rattle.std.specs.Prelude.{codes}
use Rattle.json.specs.Token.{Token, boolean, null, string}
use Rattle.mot_export.specs.Json.{count, json_line}
use Rattle.mot_journal.specs.declared.layout.Layout.{Layout}
use Rattle.mot_journal.specs.declared.layout.Layout.TheVariants.{One, Two}
use Rattle.mot_objects.specs.Carousel.{Carousel, Object}
use Rattle.mot_objects.specs.Name.{ContentNumbers}

-- a carousel's numbers, and how many objects it has
abbrev pub numbers_json : (period directory cursor objects : ℕ) → List ℕ
numbers_json period directory cursor objects = json_line (
    (codes "period", count period) ∷ (codes "directory", count directory)
    ∷ (codes "cursor", count cursor) ∷ (codes "objects", count objects) ∷ [])

abbrev pub mime_token : Option (List ℕ) → Token
mime_token (Some mime) = string mime
mime_token None = null

-- an object, whose body has so many bytes
abbrev pub object_members : (tid version : ℕ) → ContentNumbers → (size : ℕ) → (name : List ℕ)
    → Option (List ℕ) → List ℕ
object_members tid version content size name mime = json_line (
    (codes "tid", count tid) ∷ (codes "version", count version)
    ∷ (codes "type", count content.content_type) ∷ (codes "subtype", count content.subtype)
    ∷ (codes "length", count size) ∷ (codes "name", string name)
    ∷ (codes "mime", mime_token mime) ∷ [])

abbrev pub object_json : Object → List ℕ
object_json o = object_members o.tid o.version o.content (length o.body) o.name o.mime

-- a line for the numbers, and one for each object in its order
abbrev pub carousel_json : Carousel → List ℕ
carousel_json c =
    numbers_json c.period c.directory c.cursor (length c.objects) ++ flat_map object_json c.objects

abbrev pub layout_number : Layout → ℕ
layout_number One = 1
layout_number Two = 2

-- whether a disk is clean, and its layout
abbrev pub report_line : Bool → Layout → List ℕ
report_line clean layout = json_line (
    (codes "clean", boolean clean) ∷ (codes "layout", count (layout_number layout)) ∷ [])
