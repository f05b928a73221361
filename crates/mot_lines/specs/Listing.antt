-- What `list` shows of the carousel.
use Rattle.std.specs.Prelude.{ℕ, List, [], ◌∷◌, ◌++◌, length, Option, Some, None, codes}
use Rattle.std.specs.List.{flat_map}
use Rattle.std.specs.Fmt.{decimal}
use Rattle.mot_lines.specs.Text.{field}
use Rattle.mot_objects.specs.Carousel.{Object, Carousel}
use Rattle.mot_objects.specs.Name.{ContentNumbers}
use Rattle.mot_objects.specs.declared.carousel.Carousel as kept
use Rattle.mot_objects.specs.declared.object.Object as one

-- a carousel's numbers, and how many objects it has
abbrev pub numbers_line : ℕ → ℕ → ℕ → ℕ → List ℕ
numbers_line period directory cursor count =
    codes "carousel " ++ field period ++ field directory ++ field cursor ++ decimal count ++ 10 ∷ []

-- `-` stands for none
abbrev pub mime_word : Option (List ℕ) → List ℕ
mime_word None = codes "-"
mime_word (Some mime) = mime

-- TID VERSION TYPE SUBTYPE LENGTH NAME MIME of an object, whose body has so many bytes
abbrev pub object_words : ℕ → ℕ → ContentNumbers → ℕ → List ℕ → Option (List ℕ) → List ℕ
object_words tid version content size name mime =
    codes "object " ++ field tid ++ field version
    ++ field content.content_type ++ field content.subtype ++ field size
    ++ name ++ codes " " ++ mime_word mime ++ 10 ∷ []

abbrev pub object_line : Object → List ℕ
object_line o = object_words o.tid o.version o.content (length o.body) o.name o.mime

-- what `list` shows: the carousel's numbers, and a line for each object in its order
abbrev pub listing_text : Carousel → List ℕ
listing_text c =
    numbers_line c.period c.directory c.cursor (length c.objects) ++ flat_map object_line c.objects

-- the same of a carousel whose bodies stand beside it
abbrev pub object_line_beside : one.Object → List ℕ
object_line_beside o = object_words o.tid o.version o.content o.length o.name o.mime

abbrev pub listing_text_beside : kept.Carousel → List ℕ
listing_text_beside c =
    numbers_line c.period c.directory c.cursor (length c.objects.items)
    ++ flat_map object_line_beside c.objects.items
