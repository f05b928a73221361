-- The definitions, computed on worked rows.
use Rattle.std.proofs.Common.{◌≡◌, ◌++◌, [], ◌∷◌, Some, None, refl}
use Rattle.std.specs.Prelude.{codes}
use Rattle.mot_lines.specs.Fields.{number_of_word}
use Rattle.mot_numbers.specs.declared.refusal.Refusal.TheVariants.{BadLine}
use Rattle.mot_suffixes.specs.Images.{image_of_bytes, other_image}
use Rattle.mot_suffixes.specs.Shown.{shown}
use Rattle.mot_suffixes.specs.Types.{known_types, refusal_in, suffix_of, suffix_type, type_of_name}
use Rattle.mot_suffixes.specs.Types.{type_of_words, types_in}
use Rattle.mot_suffixes.specs.declared.images.ImageType.TheVariants.{Bmp, Gif, Jpeg, Png}

-- what follows the last dot, of a name that has one and does not begin with one
suffix_behind_two : suffix_of (codes "a.b.jpeg") ≡ Some (codes "jpeg")
suffix_behind_two = refl

no_suffix : suffix_of (codes "png") ≡ None
no_suffix = refl

no_suffix_hidden : suffix_of (codes ".a.png") ≡ None
no_suffix_hidden = refl

-- whatever the case, and the later line counts
known_type : type_of_name known_types (codes "A.PnG")
    ≡ Some (suffix_type (codes "png") 2 3 (codes "image/png"))
known_type = refl

later_type : type_of_name (known_types ++ suffix_type (codes "PNG") 2 9 (codes "a/b") ∷ [])
    (codes "a.png")
    ≡ Some (suffix_type (codes "PNG") 2 9 (codes "a/b"))
later_type = refl

unknown_type : type_of_name known_types (codes "a.svg") ≡ None
unknown_type = refl

-- an empty line and one that begins with `#` say nothing
said_types : types_in (codes "# own\n\nsvg 2 0 a/b\nx 1 1 c/d")
    ≡ suffix_type (codes "svg") 2 0 (codes "a/b") ∷ suffix_type (codes "x") 1 1 (codes "c/d") ∷ []
unfolding number_of_word type_of_words
said_types = refl

-- what stands behind a line that is refused is not added
said_before : types_in (codes "svg 2 0 a/b\nsvg 2 0\nx 1 1 c/d")
    ≡ suffix_type (codes "svg") 2 0 (codes "a/b") ∷ []
unfolding number_of_word type_of_words
said_before = refl

refused_line_of_types : refusal_in (codes "svg 2 0 a/b\nsvg 2 0\nx 1 1 c/d") ≡ Some BadLine
unfolding number_of_word type_of_words
refused_line_of_types = refl

-- a control character is shown as `?`, of C0, of C1 and 0x7F; U+00A0 is none, nor is a byte alone
lines_in_a_name : shown (codes "a\nb\tc") ≡ codes "a?b?c"
lines_in_a_name = refl

controls_in_a_name : shown (127 ∷ 194 ∷ 128 ∷ 194 ∷ 159 ∷ codes "a") ≡ codes "???a"
controls_in_a_name = refl

others_in_a_name : shown (194 ∷ 160 ∷ 195 ∷ 164 ∷ 133 ∷ 194 ∷ [])
    ≡ 194 ∷ 160 ∷ 195 ∷ 164 ∷ 133 ∷ 194 ∷ []
others_in_a_name = refl

-- the image type that bytes begin as: all of its first bytes are there
gif_of_1987 : image_of_bytes (codes "GIF87a") ≡ Some Gif
gif_of_1987 = refl

gif_of_1989 : image_of_bytes (codes "GIF89a..") ≡ Some Gif
gif_of_1989 = refl

no_gif : image_of_bytes (codes "GIF88a") ≡ None
no_gif = refl

bitmap : image_of_bytes (codes "BM") ≡ Some Bmp
bitmap = refl

jpeg : image_of_bytes (255 ∷ 216 ∷ 255 ∷ 224 ∷ []) ≡ Some Jpeg
jpeg = refl

cut_jpeg : image_of_bytes (255 ∷ 216 ∷ []) ≡ None
cut_jpeg = refl

no_bytes : image_of_bytes [] ≡ None
no_bytes = refl

-- a PNG under the suffix of a JPEG; under its own; and under that of a text
png_as_jpeg : other_image (record { content_type = 2; subtype = 1 })
    (137 ∷ 80 ∷ 78 ∷ 71 ∷ 13 ∷ 10 ∷ 26 ∷ 10 ∷ 0 ∷ [])
    ≡ Some (record { by_suffix = Jpeg; by_bytes = Some Png })
png_as_jpeg = refl

png_as_png : other_image (record { content_type = 2; subtype = 3 })
    (137 ∷ 80 ∷ 78 ∷ 71 ∷ 13 ∷ 10 ∷ 26 ∷ 10 ∷ 0 ∷ []) ≡ None
png_as_png = refl

bitmap_as_text : other_image (record { content_type = 1; subtype = 0 }) (codes "BM") ≡ None
bitmap_as_text = refl

-- another image of content type 2 is none of the four
bitmap_as_another : other_image (record { content_type = 2; subtype = 4 }) (codes "BM") ≡ None
bitmap_as_another = refl
