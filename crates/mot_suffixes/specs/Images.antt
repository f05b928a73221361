-- Which image type a file is of: by its suffix, and by its first bytes.
use Rattle.std.specs.Prelude.{ℕ, Bool, ◌||◌, nat_eq, if◌then◌else◌, List, [], ◌∷◌, codes, Option}
use Rattle.std.specs.Prelude.{Some, None}
use Rattle.std.specs.List.{starts_with}
use Rattle.mot_objects.specs.Name.{ContentNumbers}
use Rattle.mot_suffixes.specs.declared.images.ImageType.{ImageType}
use Rattle.mot_suffixes.specs.declared.images.ImageType.TheVariants.{Bmp, Gif, Jpeg, Png}
use Rattle.mot_suffixes.specs.declared.images.OtherImage.{OtherImage}

-- the image types of the table of suffixes (TS 101 756, table 17): content type 2, and the subtype
abbrev pub image_of_subtype : ℕ → Option ImageType
image_of_subtype subtype =
    if nat_eq subtype 0 then Some Gif
    else if nat_eq subtype 1 then Some Jpeg
    else if nat_eq subtype 2 then Some Bmp
    else if nat_eq subtype 3 then Some Png
    else None

abbrev pub image_of_content : ContentNumbers → Option ImageType
image_of_content c = if nat_eq c.content_type 2 then image_of_subtype c.subtype else None

abbrev pub begins_with : List ℕ → List ℕ → Bool
begins_with front bytes = starts_with nat_eq bytes front

-- the first bytes of each
abbrev pub has_signature : ImageType → List ℕ → Bool
has_signature Gif bytes = begins_with (codes "GIF87a") bytes || begins_with (codes "GIF89a") bytes
has_signature Jpeg bytes = begins_with (255 ∷ 216 ∷ 255 ∷ []) bytes
has_signature Bmp bytes = begins_with (codes "BM") bytes
has_signature Png bytes =
    begins_with (137 ∷ 80 ∷ 78 ∷ 71 ∷ 13 ∷ 10 ∷ 26 ∷ 10 ∷ []) bytes

-- the image type that these bytes begin as
abbrev pub image_of_bytes : List ℕ → Option ImageType
image_of_bytes bytes =
    if has_signature Gif bytes then Some Gif
    else if has_signature Jpeg bytes then Some Jpeg
    else if has_signature Bmp bytes then Some Bmp
    else if has_signature Png bytes then Some Png
    else None

abbrev pub unless_so : Option ImageType → List ℕ → Option OtherImage
unless_so None bytes = None
unless_so (Some said) bytes =
    if has_signature said bytes then None
    else Some (record { by_suffix = said; by_bytes = image_of_bytes bytes })

-- An object of this content is to be an image, and its bytes begin otherwise: as another image, or
-- as none of these.
abbrev pub other_image : ContentNumbers → List ℕ → Option OtherImage
other_image c bytes = unless_so (image_of_content c) bytes
