-- The definitions, computed on the worked rows.
use Rattle.std.proofs.Common.{◌≡◌, ℕ, List, [], ◌∷◌, ◌++◌, Some, None, refl}
use Rattle.std.specs.Prelude.{codes}
use Rattle.mot_directory.specs.Parameter.{read_parameters}
use Rattle.mot_directory.specs.Header.{read_header, bytes_of_header}
use Rattle.mot_directory.specs.Directory.{read_directory, bytes_of_directory}
use Rattle.mot_directory.specs.Entries.{header_of, directory_of}
use Rattle.mot_directory.specs.declared.header.TheConstants.{MAX_HEADER}
use Rattle.mot_directory.specs.declared.directory.TheConstants.{MAX_DIRECTORY}
use Rattle.mot_objects.specs.Carousel.{Object, Carousel, new_carousel}

abbrev picture : Object
picture = record {
  name = codes "a";
  content = record { content_type = 2; subtype = 3 };
  mime = Some (codes "image/png");
  version = 0;
  tid = 2;
  body = 1 ∷ 2 ∷ 3 ∷ 4 ∷ 5 ∷ [];
}

abbrev header : List ℕ
header =
    0x00 ∷ 0x00 ∷ 0x00 ∷ 0x50 ∷ 0x0C ∷ 0x04 ∷ 0x03 ∷ 0xCC ∷ 0x02 ∷ 0xF0 ∷ 0x61 ∷ 0xD0 ∷ 0x09 ∷ 0x69
    ∷ 0x6D
    ∷ 0x61 ∷ 0x67 ∷ 0x65 ∷ 0x2F ∷ 0x70 ∷ 0x6E ∷ 0x67 ∷ 0x46 ∷ 0x00 ∷ []

header_reads : read_header header ≡ Some (header_of picture)
unfolding read_header read_parameters
header_reads = refl

header_is_written : bytes_of_header (header_of picture) ≡ header
unfolding bytes_of_header
header_is_written = refl

-- a byte more than HeaderSize
too_long : read_header (header ++ 0x00 ∷ []) ≡ None
unfolding read_header read_parameters
too_long = refl

abbrev alone : Carousel
alone = record { period = 0; directory = 3; cursor = 3; objects = picture ∷ [] }

abbrev directory : List ℕ
directory =
    0x00 ∷ 0x00 ∷ 0x00 ∷ 0x27 ∷ 0x00 ∷ 0x01 ∷ 0x00 ∷ 0x00 ∷ 0x00 ∷ 0x04 ∷ 0x00 ∷ 0x00 ∷ 0x00 ∷ 0x00
    ∷ 0x02
    ∷ header

directory_reads : read_directory directory ≡ Some (directory_of alone 1024)
unfolding read_directory read_header read_parameters
directory_reads = refl

directory_is_written : bytes_of_directory (directory_of alone 1024) ≡ directory
unfolding bytes_of_directory bytes_of_header
directory_is_written = refl

abbrev empty : List ℕ
empty =
    0x00 ∷ 0x00 ∷ 0x00 ∷ 0x0D ∷ 0x00 ∷ 0x00 ∷ 0x00 ∷ 0x00 ∷ 0x00 ∷ 0x04 ∷ 0x00 ∷ 0x00 ∷ 0x00 ∷ []

empty_reads : read_directory empty ≡ Some (directory_of new_carousel 1024)
unfolding read_directory
empty_reads = refl

-- the compression flag
compressed : read_directory
    (0x80 ∷ 0x00 ∷ 0x00 ∷ 0x0D ∷ 0x00 ∷ 0x00 ∷ 0x00 ∷ 0x00 ∷ 0x00 ∷ 0x04 ∷ 0x00 ∷ 0x00 ∷ 0x00 ∷ [])
    ≡ None
unfolding read_directory
compressed = refl

-- the limits
max_header : MAX_HEADER ≡ 334
max_header = refl

max_directory : MAX_DIRECTORY ≡ 84013
max_directory = refl
