-- The lines of the known suffixes say the table.
use Rattle.std.proofs.Common.{◌≡◌, ◌++◌, refl}
use Rattle.std.specs.Prelude.{codes}
use Rattle.mot_lines.specs.Fields.{number_of_word}
use Rattle.mot_suffixes.specs.Types.{known_types, type_of_words, types_in}

-- the text of the known suffixes says their table
pub known : types_in (codes "txt 1 0 text/plain\nhtml 1 2 text/html\nhtm 1 2 text/html\n"
    ++ codes "xml 0 1 text/xml\ngif 2 0 image/gif\njpg 2 1 image/jpeg\njpeg 2 1 image/jpeg\n"
    ++ codes "bmp 2 2 image/bmp\npng 2 3 image/png\n")
    ≡ known_types
unfolding number_of_word type_of_words
known = refl
