-- Four words in front of the rest of a message.
use Rattle.std.specs.Prelude.{ℕ, Bool, List, ◌++◌}
use Rattle.std.specs.Int.{w64, to_le_bytes}
use Rattle.mot_base.specs.Checksum.{bits_of_bytes}
use Rattle.mot_base.specs.declared.checksum.Front.{Front}

-- the bits of a word's bytes, the lowest first
abbrev pub bits_of_word : ℕ → List Bool
bits_of_word word = bits_of_bytes (to_le_bytes w64 word)

abbrev pub words_before : Front → List Bool → List Bool
words_before front rest =
    bits_of_word front.first ++ (bits_of_word front.second
    ++ (bits_of_word front.third ++ (bits_of_word front.fourth ++ rest)))
