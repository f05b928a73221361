use Rattle.std.proofs.Common.{◌≡◌, ◌+◌, ◌*◌, false, ◌++◌, length, replicate}
use Rattle.mot_base.specs.Checksum.{remainder, bits_of_bytes}
use Rattle.mot_base.specs.Inner.{words_before}
use Rattle.mot_base.proofs.checksum.Front.over_fours.Given as goal

-- what is left to divide, with the four words in front, has the remainder of the whole
abbrev pub invariant-loop-later : goal.invariant-loop-later
invariant-loop-later l =
    remainder (256 + 8 * length l.rest)
    (words_before l.front (bits_of_bytes l.rest ++ replicate 16 false))
    ≡ remainder (256 + 8 * length l.initial.rest)
    (words_before l.initial.front (bits_of_bytes l.initial.rest ++ replicate 16 false))

abbrev pub decreases-loop-later : goal.decreases-loop-later
decreases-loop-later l = length l.rest
