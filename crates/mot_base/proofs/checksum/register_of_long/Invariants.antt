use Rattle.std.proofs.Common.{◌≡◌, ◌+◌, ◌*◌, false, ◌++◌, length, replicate}
use Rattle.mot_base.specs.Checksum.{remainder, bits_of_bytes}
use Rattle.mot_base.specs.Inner.{words_before}
use Rattle.mot_base.proofs.checksum.register_of_long.Given as goal

-- what is left to divide, with the four words in front, has the remainder of the whole
abbrev pub invariant-loop-next : goal.invariant-loop-next
invariant-loop-next l =
    remainder (256 + 8 * length l.rest)
    (words_before l.front (bits_of_bytes l.rest ++ replicate 16 false))
    ≡ remainder (256 + 8 * length l.initial.rest)
    (words_before l.initial.front (bits_of_bytes l.initial.rest ++ replicate 16 false))

abbrev pub decreases-loop-next : goal.decreases-loop-next
decreases-loop-next l = length l.rest
