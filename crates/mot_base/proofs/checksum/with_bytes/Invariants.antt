use Rattle.std.proofs.Common.{◌≡◌, ◌*◌, false, ◌++◌, length, replicate, drop}
use Rattle.mot_base.specs.Checksum.{remainder, added_to_front, bits_of, bits_of_bytes}
use Rattle.mot_base.proofs.checksum.with_bytes.Given as goal

-- what is left to divide, with the register in front, has the remainder of the whole
abbrev pub invariant-loop-byte : goal.invariant-loop-byte
invariant-loop-byte l =
    let left = drop l.byte-index l.bytes in
    remainder (8 * length left)
    (added_to_front (bits_of 16 l.register) (bits_of_bytes left ++ replicate 16 false))
    ≡ remainder (8 * length l.bytes)
    (added_to_front (bits_of 16 l.fn.register) (bits_of_bytes l.bytes ++ replicate 16 false))
