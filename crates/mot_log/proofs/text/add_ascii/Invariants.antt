use Rattle.std.proofs.Common.{◌≡◌, ◌++◌, map, take}
use Rattle.mot_log.specs.Text.{ascii_byte}
use Rattle.mot_log.proofs.text.add_ascii.Given as goal

abbrev pub invariant-loop-byte : goal.invariant-loop-byte
invariant-loop-byte l =
    l.text.items ≡ l.initial.text.items ++ map ascii_byte (take l.byte-index l.name)
