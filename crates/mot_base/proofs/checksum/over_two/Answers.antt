use Rattle.std.proofs.Common.{refl, ◌*◌, ◌%◌, arith}
use Rattle.std.specs.Int.RustNames.{bit_xor}
use Rattle.std.proofs.lemmas.Nat.{xor_lt}
use Rattle.mot_base.proofs.Halves.{word_over_two}
use Rattle.mot_base.proofs.checksum.over_two.Goals as goal

pub returns : goal.returns
returns c = λ n rest. word_over_two c.args.word c.args.next c.args.after n rest
    (bit_xor (c.args.word * 4294967296 % 18446744073709551616) c.args.word) refl
    (xor_lt 64 (c.args.word * 4294967296 % 18446744073709551616) c.args.word (omega arith)
    (omega arith))
