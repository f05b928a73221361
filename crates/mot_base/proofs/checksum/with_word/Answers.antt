use Rattle.std.proofs.Common.{◌+◌, ap, ◌∙◌}
use Rattle.mot_base.specs.Checksum.{remainder, added_to_front, bits_of}
use Rattle.mot_base.proofs.Words.{word_as_bytes}
use Rattle.mot_base.proofs.checksum.with_word.Goals as goal

pub returns : goal.returns
returns c = λ n rest.
    ap (λ l. remainder (64 + n) (added_to_front (bits_of 16 c.args.register) l))
    (word_as_bytes c.args.word c.to_le_bytes.result rest c.to_le_bytes.ensures)
    ∙ c.with_eight.ensures n rest
