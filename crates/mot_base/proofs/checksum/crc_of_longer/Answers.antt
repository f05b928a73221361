use Rattle.std.proofs.Common.{length, sym, ap, ◌∙◌, arith}
use Rattle.std.proofs.lemmas.List.{take_all}
use Rattle.mot_base.specs.Checksum.{crc_of}
use Rattle.mot_base.proofs.checksum.crc_of_longer.Goals as goal

pub slice_bounds-crc_at_length-end : goal.slice_bounds-crc_at_length-end
slice_bounds-crc_at_length-end c =
    sym (ap length (take_all 94 c.args.bytes.now (omega arith)) ∙ c.if-bytes-eq-LONGEST.true)

pub returns-then-bytes-eq-LONGEST : goal.returns-then-bytes-eq-LONGEST
returns-then-bytes-eq-LONGEST c =
    c.crc_at_length.ensures ∙ ap crc_of (take_all 94 c.args.bytes.now (omega arith))
