use Rattle.mot_lines.specs.Fields.{words_after}
use Rattle.mot_lines.specs.Line.{raw_of}
use Rattle.mot_lines.proofs.Memory.{parsed, raw-needs}
use Rattle.mot_lines.proofs.line.parse_request.Goals as goal

pub returns-in-Some-Raw : goal.returns-in-Some-Raw
returns-in-Some-Raw c = let words = words_after c.args.words in
    rw (c.in-Some-Raw.is, rw c.in-Some-Raw.is at c.in-Some-Raw.field-0-is)
    (parsed c.parse_raw.result (raw_of words) (raw-needs words) c.parse_raw.ensures)
