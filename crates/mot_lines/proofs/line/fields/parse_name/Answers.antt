use Rattle.std.proofs.Common.{inl}
use Rattle.mot_lines.proofs.Asked.{name_answer}
use Rattle.mot_lines.proofs.line.fields.parse_name.Goals as goal

pub returns : goal.returns
returns c = rw (← c.in_ok-bytes.ensures.items)
    (inl (name_answer c.in_ok-bytes.bytes.items c.new.result
    c.new.ensures.valid c.new.ensures.value c.new.ensures.refused))
