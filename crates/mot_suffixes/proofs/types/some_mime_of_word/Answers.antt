use Rattle.std.proofs.Common.{◌∙◌, ap}
use Rattle.mot_suffixes.proofs.types.some_mime_of_word.Goals as goal
use Rattle.mot_suffixes.proofs.Said.{answer-ok, answer-why, mime-answer}
use Rattle.mot_suffixes.specs.Types.{some_mime_in}

pub returns-clause-taken : goal.returns-clause-taken
returns-clause-taken c = answer-ok c.new.result (some_mime_in c.args.word.now)
    (mime-answer c.in_ok-bytes.bytes.items c.new.result c.new.ensures.valid c.new.ensures.value
    c.new.ensures.refused ∙ ap some_mime_in c.in_ok-bytes.ensures.items)

pub returns-clause-why : goal.returns-clause-why
returns-clause-why c = answer-why c.new.result (some_mime_in c.args.word.now)
    (mime-answer c.in_ok-bytes.bytes.items c.new.result c.new.ensures.valid c.new.ensures.value
    c.new.ensures.refused ∙ ap some_mime_in c.in_ok-bytes.ensures.items)
