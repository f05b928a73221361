use Rattle.std.proofs.Common.{ap, length, arith, sym, ◌∙◌}
use Rattle.mot_lines.proofs.Words.{next_word, some_words}
use Rattle.mot_lines.proofs.line.words.one_word.Goals as goal

pub returns-then-is_some : goal.returns-then-is_some
returns-then-is_some c =
    let one = next_word c.args.words c.cut_word.result.1 c.in_ok-words.field-0
    c.cut_word.result.0.now
    c.in_ok-words.was c.cut_word.ensures in
    let more = some_words c.cut_word.result.1 (sym c.is_some.ensures ∙ c.if-is_some.true) in
    omega (arith, ap length one, more)
