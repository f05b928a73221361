use Rattle.std.proofs.Common.{ap, length, arith}
use Rattle.mot_lines.proofs.Words.{no_words, more_words, next_word}
use Rattle.mot_lines.proofs.line.words.three_words.Goals as goal

pub returns-in_err-words : goal.returns-in_err-words
returns-in_err-words c =
    rw c.from_residual.ensures (omega (arith, no_words c.args.words c.in_err-words.was))

pub returns-in_err-rest : goal.returns-in_err-rest
returns-in_err-rest c =
    let one = next_word c.args.words c.cut_word.result.1 c.in_ok-words.field-0
    c.cut_word.result.0.now
    c.in_ok-words.was c.cut_word.ensures in
    rw c.from_residual-in_err-rest.ensures (
    omega (arith, ap length one, no_words c.cut_word.result.1 c.in_err-rest.was))

pub returns-in_err-rest-2 : goal.returns-in_err-rest-2
returns-in_err-rest-2 c =
    let one = next_word c.args.words c.cut_word.result.1 c.in_ok-words.field-0
    c.cut_word.result.0.now
    c.in_ok-words.was c.cut_word.ensures in
    let two = next_word c.cut_word.result.1 c.cut_word-2.result.1 c.in_ok-rest.field-0
    c.cut_word-2.result.0.now c.in_ok-rest.was c.cut_word-2.ensures in
    rw c.from_residual-in_err-rest-2.ensures (
    omega (arith, ap length one, ap length two, no_words c.cut_word-2.result.1 c.in_err-rest-2.was))

pub returns-in-Some : goal.returns-in-Some
returns-in-Some c =
    let one = next_word c.args.words c.cut_word.result.1 c.in_ok-words.field-0
    c.cut_word.result.0.now
    c.in_ok-words.was c.cut_word.ensures in
    let two = next_word c.cut_word.result.1 c.cut_word-2.result.1 c.in_ok-rest.field-0
    c.cut_word-2.result.0.now c.in_ok-rest.was c.cut_word-2.ensures in
    let three = next_word c.cut_word-2.result.1 c.cut_word-3.result.1 c.in_ok-rest-2.field-0
    c.cut_word-3.result.0.now c.in_ok-rest-2.was c.cut_word-3.ensures in
    let four = more_words c.cut_word-3.result.1 c.in-Some.field-0 c.in-Some.is in
    omega (arith, ap length one, ap length two, ap length three, four)
