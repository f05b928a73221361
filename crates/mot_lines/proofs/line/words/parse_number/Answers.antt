use Rattle.std.proofs.Common.{◌≡◌, ◌≢◌, length, Some, true, sym, ap, ◌∙◌, get_or, arith, subst}
use Rattle.std.specs.List.{list_all}
use Rattle.std.specs.Char.{is_ascii_digit}
use Rattle.std.proofs.lemmas.Bool.{eqb-true, eqb-false}
use Rattle.std.proofs.lemmas.List.{take_all}
use Rattle.mot_lines.specs.Fields.{decimal_value}
use Rattle.mot_lines.proofs.Numbers.{number_of_empty, number_of_long, number_of_other}
use Rattle.mot_lines.proofs.Numbers.{number_of_digits, decimal_value-more, digits-more, digit-high}
use Rattle.mot_lines.proofs.Numbers.{power-more}
use Rattle.mot_lines.proofs.line.words.parse_number.Goals as goal
use Rattle.mot_lines.proofs.line.words.parse_number.Goals.{then-is_empty-via-then-is_empty}
use Rattle.mot_lines.proofs.line.words.parse_number.Goals.{then-is_empty-via-else-is_empty+then-word-gt10}

pub returns-then-is_empty : goal.returns-then-is_empty
returns-then-is_empty c = elim c.then-is_empty.branch [
  | then-is_empty-via-then-is_empty w ↦ sym (number_of_empty c.args.word.now
      (eqb-true _ 0 (sym c.is_empty.ensures ∙ w.if-is_empty.true)))
  | then-is_empty-via-else-is_empty+then-word-gt10 w ↦ sym
      (number_of_long c.args.word.now w.if-word-gt10.true)
]

pub returns-then-not-is_ascii_digit : goal.returns-then-not-is_ascii_digit
returns-then-not-is_ascii_digit c =
    sym (number_of_other c.args.word.now c.loop-digit.digit-index c.loop-digit-test.true
    (sym c.is_ascii_digit.ensures.value ∙ c.if-not-is_ascii_digit.true))

pub loop-digit-preserved : goal.loop-digit-preserved
loop-digit-preserved c =
    let so_far = c.loop-digit.invariant in
    let digit : is_ascii_digit (get_or c.args.word.now c.loop-digit.digit-index 0) ≡ true =
    sym c.is_ascii_digit.ensures.value ∙ c.if-not-is_ascii_digit.false in
    record {
      short = so_far.short;
      small = power-more c.loop-digit.number c.loop-digit.digit-index c.from.result so_far.small
          (omega (
            arith,
            c.from.ensures,
            digit-high (get_or c.args.word.now c.loop-digit.digit-index 0)
                digit,
          ));
      digits = digits-more c.args.word.now c.loop-digit.digit-index c.loop-digit-test.true
          so_far.digits
          digit;
      value = rw (so_far.value, c.from.ensures) (sym
          (decimal_value-more c.args.word.now c.loop-digit.digit-index c.loop-digit-test.true));
    }

pub returns : goal.returns
returns c =
    let so_far = c.loop-digit.invariant in
    let all = take_all c.loop-digit.digit-index c.args.word.now c.loop-digit-test.false in
    ap Some (so_far.value ∙ ap decimal_value all)
    ∙ sym (number_of_digits c.args.word.now (let some : length c.args.word.now ≢ 0 =
    eqb-false _ 0 (sym c.is_empty.ensures ∙ c.if-is_empty.false) in omega arith)
    c.if-word-gt10.false
    (subst (λ w. list_all is_ascii_digit w ≡ true) all so_far.digits))
