use Rattle.std.proofs.Common.{sym, inl}
use Rattle.mot_lines.proofs.Requests.{line_of-long, line_of-short, request_of-first}
use Rattle.mot_lines.specs.Fields.{words_after}
use Rattle.mot_lines.proofs.line.parse_line.Goals as goal

pub returns-then-line-gt-MAX_LINE : goal.returns-then-line-gt-MAX_LINE
returns-then-line-gt-MAX_LINE c =
    inl (sym (line_of-long c.args.line.now c.if-line-gt-MAX_LINE.true))

pub returns : goal.returns
returns c = rw (
  line_of-short c.args.line.now c.if-line-gt-MAX_LINE.false,
  c.cut_word.ensures,
  request_of-first c.cut_word.result.0.now (words_after c.cut_word.result.1),
  ← c.of.ensures,
)
    c.parse_request.ensures
