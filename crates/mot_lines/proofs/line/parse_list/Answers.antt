use Rattle.std.proofs.Common.{sym}
use Rattle.mot_lines.specs.declared.line.Line.TheVariants as asks
use Rattle.mot_lines.proofs.Words.{alone_of-more}
use Rattle.mot_lines.proofs.line.parse_list.Goals as goal

pub returns-in-Some : goal.returns-in-Some
returns-in-Some c = sym (alone_of-more asks.List c.args.words c.in-Some.field-0 c.in-Some.is)
