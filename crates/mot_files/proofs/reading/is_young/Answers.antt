use Rattle.std.proofs.Common.{rules, refl}
use Rattle.mot_files.specs.Reading.AgeIs.{asked}
use Rattle.mot_files.proofs.reading.is_young.Goals as goal

pub returns-then-written-now : goal.returns-then-written-now
returns-then-written-now g c = asked _ c.if-at_once.false (search rules) c.in-Some.ensures

pub returns-else-written-now : goal.returns-else-written-now
returns-else-written-now g c = asked _ c.if-at_once.false (search rules) c.in-Some.ensures

pub returns-in-None : goal.returns-in-None
returns-in-None g c = asked _ c.if-at_once.false refl c.in-None.ensures
