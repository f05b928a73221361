use Rattle.std.proofs.Common.{refl, ap, sym, ◌∙◌}
use Rattle.mot_line_folder.specs.Spooling.Serves.{line_end, next, on}
use Rattle.mot_line_folder.proofs.spool.Spool.read_on.Goals as goal

pub returns-then-self-clause-serves : goal.returns-then-self-clause-serves
returns-then-self-clause-serves g c =
    line_end c.end_torn.result c.if-self.true refl c.end_torn.ensures.ends c.end_torn.ensures.open
    (ap (λ (f : _). g.S.System.calls f.system) c.end_torn.ensures.finder)

pub returns-in-Some-clause-serves : goal.returns-in-Some-clause-serves
returns-in-Some-clause-serves g c =
    on c.in-Some.lines c.if-self.false c.if-self-2.false (sym c.take.ensures.value ∙ c.in-Some.is) c.read_file.ensures.serves

pub returns-in-Some-open_next-clause-serves : goal.returns-in-Some-open_next-clause-serves
returns-in-Some-open_next-clause-serves g c =
    next c.in-Some-open_next.lines _ c.if-self.false c.if-self-2.false
    (sym c.take.ensures.value ∙ c.in_default.is) c.in-Some-open_next.ensures.finds
    c.read_file-in-Some-open_next.ensures.serves
