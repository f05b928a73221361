use Rattle.std.proofs.Common.{◌∙◌, ap}
use Rattle.mot_lines.specs.Line.{line_of}
use Rattle.mot_lines.proofs.Requests.{line_of-in_hand}
use Rattle.mot_lines.proofs.hand.Hand.as_slice.Goals as goal

pub returns-clause-asks : goal.returns-clause-asks
returns-clause-asks c = λ line is.
    ap line_of (c.as_slice.ensures.value ∙ c.self.view_is ∙ is) ∙ line_of-in_hand line
