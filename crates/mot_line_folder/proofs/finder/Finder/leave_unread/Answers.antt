use Rattle.std.proofs.Common.{◌∙◌, ap}
use Rattle.mot_line_folder.proofs.finder.Finder.leave_unread.Goals as goal

pub returns-clause-leaves : goal.returns-clause-leaves
returns-clause-leaves g c = (
  c.stamp-stamp.result,
  record {
    inner = g.S.System.calls c.stamp-stamp.new.system;
    seen = c.stamp-stamp.ensures;
    calls = ap (λ (s : _). g.S.System.calls s) c.tell_fault.ensures.system ∙ c.close.ensures;
  },
)
