use Rattle.std.proofs.Common.{refl}
use Rattle.mot_line_folder.proofs.OnlyReads.{stamped}
use Rattle.mot_line_folder.proofs.finder.Finder.open_found.Goals as goal

pub returns-then-is_unread-clause-kept : goal.returns-then-is_unread-clause-kept
returns-then-is_unread-clause-kept g c = (
  c.stamp-stamp.result,
  record { inner = g.S.System.calls c.stamp-stamp.new.system; seen = c.stamp-stamp.ensures; calls = c.close.ensures },
)

pub returns-clause-kept : goal.returns-clause-kept
returns-clause-kept g c = (refl, stamped c.stamp-stamp.ensures)
