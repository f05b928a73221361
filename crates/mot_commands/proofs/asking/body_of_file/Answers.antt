use Rattle.std.proofs.Common.{inl, subst, true}
use Rattle.mot_commands.proofs.asking.body_of_file.Goals as goal
use Rattle.mot_files.specs.Reading.{IsUnread}

pub returns-in-Err : goal.returns-in-Err
returns-in-Err g c = inl (
  c.in-Err.unread,
  c.refuse_unread.ensures,
  subst (λ most. IsUnread c.args.path.now most true c.in-Err.unread
      (g.Y.System.calls c.args.system.now) (g.Y.System.calls c.read_file.new.system))
      c.from.ensures c.in-Err.ensures.calls,
)
