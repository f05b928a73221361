use Rattle.std.proofs.Common.{rules, refl}
use Rattle.mot_endpoints.proofs.ReadsOf.{further, kept_of}
use Rattle.mot_endpoints.proofs.types.read_open.Goals as goal

pub returns-in_err-len-clause-more : goal.returns-in_err-len-clause-more
returns-in_err-len-clause-more g c =
    further _ _ _ _ c.in_ok-held.ensures c.fill.ensures.more

pub returns-then-len-gt-MOST-clause-more : goal.returns-then-len-gt-MOST-clause-more
returns-then-len-gt-MOST-clause-more g c =
    further _ _ _ _ c.in_ok-held.ensures c.fill.ensures.more

pub returns-clause-more : goal.returns-clause-more
returns-clause-more g c = further _ _ _ _ c.in_ok-held.ensures c.fill.ensures.more

pub returns-clause-calls : goal.returns-clause-calls
returns-clause-calls g c = (
  c.in_ok-held.held,
  c.if-not-is_same.ensures.0 refl,
  rw c.in_ok-held.ensures at (kept_of c.args.handle c.in_ok-len.len c.in_ok-text.text.len
      c.fill.new.room _ c.truncate.new.self.items (g.S.System.calls c.look_at.new.self)
      (g.S.System.calls c.fill.new.system) c.truncate.ensures.items c.if-len-gt-MOST.false
      (search rules) (search rules) c.in_ok-len.ensures.ended),
)
