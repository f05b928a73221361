use Rattle.std.proofs.Common.{◌≡◌, ◌∙◌, ap, subst, sym}
use Rattle.mot_files.specs.Reading.{IsRead, IsUnread}
use Rattle.mot_files.specs.Stamping.{stamp_at}
use Rattle.mot_files.proofs.Laws.{same_error}
use Rattle.mot_files.proofs.reading.read_stamped.Goals as goal

pub returns-in_err-named-clause-calls : goal.returns-in_err-named-clause-calls
returns-in_err-named-clause-calls g c =
    rw (same_error c.from_residual.result c.from_residual.ensures.1) ((
      c.now-now.result,
      subst (λ l. IsUnread c.args.path.now c.args.most c.args.at_once c.in_err-named.field-0.0 l
          (g.S.System.calls c.read_seen.new.system)) c.now-now.ensures c.in_err-named.ensures.calls,
    )
    )

pub returns-clause-calls : goal.returns-clause-calls
returns-clause-calls g c =
    let now = c.now-now.result in
    let read = subst (λ l. (is : IsRead c.args.path.now c.args.most c.args.at_once
    c.in_ok-named.bytes.items l (g.S.System.calls c.read_seen.new.system))
    × (is.named ≡ c.in_ok-named.named)) c.now-now.ensures c.in_ok-named.ensures.calls in
    (now, read.0, c.stamp_at-stamp.ensures ∙ ap (λ named. stamp_at named now) (sym read.1))
