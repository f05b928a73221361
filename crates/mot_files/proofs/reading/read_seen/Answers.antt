use Rattle.std.proofs.Common.{refl, subst}
use Rattle.mot_files.specs.Reading.{IsReadOpen, IsUnreadOpen}
use Rattle.mot_files.specs.Reading.IsUnread.{none, unnamed, unopened, within}
use Rattle.mot_files.proofs.Laws.{same_error, step}
use Rattle.mot_files.proofs.reading.read_seen.Goals as goal

pub returns-in_err-named-clause-calls : goal.returns-in_err-named-clause-calls
returns-in_err-named-clause-calls g c =
    rw (same_error c.from_residual.result c.from_residual.ensures.1) (
    unnamed _ refl c.in_err-named.ensures
    )

pub returns-then-not-is_regular-clause-calls : goal.returns-then-not-is_regular-clause-calls
returns-then-not-is_regular-clause-calls g c =
    none c.in_ok-named.named refl (λ is. let h = c.if-not-is_regular.ensures.1 is in cc)
    c.in_ok-named.ensures

pub returns-in_err-handle-clause-calls : goal.returns-in_err-handle-clause-calls
returns-in_err-handle-clause-calls g c =
    rw (same_error c.from_residual-in_err-handle.result c.from_residual-in_err-handle.ensures.1) (
    unopened c.in_ok-named.named _ refl (c.if-not-is_regular.ensures.0 refl)
    (step _ c.in_err-handle.ensures c.in_ok-named.ensures)
    )

pub returns-in_err-bytes-clause-calls : goal.returns-in_err-bytes-clause-calls
returns-in_err-bytes-clause-calls g c =
    rw (same_error c.from_residual-in_err-bytes.result c.from_residual-in_err-bytes.ensures.1) (
    within c.in_ok-named.named c.in_ok-handle.handle _ (c.if-not-is_regular.ensures.0 refl)
    (subst (λ calls. IsUnreadOpen c.in_ok-handle.handle c.in_ok-named.named c.args.most
    c.args.at_once c.in_err-bytes.field-0.0 calls (g.S.System.calls c.read_open-bytes.new.system))
    (step _ c.in_ok-handle.ensures c.in_ok-named.ensures) c.in_err-bytes.ensures.calls)
    c.close.ensures
    )

pub returns-clause-calls : goal.returns-clause-calls
returns-clause-calls g c = (
  record {
    named = c.in_ok-named.named;
    handle = c.in_ok-handle.handle;
    inner = g.S.System.calls c.read_open-bytes.new.system;
    regular = c.if-not-is_regular.ensures.0 refl;
    within = subst (λ calls. IsReadOpen c.in_ok-handle.handle c.in_ok-named.named c.args.most
        c.args.at_once c.in_ok-bytes.field-0.items calls (g.S.System.calls c.read_open-bytes.new.system))
        (step _ c.in_ok-handle.ensures c.in_ok-named.ensures) c.in_ok-bytes.ensures.calls;
    calls = c.close.ensures;
  },
  refl,
)
