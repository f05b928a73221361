use Rattle.std.proofs.Common.{refl}
use Rattle.mot_files.specs.Placing.Holds.{held, other, unlocked, unnamed, unseen}
use Rattle.mot_files.proofs.Laws.{same_error, step}
use Rattle.mot_files.proofs.beside.hold.Goals as goal

pub returns-in_err-lock : goal.returns-in_err-lock
returns-in_err-lock g c =
    unlocked _ (same_error c.from_residual.result c.from_residual.ensures.1) c.in_err-lock.ensures

pub returns-in_err-named : goal.returns-in_err-named
returns-in_err-named g c =
    unnamed _ (same_error c.from_residual-in_err-named.result c.from_residual-in_err-named.ensures.1)
    (step _ c.in_err-named.ensures c.in_ok-lock.ensures)

pub returns-in_err-held : goal.returns-in_err-held
returns-in_err-held g c =
    unseen c.in_ok-named.named _
    (same_error c.from_residual-in_err-held.result c.from_residual-in_err-held.ensures.1)
    (step _ c.in_err-held.ensures (step _ c.in_ok-named.ensures c.in_ok-lock.ensures))

pub returns-then-is_same : goal.returns-then-is_same
returns-then-is_same g c =
    held c.in_ok-named.named c.in_ok-held.held refl (c.if-is_same.ensures.0 refl)
    (step _ c.in_ok-held.ensures (step _ c.in_ok-named.ensures c.in_ok-lock.ensures))

pub returns-else-is_same : goal.returns-else-is_same
returns-else-is_same g c =
    other c.in_ok-named.named c.in_ok-held.held refl
    (λ same. let h = c.if-is_same.ensures.1 same in cc)
    (step _ c.in_ok-held.ensures (step _ c.in_ok-named.ensures c.in_ok-lock.ensures))
