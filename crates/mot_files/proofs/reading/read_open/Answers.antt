use Rattle.std.proofs.Common.{true, false, refl, subst}
use Rattle.mot_files.specs.Reading.{AgeIs}
use Rattle.mot_files.specs.Reading.IsUnreadOpen.{long, other, unheld, young}
use Rattle.mot_files.proofs.Laws.{same_error}
use Rattle.mot_files.proofs.OpenedOf.{goes_on}
use Rattle.mot_files.proofs.reading.read_open.Goals as goal

pub returns-in_err-held-clause-calls : goal.returns-in_err-held-clause-calls
returns-in_err-held-clause-calls g c =
    rw (same_error c.from_residual.result c.from_residual.ensures.1) (
    unheld _ refl c.in_err-held.ensures
    )

pub returns-then-not-is_same-clause-calls : goal.returns-then-not-is_same-clause-calls
returns-then-not-is_same-clause-calls g c =
    other c.in_ok-held.held refl (λ same. let h = c.if-not-is_same.ensures.1 same in cc) c.in_ok-held.ensures

pub returns-then-is_young-clause-calls : goal.returns-then-is_young-clause-calls
returns-then-is_young-clause-calls g c =
    young c.in_ok-held.held refl (c.if-not-is_same.ensures.0 refl)
    (subst (λ (l : _). AgeIs c.args.at_once c.in_ok-held.held true l (g.S.System.calls c.is_young.new.system))
    c.in_ok-held.ensures c.if-is_young.ensures)

pub returns-then-held-most-clause-calls : goal.returns-then-held-most-clause-calls
returns-then-held-most-clause-calls g c =
    long c.in_ok-held.held refl c.if-held-most.true (c.if-not-is_same.ensures.0 refl)
    (subst (λ (l : _). AgeIs c.args.at_once c.in_ok-held.held false l (g.S.System.calls c.is_young.new.system))
    c.in_ok-held.ensures c.if-is_young.ensures)

pub returns-clause-calls : goal.returns-clause-calls
returns-clause-calls g c =
    goes_on (λ b. b.items) c.args.handle c.args.named.now c.in_ok-held.held c.args.most c.args.at_once
    (g.S.System.calls c.args.system.now) (g.S.System.calls c.look_at.new.self)
    (g.S.System.calls c.is_young.new.system) (g.S.System.calls c.take_all.new.system)
    (c.if-not-is_same.ensures.0 refl) c.if-held-most.false c.in_ok-held.ensures c.if-is_young.ensures c.take_all.result
    c.take_all.ensures
