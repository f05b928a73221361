use Rattle.std.proofs.Common.{◌≡◌, [], subst, sym}
use Rattle.std.specs.Prelude.{IfNone}
use Rattle.mot_devices.proofs.Cut.{first_part, no_part}
use Rattle.mot_devices.specs.Mounts.{parts_of}
use Rattle.mot_devices.proofs.parts.cut.Goals as goal

pub returns-in_err-end-clause-none : goal.returns-in_err-end-clause-none
returns-in_err-end-clause-none c =
    subst (λ (o : _). IfNone o (parts_of c.args.byte c.args.bytes.now ≡ [])) (sym c.from_residual.ensures)
    (no_part c.args.byte c.args.bytes.now c.in_err-end.ensures)

pub returns-clause-first : goal.returns-clause-first
returns-clause-first c =
    first_part c.args.byte c.args.bytes.now c.in_ok-end.end c.in_ok-end.ensures.0 c.in_ok-end.ensures.1
