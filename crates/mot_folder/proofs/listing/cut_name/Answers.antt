use Rattle.std.proofs.Common.{◌≡◌, [], subst, sym}
use Rattle.std.specs.Prelude.{IfNone}
use Rattle.mot_folder.proofs.Cut.{first_name, no_name}
use Rattle.mot_folder.specs.Listed.{names_in}
use Rattle.mot_folder.proofs.listing.cut_name.Goals as goal

pub returns-in_err-end-clause-none : goal.returns-in_err-end-clause-none
returns-in_err-end-clause-none c =
    subst (λ (o : _). IfNone o (names_in c.args.bytes.now ≡ [])) (sym c.from_residual.ensures)
    (no_name c.args.bytes.now c.in_err-end.ensures)

pub returns-clause-first : goal.returns-clause-first
returns-clause-first c =
    first_name c.args.bytes.now c.in_ok-end.end c.in_ok-end.ensures.0 c.in_ok-end.ensures.1
