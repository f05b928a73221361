use Rattle.std.proofs.Common.{ap, refl, ◌∙◌}
use Rattle.mot_line_folder.specs.Spooling.Finds.{nothing}
use Rattle.mot_line_folder.specs.Spooling.OnlyReads.{none}
use Rattle.mot_line_folder.proofs.OnlyReads.{and_then, finding, finds_none, one_kept}
use Rattle.mot_line_folder.proofs.finder.Finder.open_named.Goals as goal

pub returns-then-not-is_of_lines-clause-finds : goal.returns-then-not-is_of_lines-clause-finds
returns-then-not-is_of_lines-clause-finds g c = nothing refl (none refl)

pub returns-in-Err-clause-finds : goal.returns-in-Err-clause-finds
returns-in-Err-clause-finds g c =
    nothing c.leave.ensures.none (none (ap (λ (s : _). g.S.System.calls s) c.leave.ensures.system))

pub returns-in_err-path-clause-finds : goal.returns-in_err-path-clause-finds
returns-in_err-path-clause-finds g c = finds_none _ c.from_residual.ensures.0 (none refl)

pub returns-in_err-name-clause-finds : goal.returns-in_err-name-clause-finds
returns-in_err-name-clause-finds g c = finds_none _ c.from_residual-in_err-name.ensures.0 (none refl)

pub returns-in-Lines-clause-finds : goal.returns-in-Lines-clause-finds
returns-in-Lines-clause-finds g c =
    let named = c.in_ok-name.ensures.ok ∙ c.in-Ok.ensures.0 in
    one_kept _ c.open_found.result
    (record {
      plain = rw (← named) at c.in-Ok.ensures.1;
      of_lines = rw (← named) at c.if-not-is_of_lines.ensures.0 refl;
      path = rw (← c.in_ok-name.ensures.ok) at c.in_ok-path.ensures;
    })
    (rw c.as_str.ensures.value at c.in-Lines.ensures) c.open_found.ensures.kept

pub returns-in-Left-clause-finds : goal.returns-in-Left-clause-finds
returns-in-Left-clause-finds g c =
    nothing c.leave-in-Left.ensures.none
    (and_then (finding c.in-Left.ensures)
    (none (ap (λ (s : _). g.S.System.calls s) c.leave-in-Left.ensures.system)))

pub returns-in-Gone-clause-finds : goal.returns-in-Gone-clause-finds
returns-in-Gone-clause-finds g c = nothing refl (finding c.in-Gone.ensures)
