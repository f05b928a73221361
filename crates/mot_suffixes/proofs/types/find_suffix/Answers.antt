use Rattle.std.proofs.Common.{◌∙◌, sym}
use Rattle.mot_suffixes.proofs.types.find_suffix.Goals as goal
use Rattle.mot_suffixes.proofs.Typed.{suffix_of-at, suffix_of-none}

pub returns-in_err-place-clause-none : goal.returns-in_err-place-clause-none
returns-in_err-place-clause-none c = rw c.from_residual.ensures (suffix_of-none c.args.name.now
    (sym c.begins_with_dot.ensures ∙ c.if-begins_with_dot.false) c.in_err-place.ensures)

pub returns-clause-found : goal.returns-clause-found
returns-clause-found c = suffix_of-at c.args.name.now
    (sym c.begins_with_dot.ensures ∙ c.if-begins_with_dot.false) c.in_ok-place.place
    c.in_ok-place.ensures.0 c.in_ok-place.ensures.1
