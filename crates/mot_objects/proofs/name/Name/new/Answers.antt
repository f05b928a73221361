use Rattle.std.proofs.Common.{◌≡◌, true, false, refl, sym, subst}
use Rattle.mot_objects.specs.Name.{IsName}
use Rattle.mot_objects.proofs.name.Name.new.Goals as goal

not_both : false ≡ true → ⊥
not_both e = cc

pub returns-then-not-is_name-clause-valid : goal.returns-then-not-is_name-clause-valid
returns-then-not-is_name-clause-valid c = (
  λ e. absurd (not_both e),
  λ is. absurd (not_both (c.if-not-is_name.ensures.1
      (subst (λ b. IsName b) (sym c.deref.ensures.value) is))),
)

pub returns-clause-valid : goal.returns-clause-valid
returns-clause-valid c = (
  λ e. subst (λ b. IsName b) c.deref.ensures.value (c.if-not-is_name.ensures.0 refl),
  λ is. refl,
)
