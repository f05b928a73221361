use Rattle.std.proofs.Common.{◌≡◌, ◌∙◌, ◌-◌, ℕ, Bool, List, ap, arith, length, map, subst}
use Rattle.std.proofs.lemmas.List.{length-take}
use Rattle.std.specs.Char.{to_ascii_lowercase}
use Rattle.std.specs.Prelude.{◌↔◌, IsTrue}
use Rattle.std.specs.Str.{str_eq_ignore_ascii_case}
use Rattle.mot_suffixes.proofs.types.find_last.Goals as goal
use Rattle.mot_suffixes.proofs.Typed.{last_of_suffix-back, last_of_suffix-is, last_of_suffix-other}
use Rattle.mot_suffixes.proofs.Typed.{same-suffix}
use Rattle.mot_suffixes.specs.Types.{SuffixType}

-- the test of a type by its suffix that is held is that of the definition
tested : (item : SuffixType) (held suffix : List ℕ) (same : Bool) → held ≡ item.suffix
    → (IsTrue same ↔ (map to_ascii_lowercase held ≡ map to_ascii_lowercase suffix))
    → same ≡ str_eq_ignore_ascii_case item.suffix suffix
tested item held suffix same is test = same-suffix same item.suffix suffix
    (subst (λ s. IsTrue same ↔ (map to_ascii_lowercase s ≡ map to_ascii_lowercase suffix)) is test)

pub returns-then-eq_ignore_ascii_case-clause-found :
    goal.returns-then-eq_ignore_ascii_case-clause-found
returns-then-eq_ignore_ascii_case-clause-found c =
    c.loop-rest.invariant.same
    ∙ last_of_suffix-back c.args.suffix.now c.loop-rest.rest.now c.last-item.result
    c.in-len1-up.len_at_least c.last-item.is
    ∙ last_of_suffix-is _ c.last-item.result _ (tested c.last-item.result _ c.args.suffix.now _
    (c.deref.ensures.value ∙ ap (λ (t : SuffixType). t.suffix) c.last.view_is)
    c.eq_ignore_ascii_case.ensures.test) c.if-eq_ignore_ascii_case.true

pub loop-rest-preserved : goal.loop-rest-preserved
loop-rest-preserved c = record {
  same = c.loop-rest.invariant.same
      ∙ last_of_suffix-back c.args.suffix.now c.loop-rest.rest.now c.last-item.result
      c.in-len1-up.len_at_least c.last-item.is
      ∙ last_of_suffix-other _ c.last-item.result _ (tested c.last-item.result _ c.args.suffix.now _
      (c.deref.ensures.value ∙ ap (λ (t : SuffixType). t.suffix) c.last.view_is)
      c.eq_ignore_ascii_case.ensures.test) c.if-eq_ignore_ascii_case.false;
  shorter = omega (
    arith,
    c.loop-rest.invariant.shorter,
    length-take (length c.loop-rest.rest.now - 1) c.loop-rest.rest.now,
  );
}
