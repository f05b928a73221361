use Rattle.std.proofs.Common.{Bool, List, inl, inr, refl, subst, sym, true, ℕ}
use Rattle.mot_devices.specs.Tables.{AreSwapLines, IsSwapLine}
use Rattle.mot_devices.proofs.Looks.{looks_on}
use Rattle.mot_devices.proofs.tables.has_swap.Goals as goal

pub returns-then-branch-clause-swap : goal.returns-then-branch-clause-swap
returns-then-branch-clause-swap g c =
    let own = c.args.numbers.now.own.items in
    let others = c.args.numbers.now.others.items in
    let mid = g.S.System.calls c.loop-line.system in
    let new = g.S.System.calls c.is_swap_line.new.system in
    c.loop-line.invariant.swap true new
    (subst (λ (lines : List (List ℕ)). AreSwapLines own others lines true mid new)
    (sym c.in-Some.ensures.first) (inl (
      subst (λ (is : Bool). IsSwapLine own others c.in-Some.line.now is mid new) c.if-branch.true
          c.in_ok-is_swap_line.ensures.swap,
      refl,
    )))

pub loop-line-preserved : goal.loop-line-preserved
loop-line-preserved g c =
    let own = c.args.numbers.now.own.items in
    let others = c.args.numbers.now.others.items in
    let mid = g.S.System.calls c.loop-line.system in
    let next = g.S.System.calls c.is_swap_line.new.system in record {
      looks = looks_on (g.S.System.calls c.args.system.now) mid next c.loop-line.invariant.looks
          c.is_swap_line.ensures.looks;
      swap = λ is new rest. c.loop-line.invariant.swap is new
          (subst (λ (lines : List (List ℕ)). AreSwapLines own others lines is mid new)
          (sym c.in-Some.ensures.first) (inr (
            next,
            subst (λ (here : Bool). IsSwapLine own others c.in-Some.line.now here mid next)
                c.if-branch.false c.in_ok-is_swap_line.ensures.swap,
            rest,
          )));
    }
