use Rattle.std.proofs.Common.{◌≡◌, ℕ, ◌+◌, ◌-◌, ◌∙◌, arith, inr, refl, subst, sym}
use Rattle.std.proofs.lemmas.Result.{IfOk-weaker, IfErr-weaker}
use Rattle.mot_journal.specs.Faults.{IsOfKind, IsOutside}
use Rattle.mot_journal.specs.Slot.{kind_base}
use Rattle.mot_journal.specs.Geometry.{number_at}
use Rattle.mot_journal.proofs.Decoded.{nothing_of, set_action, remove_of, no_remove, no_kind}
use Rattle.mot_journal.proofs.Decoded.{outside_kinds, unread_by}
use Rattle.mot_journal.proofs.decoding.read_action.Goals as goal

pub returns-in-1-clause-read : goal.returns-in-1-clause-read
returns-in-1-clause-read c =
    let e : number_at 1 1 c.args.slot.now - kind_base c.args.layout ≡ 1 = grind arith in
    nothing_of c.args.geometry.now c.args.layout c.args.slot.now e

pub returns-in-2-clause-read : goal.returns-in-2-clause-read
returns-in-2-clause-read c =
    let e : number_at 1 1 c.args.slot.now - kind_base c.args.layout ≡ 2 = grind arith in
    IfOk-weaker c.read_set.result _ _
    (λ a is. set_action c.args.geometry.now c.args.layout c.args.slot.now e ∙ is)
    c.read_set.ensures.read

pub returns-in-2-clause-fault : goal.returns-in-2-clause-fault
returns-in-2-clause-fault c =
    let e : number_at 1 1 c.args.slot.now - kind_base c.args.layout ≡ 2 = grind arith in
    IfErr-weaker c.read_set.result _ _
    (λ f is. unread_by _ _ c.args.geometry.now c.args.layout c.args.slot.now f
    (λ none. set_action c.args.geometry.now c.args.layout c.args.slot.now e ∙ none) is)
    c.read_set.ensures.fault

pub read_set-requires-clause-sets : goal.read_set-requires-clause-sets
read_set-requires-clause-sets c =
    let e : number_at 1 1 c.args.slot.now - kind_base c.args.layout ≡ 2 = grind arith in
    omega (arith, e)

pub returns-in-Some-clause-read : goal.returns-in-Some-clause-read
returns-in-Some-clause-read c =
    let e : number_at 1 1 c.args.slot.now - kind_base c.args.layout ≡ 3 = grind arith in
    let is : c.in-Some.tid ≡ number_at 9 2 c.args.slot.now = grind arith in
    remove_of c.args.geometry.now c.args.layout c.args.slot.now c.in-Some.tid e is (grind arith)

pub returns-in-None-clause-fault : goal.returns-in-None-clause-fault
returns-in-None-clause-fault c =
    let e : number_at 1 1 c.args.slot.now - kind_base c.args.layout ≡ 3 = grind arith in
    let none : number_at 9 2 c.args.slot.now ≡ 0 = grind arith in
    let removes : IsOfKind c.args.layout 3 c.args.slot.now = omega (arith, e) in
    (no_remove c.args.geometry.now c.args.layout c.args.slot.now e none, (inr removes, none))

pub returns-in_default-clause-fault : goal.returns-in_default-clause-fault
returns-in_default-clause-fault c =
    let e : number_at 1 1 c.args.slot.now - kind_base c.args.layout ≡ c.saturating_sub.result =
    grind arith in
    let k : ℕ = number_at 1 1 c.args.slot.now in
    let b : ℕ = kind_base c.args.layout in (
      no_kind c.args.geometry.now c.args.layout c.args.slot.now c.saturating_sub.result e
          (λ x. grind arith) (λ x. grind arith) (λ x. grind arith),
      (
        refl,
        c.number-kind.ensures.value,
        subst (IsOutside (b + 1) (b + 3)) (sym c.number-kind.ensures.value)
            (outside_kinds k b (λ x. grind arith) (λ x. grind arith) (λ x. grind arith)),
      ),
    )
