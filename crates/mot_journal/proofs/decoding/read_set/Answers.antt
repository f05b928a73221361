use Rattle.std.proofs.Common.{◌≡◌, ◌<◌, ◌⊎◌, ⊎_elim, arith, inl, refl, rules}
use Rattle.mot_journal.specs.Geometry.{number_at}
use Rattle.mot_journal.proofs.Setting.{either_above, is_outside, none_of, set_sound}
use Rattle.mot_journal.proofs.decoding.read_set.Goals as goal

pub returns-in_default-clause-fault : goal.returns-in_default-clause-fault
returns-in_default-clause-fault c =
    let slot = c.args.slot.now in
    let none : number_at 9 2 slot ≡ 0 = grind arith in (
      none_of c.args.geometry.now c.args.layout slot
          (λ has. let some = has.tid in absurd (omega (arith, some, none))),
      (inl c.requires.sets, none),
    )

pub returns-in_default-new-clause-fault : goal.returns-in_default-new-clause-fault
returns-in_default-new-clause-fault c =
    let type = c.number-content_type.ensures.value in
    let subtype = c.number-subtype.ensures.value in
    let out : (63 < c.number-content_type.result) ⊎ (511 < c.number-subtype.result) =
    either_above 63 511 c.number-content_type.result c.number-subtype.result
    c.in_default-new.ensures.valid.1 in (
      none_of c.args.geometry.now c.args.layout c.args.slot.now (λ has.
          let most = has.type in
          let most2 = has.subtype in
          ⊎_elim (λ lt. absurd (omega (arith, lt, most, type)))
          (λ lt. absurd (omega (arith, lt, most2, subtype))) out),
      (c.requires.sets, type, subtype, out),
    )

pub returns-in_default-new-2-clause-fault : goal.returns-in_default-new-2-clause-fault
returns-in_default-new-2-clause-fault c =
    let size = c.number-size.ensures.value in
    let out : (c.number-size.result < 1) ⊎ (262144 < c.number-size.result) =
    is_outside 1 262144 c.number-size.result c.in_default-new-2.ensures.valid.1 in (
      none_of c.args.geometry.now c.args.layout c.args.slot.now (λ has.
          let some = has.some in
          let most = has.most in
          ⊎_elim (λ lt. absurd (omega (arith, lt, some, size)))
          (λ lt. absurd (omega (arith, lt, most, size))) out),
      (c.requires.sets, size, out),
    )

pub returns-then-end-from-clause-fault : goal.returns-then-end-from-clause-fault
returns-then-end-from-clause-fault c =
    let start = c.number-start.ensures.value in
    let size = c.number-size.ensures.value in
    let from = c.from.ensures in
    let from2 = c.from-2.ensures in
    let from3 = c.from-3.ensures in
    let above = c.if-end-from.true in (
      none_of c.args.geometry.now c.args.layout c.args.slot.now (λ has.
          let inside = has.inside in
          absurd (omega (arith, inside, start, size, from, from2, from3, above))),
      (
        c.requires.sets,
        omega (arith, start, size, from, from2),
        refl,
        omega (arith, from3, above),
      ),
    )

pub overflow_cast-number : goal.overflow_cast-number
overflow_cast-number c = omega arith

pub overflow_cast-version : goal.overflow_cast-version
overflow_cast-version c = omega arith

pub overflow_cast-content_type : goal.overflow_cast-content_type
overflow_cast-content_type c = omega arith

pub overflow_cast-subtype : goal.overflow_cast-subtype
overflow_cast-subtype c = omega arith

pub overflow_add-end : goal.overflow_add-end
overflow_add-end c = omega arith

pub returns-clause-read : goal.returns-clause-read
returns-clause-read c =
    let t = c.in_ok-name.ensures.read in
    set_sound c.args.geometry.now c.args.layout c.args.slot.now _ _ _ _ _ _ _
    (grind arith) (search rules) (search rules) (search rules) (search rules) (omega arith)
    (grind arith) (grind arith) (grind arith) (grind arith) (grind arith) t.name t.mime
