use Rattle.std.proofs.Common.{◌≡◌, Err, sym, ap, inl, inr}
use Rattle.std.proofs.lemmas.Result.{err_from_is_err_and}
use Rattle.mot_lines.specs.Fields.{words_after}
use Rattle.mot_lines.proofs.Requests.{raw_of-kind, raw_of-tid, raw_of-hex, raw_of-all}
use Rattle.mot_lines.proofs.Words.{raw_of-others}
use Rattle.mot_lines.proofs.line.parse_raw.Goals as goal
use Rattle.mot_numbers.specs.declared.refusal.Refusal.TheVariants.{OutOfMemory}

pub returns-in_default : goal.returns-in_default
returns-in_default c = inl (sym (raw_of-others (words_after c.args.words) c.in_default.ensures))

pub returns-in_err-kind : goal.returns-in_err-kind
returns-in_err-kind c =
    let p = err_from_is_err_and c.from_residual.result c.from_residual.ensures.1 in
    rw (p.1, p.2) (inl (raw_of-kind (words_after c.args.words) c.in-Some.kind.now c.in-Some.tid.now
    c.in-Some.hex.now c.in-Some.ensures c.in_err-kind.field-0.0 c.in_err-kind.ensures))

pub returns-in_err-tid : goal.returns-in_err-tid
returns-in_err-tid c =
    let p = err_from_is_err_and c.from_residual-in_err-tid.result
    c.from_residual-in_err-tid.ensures.1 in
    rw (p.1, p.2) (inl (raw_of-tid (words_after c.args.words) c.in-Some.kind.now c.in-Some.tid.now
    c.in-Some.hex.now c.in-Some.ensures c.in_ok-kind.kind c.in_err-tid.field-0.0
    c.in_ok-kind.ensures
    c.in_err-tid.ensures))

pub returns-in_err-body : goal.returns-in_err-body
returns-in_err-body c =
    let p = err_from_is_err_and c.from_residual-in_err-body.result
    c.from_residual-in_err-body.ensures.1 in
    rw (p.1, p.2) (elim c.in_err-body.ensures [
      | inl h ↦ inl (raw_of-hex (words_after c.args.words) c.in-Some.kind.now c.in-Some.tid.now
          c.in-Some.hex.now c.in-Some.ensures c.in_ok-kind.kind c.in_ok-tid.tid
          c.in_err-body.field-0.0
          c.in_ok-kind.ensures c.in_ok-tid.ensures h)
      | inr h ↦ inr (let e : c.in_err-body.field-0.0 ≡ OutOfMemory = cc in ap (λ r. Err r) e)
    ])

pub returns : goal.returns
returns c = elim c.in_ok-body.ensures [
  | inl h ↦ inl (raw_of-all (words_after c.args.words) c.in-Some.kind.now c.in-Some.tid.now
      c.in-Some.hex.now
      c.in-Some.ensures c.in_ok-kind.kind c.in_ok-tid.tid c.in_ok-body.body c.in_ok-kind.ensures
      c.in_ok-tid.ensures h)
  | inr h ↦ absurd (cc)
]
