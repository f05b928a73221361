use Rattle.std.proofs.Common.{◌≡◌, sym, ◌∙◌, ap, subst, arith, rules}
use Rattle.mot_journal.specs.Slot.{longest_name}
use Rattle.mot_journal.proofs.Decoded.{name_ok, name_bad, text, wrong-ok}
use Rattle.mot_journal.proofs.Written.{longest_most}
use Rattle.mot_journal.proofs.decoding.read_name.Goals as goal
use Rattle.mot_objects.specs.Name.{IsName}

pub returns-in-Ok : goal.returns-in-Ok
returns-in-Ok c =
    let same : c.in_ok-to_vec.field-0.items ≡ c.args.bytes.now = grind arith in
    let is : IsName c.in_ok-to_vec.field-0.items = c.in-Ok.ensures.valid.0 (search rules) in
    let value : c.in-Ok.name ≡ c.in_ok-to_vec.field-0.items = c.in-Ok.ensures.value in
    ap text (value ∙ same) ∙ sym
    (name_ok (longest_name c.args.layout) c.args.bytes.now (subst IsName same is) (omega arith))

pub returns-in-Err : goal.returns-in-Err
returns-in-Err c =
    let same : c.in_ok-to_vec.field-0.items ≡ c.args.bytes.now = grind arith in
    sym (name_bad (longest_name c.args.layout) c.args.bytes.now (longest_most c.args.layout)
    (λ is. wrong-ok (c.in-Err.ensures.valid.1 (subst IsName (sym same) is))))
