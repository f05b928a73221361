use Rattle.std.proofs.Common.{◌∙◌, ap, drop, length, refl, rules, subst, sym}
use lib.Seq.{take_at}
use Rattle.mot_files.specs.Reading.{IsTaken, IsUnfilled}
use Rattle.mot_files.specs.Reading.IsUntaken.{changed, cut, lost}
use Rattle.mot_files.proofs.Laws.{same_error, step}
use Rattle.mot_files.proofs.reading.take_all.Goals as goal

pub returns-in_err-fill : goal.returns-in_err-fill
returns-in_err-fill g c =
    rw (same_error c.from_residual.result c.from_residual.ensures.1) (
    cut (subst (λ n. IsUnfilled c.args.handle c.in_err-fill.field-0.0 n
    (g.S.System.calls c.args.system.now) (g.S.System.calls c.fill.new.system))
    (search rules) c.in_err-fill.ensures)
    )

pub returns-in_err-after : goal.returns-in_err-after
returns-in_err-after g c =
    rw (same_error c.from_residual-in_err-after.result c.from_residual-in_err-after.ensures.1) (
    lost c.in_ok-fill.ensures.0 _ refl (sym (ap length c.in_ok-fill.ensures.2) ∙ search rules)
    (step _ c.in_err-after.ensures c.in_ok-fill.ensures.1)
    )

pub returns-then-not-is_unchanged : goal.returns-then-not-is_unchanged
returns-then-not-is_unchanged g c =
    changed c.in_ok-fill.ensures.0 c.in_ok-after.after refl
    (sym (ap length c.in_ok-fill.ensures.2) ∙ search rules)
    (step _ c.in_ok-after.ensures c.in_ok-fill.ensures.1)
    (λ is. let h = c.if-not-is_unchanged.ensures.1 is in cc)

pub returns : goal.returns
returns g c =
    let room = c.fill.new.room in
    subst (λ bytes. IsTaken c.args.handle c.args.held.now bytes (g.S.System.calls c.args.system.now)
    (g.S.System.calls c.look_at.new.self))
    (sym (take_at room (drop (length room) c.in-Ok.bytes.items) c.in-Ok.bytes.len (search rules)))
    (record {
      chunks = c.in_ok-fill.ensures.0;
      after = c.in_ok-after.after;
      whole = search rules;
      given = c.in_ok-fill.ensures.2;
      calls = step _ c.in_ok-after.ensures c.in_ok-fill.ensures.1;
      unchanged = c.if-not-is_unchanged.ensures.0 refl;
    })
