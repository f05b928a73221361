use Rattle.std.proofs.Common.{◌∙◌, ◌++◌, ◌∷◌, Err, Ok, Option, [], ap, false, refl, sym, ℕ}
use Rattle.std.specs.Option.{option_map_or}
use Rattle.mot_devices.specs.Mounts.{is_one_of}
use Rattle.mot_devices.specs.Tables.{number_text}
use Rattle.mot_devices.specs.Tables.IsSwapLine.{no_text, path}
use Rattle.mot_files.specs.Call.{followed}
use Rattle.mot_devices.proofs.tables.is_swap_line.Goals as goal

pub returns-in_default-from_utf8-clause-swap : goal.returns-in_default-from_utf8-clause-swap
returns-in_default-from_utf8-clause-swap g c =
    no_text c.in-Some.path.now _ c.in-Some.ensures.first c.in_default-from_utf8.ensures.cases.0 refl
    refl

pub returns-in_ok-number_text-in-Some-block-clause-swap :
    goal.returns-in_ok-number_text-in-Some-block-clause-swap
returns-in_ok-number_text-in-Some-block-clause-swap g c =
    let own = c.args.numbers.now.own.items in
    let others = c.args.numbers.now.others.items in
    let old = g.S.System.calls c.args.system.now in
    path c.in-Some.path.now _ (Ok c.in-Ok-follow.seen) c.in-Some.ensures.first (c.has.ensures
    ∙ ap (is_one_of own others)
    (c.as_bytes.ensures.value ∙ c.in_ok-number_text-in-Some-block.ensures)
    ∙ sym (ap (λ (b : Option ℕ). option_map_or (λ (n : ℕ). is_one_of own others (number_text n)) b
    false) c.in-Some-block.is)) (c.in-Ok-follow.ensures
    ∙ ap (λ p. old ++ followed p (Ok c.in-Ok-follow.seen) ∷ []) c.in-Ok.ensures.cases.0)

pub returns-in-None-clause-swap : goal.returns-in-None-clause-swap
returns-in-None-clause-swap g c =
    let own = c.args.numbers.now.own.items in
    let others = c.args.numbers.now.others.items in
    let old = g.S.System.calls c.args.system.now in
    path c.in-Some.path.now _ (Ok c.in-Ok-follow.seen) c.in-Some.ensures.first
    (sym (ap (λ (b : Option ℕ). option_map_or (λ (n : ℕ). is_one_of own others (number_text n)) b
    false) c.in-None.is)) (c.in-Ok-follow.ensures
    ∙ ap (λ p. old ++ followed p (Ok c.in-Ok-follow.seen) ∷ []) c.in-Ok.ensures.cases.0)

pub returns-in-Err-clause-swap : goal.returns-in-Err-clause-swap
returns-in-Err-clause-swap g c =
    let old = g.S.System.calls c.args.system.now in
    path c.in-Some.path.now _ (Err c.in-Err.field-0) c.in-Some.ensures.first refl (c.in-Err.ensures
    ∙ ap (λ p. old ++ followed p (Err c.in-Err.field-0) ∷ []) c.in-Ok.ensures.cases.0)
