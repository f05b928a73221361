use Rattle.std.proofs.Common.{◌≡◌, arith}
use Rattle.mot_journal.specs.Geometry.{number_at}
use Rattle.mot_journal.proofs.Decoded.{zero_directory, zero_cursor, no_action, whole_entry}
use Rattle.mot_journal.proofs.Decoded.{unread_by}
use Rattle.std.proofs.lemmas.Result.{err_from_is_err_and}
use Rattle.mot_journal.proofs.decoding.read_record.Goals as goal

pub returns-in_default-clause-fault : goal.returns-in_default-clause-fault
returns-in_default-clause-fault c =
    let none : number_at 5 2 c.args.slot.now ≡ 0 = grind arith in
    (zero_directory c.args.geometry.now c.args.layout c.args.slot.now none, none)

pub returns-in_default-new-clause-fault : goal.returns-in_default-new-clause-fault
returns-in_default-new-clause-fault c =
    let none : number_at 7 2 c.args.slot.now ≡ 0 = grind arith in
    (zero_cursor c.args.geometry.now c.args.layout c.args.slot.now none, none)

pub returns-clause-read : goal.returns-clause-read
returns-clause-read c =
    whole_entry c.args.geometry.now c.args.layout c.args.slot.now c.unwrap-period.result
    c.in-Some.directory c.in-Some-new.cursor c.in_ok-action.action
    (grind arith) (grind arith) (grind arith) (grind arith) (grind arith)
    c.in_ok-action.ensures.read

pub returns-in_err-action-clause-fault : goal.returns-in_err-action-clause-fault
returns-in_err-action-clause-fault c =
    let p = err_from_is_err_and c.from_residual.result c.from_residual.ensures.1 in
    rw (p.1, p.2) (unread_by _ _ c.args.geometry.now c.args.layout c.args.slot.now
    c.in_err-action.field-0.0 (no_action c.args.geometry.now c.args.layout c.args.slot.now)
    c.in_err-action.ensures.fault)
