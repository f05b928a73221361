use Rattle.std.proofs.Common.{◌∙◌, Err, ap, inl, inr, refl, subst}
use Rattle.std.specs.Io.KnownBytes.{Appends}
use Rattle.std.specs.List.{flat_map}
use Rattle.mot_log.specs.Text.{look_line}
use Rattle.mot_sync_command.specs.Inner.{broken, told, untold}
use Rattle.mot_sync_command.proofs.syncing.look_and_tell.Goals as goal
use Rattle.mot_numbers.proofs.Laws.{same_error}

pub returns-in_err-looked-clause-looked : goal.returns-in_err-looked-clause-looked
returns-in_err-looked-clause-looked g c = λ s holds honest.
    let gave = c.in_err-looked.ensures.looked s holds honest in (
      gave.0,
      gave.1,
      broken c.look_at_folder-looked.new.folder.report
          c.look_at_folder-looked.new.folder.files.known.items c.in_err-looked.field-0.0
          (same_error c.from_residual.result c.in_err-looked.field-0.0 c.from_residual.ensures.1)
          gave.2,
    )

pub returns-in_err-looked-clause-faults : goal.returns-in_err-looked-clause-faults
returns-in_err-looked-clause-faults g c =
    rw (same_error c.from_residual.result c.in_err-looked.field-0.0 c.from_residual.ensures.1)
    (inl c.in_err-looked.ensures.faults)

pub returns-in_err-told-clause-looked : goal.returns-in_err-told-clause-looked
returns-in_err-told-clause-looked g c = λ s holds honest.
    let gave = c.in_ok-looked.ensures.looked s holds honest in (
      gave.0,
      gave.1,
      untold c.look_at_folder-looked.new.folder.report
          c.look_at_folder-looked.new.folder.files.known.items
          (same_error c.from_residual-in_err-told.result c.in_err-told.field-0.0
          c.from_residual-in_err-told.ensures.1 ∙ ap Err c.in_err-told.ensures.fault)
          gave.2,
    )

pub returns-in_err-told-clause-faults : goal.returns-in_err-told-clause-faults
returns-in_err-told-clause-faults g c =
    rw (same_error c.from_residual-in_err-told.result c.in_err-told.field-0.0
    c.from_residual-in_err-told.ensures.1)
    (inr (c.in_err-told.ensures.fault, c.in_ok-looked.ensures.faults.failures))

pub returns-clause-looked : goal.returns-clause-looked
returns-clause-looked g c = λ s holds honest.
    let gave = c.in_ok-looked.ensures.looked s holds honest in (
      gave.0,
      gave.1,
      told c.look_at_folder-looked.new.folder.report
          c.look_at_folder-looked.new.folder.files.known.items refl c.in_ok-looked.ensures.whole
          (subst (λ l. Appends (g.L.Write.contents c.args.log.now)
          (g.L.Write.contents c.write_events-told.new.log) (flat_map look_line l))
          c.as_slice.ensures.value c.in_ok-told.ensures.written)
          gave.2,
    )
