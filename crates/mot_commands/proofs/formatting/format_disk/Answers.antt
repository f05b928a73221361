use Rattle.std.proofs.Common.{ap, inl, inr, refl, subst}
use Rattle.std.proofs.KnownBytes.{Keeps-refl}
use Rattle.std.specs.Prelude.{codes}
use Rattle.mot_commands.specs.Report.{formatted_line}
use Rattle.mot_commands.proofs.formatting.format_disk.Goals as goal
use Rattle.mot_numbers.proofs.Laws.{same_error}
use Rattle.mot_outcome.specs.Outcome.{Prints, number_line}
use Rattle.mot_playout.specs.Attempts.{fault_of}

pub returns-in_err-format_from : goal.returns-in_err-format_from
returns-in_err-format_from g c = inl (
  c.in_err-format_from.field-0.0,
  ap fault_of (same_error c.from_residual.result
      c.in_err-format_from.field-0.0 c.from_residual.ensures.1),
  c.in_err-format_from.ensures.makes,
  Keeps-refl _,
)

pub returns : goal.returns
returns g c = inr (
  formatted_line c.args.geometry.now,
  (c.in_ok-format_from.ensures.makes, refl),
  subst (λ n. Prints (fault_of c.write_number.result) (number_line (codes "formatted ") n)
      (g.W.Write.contents c.args.writer.now) (g.W.Write.contents c.write_number.new.writer))
      c.length.ensures c.write_number.ensures,
)
