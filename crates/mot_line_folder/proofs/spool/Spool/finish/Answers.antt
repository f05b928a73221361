use Rattle.std.proofs.Common.{refl, sym, ◌∙◌}
use Rattle.mot_line_folder.specs.Spooling.Finishes.{none, one}
use Rattle.mot_line_folder.proofs.spool.Spool.finish.Goals as goal
use Rattle.mot_line_folder.proofs.spool.Spool.finish.Goals.{in-Some, in_default}

pub returns-clause-finishes : goal.returns-clause-finishes
returns-clause-finishes g c =
    elim c.match-take.branch [
      | in-Some w ↦ rw w.self-is
          (one w.in-Some.lines (sym c.take.ensures.value ∙ w.in-Some.is) w.finish_file.ensures.finishes)
      | in_default w ↦ rw w.self-is (none (sym c.take.ensures.value ∙ w.in_default.is) refl)
    ]
