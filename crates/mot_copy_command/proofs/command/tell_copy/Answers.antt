use Rattle.mot_playout.specs.Attempts.{fault_of}
use Rattle.std.proofs.Common.{Some, ap, subst}
use Rattle.std.specs.Prelude.{codes}
use Rattle.mot_outcome.specs.Outcome.{Prints, number_line}
use Rattle.std.proofs.KnownBytes.{Keeps-refl}
use Rattle.mot_copy_command.specs.Copying.TellsCopy.{made, refused}
use Rattle.mot_copy_command.proofs.command.tell_copy.Goals as goal

pub returns-in-Ok-clause-copies : goal.returns-in-Ok-clause-copies
returns-in-Ok-clause-copies g c =
    let done = c.in-Ok.ensures in
    record {
      keeps = done.makes.keeps;
      over_a_disk = done.makes.already;
      behind = done.makes.rest;
      any_moment = λ honest none s has read. done.any_moment s has read honest none;
      told = made (λ honest s has read. done.ok s has read honest)
          (subst (λ n. Prints (fault_of c.write_number.result) (number_line (codes "copied ") n)
          (g.W.Write.contents c.args.writer.now) (g.W.Write.contents c.write_number.new.writer))
          c.length.ensures c.write_number.ensures);
    }

pub returns-in-Err-clause-copies : goal.returns-in-Err-clause-copies
returns-in-Err-clause-copies g c =
    let done = c.in-Err.ensures in
    record {
      keeps = done.makes.keeps;
      over_a_disk = done.makes.already;
      behind = done.makes.rest;
      any_moment = λ honest none s has read. done.any_moment s has read honest none;
      told = refused c.in-Err.why (ap Some c.refusal_of.ensures) c.args.repository.now.view (λ s has read. has.agrees)
          done.makes.refused (Keeps-refl _);
    }
