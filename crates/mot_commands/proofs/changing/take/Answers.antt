use Rattle.std.proofs.Common.{subst}
use Rattle.mot_commands.specs.Asking.{IsRequest}
use Rattle.mot_commands.proofs.Taken.{executes-keeps}
use Rattle.mot_commands.proofs.changing.take.Goals as goal

pub returns-clause-keeps : goal.returns-clause-keeps
returns-clause-keeps g c = executes-keeps g.D.Disk.state c.request_of-request.result _ _ _ c.answer-end.ensures

pub returns-clause-taken : goal.returns-clause-taken
returns-clause-taken g c = record {
  request = c.request_of-request.result;
  asked = subst (λ (k : _). IsRequest c.args.words.now c.args.word.now k c.request_of-request.result
      (g.Y.System.calls c.args.system.now) (g.Y.System.calls c.request_of-request.new.system))
      c.carousel.ensures.value c.request_of-request.ensures;
  end = c.answer-end.result;
  answered = c.answer-end.ensures;
  text = c.print_line.ensures.printed.0;
  told = c.print_line.ensures.printed.1;
  printed = c.print_line.ensures.printed.2;
  right = c.print_line.ensures.right;
}
