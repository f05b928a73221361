use Rattle.std.proofs.Common.{Result, subst, sym}
use Rattle.mot_commands.specs.Changing.{Executes}
use Rattle.mot_commands.proofs.changing.answer.Goals as goal
use Rattle.mot_numbers.specs.declared.refusal.Refusal.{Refusal}
use Rattle.mot_objects.specs.declared.command.Command.{Command}

pub returns-in-Ok : goal.returns-in-Ok
returns-in-Ok g c =
    let does = c.execute.ensures in
    subst (λ (r : Result Command Refusal). Executes g.D.Disk.state r c.args.server.now
    c.execute.new.self c.execute.result) (sym c.in-Ok.is) (record {
      keeps = does.keeps;
      answered = does.answered;
      going = does.going;
      any_moment = does.any_moment;
      stored = does.ok;
    })
