use Rattle.std.proofs.Common.{refl}
use Rattle.mot_server.proofs.Coming.{uses_from_nothing}
use Rattle.mot_server.proofs.program.run_program.Goals as goal

pub returns : goal.returns
returns g c =
    let run = c.run_program_on-exit in
    record {
      ran = record {
        exit = run.result;
        calls = run.new.host.system.calls.all;
        answered = refl;
        ended = run.ensures.ended;
        lacking = run.ensures.lacking;
        files = uses_from_nothing _ run.result c.new-host.result.system.calls.all
            run.new.host.system.calls.all c.new-host.ensures run.ensures.files;
      };
    }
