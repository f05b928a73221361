-- What a run of commands comes to.
use Rattle.std.specs.Prelude.{◌≡◌, List, length, vec_len, IfSome, IfNone}
use Rattle.disk_model.specs.Disk.{State, Keeps}
use Rattle.mot_journal.specs.Image.{Standing}
use Rattle.mot_objects.specs.declared.command.Command.{Command}
use Rattle.mot_repository.specs.Repository.{RepositoryView, Holds}
use Rattle.mot_playout.specs.declared.running.RunEnd.{RunEnd}
use Rattle.mot_playout.specs.RunAnswers.{RunAnswers}
use Rattle.mot_playout.specs.RunEnds.{IsRunFault, RunLeaves}

-- the run of these commands ended so
pub record IsRun (old new : RepositoryView) (before now : State) (commands : List Command)
    (end : RunEnd) : Type 0 where
  pub keeps : Keeps before now
  -- On every disk each mark is right, a fault is that of the command behind the marks, and what is
  -- kept in memory is what the accepted commands made of it.
  pub answers : RunAnswers old new commands end.done.items end.fault
  pub whole : IfNone end.fault (vec_len end.done ≡ length commands)
  pub fault : IfSome end.fault (λ refusal. IsRunFault old new before now refusal)
  -- the marks, the carousel, and what a crash leaves at each moment and at the end
  pub leaves : (s : Standing) → Holds old s before
      → RunLeaves old new before now s commands end.done.items end.fault
