use Rattle.std.proofs.Common.{◌≡◌, ◌≤◌, length}
use Rattle.std.specs.Prelude.{vec_capacity}
use Rattle.disk_model.specs.Disk.{Keeps}
use Rattle.mot_journal.specs.Image.{Standing}
use Rattle.mot_repository.specs.Repository.{Holds}
use Rattle.mot_playout.specs.RunAnswers.{AreAnswered}
use Rattle.mot_playout.specs.RunEnds.{place_behind}
use Rattle.mot_playout.specs.Runs.{accepted_commands, IsAfter, place_in}
use Rattle.mot_playout.proofs.Runs.{Reached}
use Rattle.mot_playout.proofs.server.Server.run.Given as goal

abbrev pub invariant-loop-command : goal.invariant-loop-command
invariant-loop-command g l =
    let state = g.D.Disk.state in
    record {
      keeps : Keeps (state l.fn.self.disk) (state l.self.disk);
      halted : l.self.view.halted ≡ l.fn.self.view.halted;
      answered : AreAnswered l.fn.self.view l.commands l.done.items l.self.view;
      index : length l.done.items ≡ l.command-index;
      room : length l.commands ≤ vec_capacity l.done;
      plays : (s last : Standing) → Holds l.fn.self.view s (state l.fn.self.disk)
          → IsAfter s (accepted_commands l.commands l.done.items) last
          → place_in l.self last ≡ place_behind s (accepted_commands l.commands l.done.items)
          (place_in l.fn.self s);
      reached : (s : Standing) → Holds l.fn.self.view s (state l.fn.self.disk)
          → Reached l.fn.self.view.journal.layout l.self.view (state l.fn.self.disk)
          (state l.self.disk) s l.commands l.done.items;
    }
