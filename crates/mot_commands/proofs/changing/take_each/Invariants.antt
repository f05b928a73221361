use Rattle.std.proofs.Common.{None, take}
use Rattle.disk_model.specs.Disk.{KeepsLength}
use Rattle.mot_commands.specs.Changing.{TakesEach, texts}
use Rattle.mot_commands.proofs.changing.take_each.Given as goal

abbrev pub invariant-loop-word : goal.invariant-loop-word
invariant-loop-word g l = record {
  keeps : KeepsLength (g.D.Disk.state l.initial.server.disk) (g.D.Disk.state l.server.disk);
  each : TakesEach g.D.Disk.state l.words (texts (take l.word-index l.list)) l.all None
      (l.initial.server, g.W.Write.contents l.initial.writer, g.Y.System.calls l.initial.system)
      (l.server, g.W.Write.contents l.writer, g.Y.System.calls l.system);
}
