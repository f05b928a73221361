use Rattle.std.proofs.Common.{◌≡◌}
use Rattle.mot_line_folder.specs.Spooling.{OnlyReads}
use Rattle.mot_line_folder.proofs.finder.Finder.read_names.Given as goal

abbrev pub invariant-loop : goal.invariant-loop
invariant-loop g l = record {
  reads : OnlyReads (g.S.System.calls l.initial.self.system) (g.S.System.calls l.self.system);
  folder : l.self.folder ≡ l.initial.self.folder;
}
