use Rattle.std.proofs.Common.{List, Result, length}
use Rattle.mot_files.specs.Call.{Call}
use Rattle.mot_files.specs.Writing.{Writes}
use Rattle.mot_files.specs.declared.system.Fault.{Fault}
use Rattle.mot_files.proofs.writing.write_all.Given as goal

-- what the writes of the rest come to, all of them do
abbrev pub invariant-loop-rest : goal.invariant-loop-rest
invariant-loop-rest g l =
    (result : Result (Unit {0}) Fault) (new : List Call)
    → Writes l.handle result new l.rest (g.S.System.calls l.system)
    → Writes l.handle result new l.initial.bytes (g.S.System.calls l.initial.system)

abbrev pub decreases-loop-rest : goal.decreases-loop-rest
decreases-loop-rest g l = length l.rest
