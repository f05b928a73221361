use Rattle.std.proofs.Common.{◌≡◌, ℕ, ◌+◌, ◌≤◌, List, ◌++◌, length}
use Rattle.mot_session.specs.LineByLine.{GoesOn}
use Rattle.mot_session.proofs.Taken.{Taken}
use Rattle.mot_session.proofs.serving.answer_chunk.Given as goal

abbrev pub invariant-loop-line : goal.invariant-loop-line
invariant-loop-line g l =
    let state = g.D.Disk.state in record {
      bound : l.lines + length l.rest ≤ l.initial.lines + length l.chunk;
      goes : GoesOn l.initial.server l.server (state l.initial.server.disk) (state l.server.disk);
      taken : (front : List ℕ) × (front ++ l.rest ≡ l.chunk)
          × Taken state l.initial.server l.initial.hand l.initial.lines
          (g.W.Write.contents l.initial.writer) front l.server l.hand l.lines
          (g.W.Write.contents l.writer);
    }

abbrev pub decreases-loop-line : goal.decreases-loop-line
decreases-loop-line g l = length l.rest
