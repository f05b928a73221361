use Rattle.std.proofs.Common.{ℕ, ◌*◌, ◌≤◌, List}
use Rattle.mot_lines.specs.Lines.{whole_lines}
use Rattle.mot_session.specs.declared.serving.TheConstants.{READ_SIZE}
use Rattle.mot_session.specs.Inner.Writes.{InHand}
use Rattle.mot_session.specs.LineByLine.{GoesOn, ServesEach}
use Rattle.mot_session.specs.Served.{TakesInput}
use Rattle.mot_session.proofs.serving.serve.Given as goal

abbrev pub invariant-loop : goal.invariant-loop
invariant-loop g l =
    let state = g.D.Disk.state in record {
      bound : l.lines ≤ READ_SIZE * l.counter;
      goes : GoesOn l.fn.server l.server (state l.fn.server.disk) (state l.server.disk);
      taken : (input : List ℕ)
          × TakesInput l.counter (g.R.Read.remaining l.fn.reader)
          (g.R.Read.remaining l.reader) input
          × InHand input l.hand l.lines
          × ServesEach state l.fn.server (whole_lines input) l.server
          (g.W.Write.contents l.fn.writer) (g.W.Write.contents l.writer);
    }
