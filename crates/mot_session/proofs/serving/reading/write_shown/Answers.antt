use Rattle.std.proofs.Common.{refl, sym}
use Rattle.mot_numbers.specs.declared.refusal.Refusal.TheVariants.{BadLine}
use Rattle.mot_session.specs.OnAnyDisk.{no_request}
use Rattle.mot_session.proofs.serving.reading.write_shown.Goals as goal

pub returns-in-Raw : goal.returns-in-Raw
returns-in-Raw g c = rw c.in-Raw.is
    (c.write_raw.ensures c.args.server.now.view
    (g.D.Disk.state c.args.server.now.disk).failures (sym c.geometry.ensures.value))

pub returns-in-Command : goal.returns-in-Command
returns-in-Command g c = rw c.in-Command.is
    (_, no_request BadLine refl refl refl, c.write_refusal.ensures)

pub returns-in-Next : goal.returns-in-Next
returns-in-Next g c = rw c.in-Next.is
    (_, no_request BadLine refl refl refl, c.write_refusal-in-Next.ensures)

pub returns-in-Turn : goal.returns-in-Turn
returns-in-Turn g c = rw c.in-Turn.is
    (_, no_request BadLine refl refl refl, c.write_refusal-in-Turn.ensures)
