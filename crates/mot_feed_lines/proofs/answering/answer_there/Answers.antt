use Rattle.std.proofs.Common.{take}
use Rattle.mot_feed_lines.proofs.Between.{updating_lines}
use Rattle.mot_feed_lines.proofs.answering.answer_there.Goals as goal

pub returns-clause-run : goal.returns-clause-run
returns-clause-run g c = λ s holds honest.
    updating_lines g.D.Disk.state c.args.server.now c.answer_chunk.new.server s _
    c.args.intake.now.hand c.answer_chunk.new.intake.hand (take c.read-count.result c.read-count.new.room)
    _ _ _ c.read-count.ensures.gave holds honest (c.answer_chunk.ensures.run s holds honest)
    c.answer_chunk.ensures.answered (λ input is none. c.answer_chunk.ensures.in_hand none input is)
