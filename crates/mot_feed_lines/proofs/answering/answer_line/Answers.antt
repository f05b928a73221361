use Rattle.std.proofs.Common.{subst}
use Rattle.mot_lines.specs.Line.{IsParsed, line_of}
use Rattle.mot_feed_lines.proofs.Between.{updating_by}
use Rattle.mot_feed_lines.proofs.Requests.{parsed}
use Rattle.mot_feed_lines.proofs.answering.answer_line.Goals as goal

pub returns-clause-answered : goal.returns-clause-answered
returns-clause-answered g c = λ line is.
    let asked = subst (IsParsed c.parse_line-request.result) (c.as_slice.ensures.asks line is)
    c.parse_line-request.ensures in
    parsed g.D.Disk.state c.args.server.now c.answer_request.new.server c.parse_line-request.result
    (line_of line) _ asked c.answer_request.ensures.answered

pub returns-clause-run : goal.returns-clause-run
returns-clause-run g c = λ s holds honest.
    let answered = c.answer_request.ensures.answered in
    let run = answered.run s holds honest in
    updating_by g.D.Disk.state c.args.server.now c.answer_request.new.server s
    answered.commands run.0 _ run.1
