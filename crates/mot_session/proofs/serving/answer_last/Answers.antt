use Rattle.std.proofs.Common.{◌≡◌, ℕ, List, [], ◌∷◌, ◌++◌, length, sym, ap, subst, ◌∙◌, arith}
use Rattle.std.proofs.Common.{length-append, inl, inr, refl}
use Rattle.std.proofs.lemmas.Bool.{both_ways}
use Rattle.mot_lines.specs.Lines.{whole_lines, rest_of, lines_of}
use Rattle.mot_lines.proofs.Laws.{lines_of-ended, lines_of-begun}
use Rattle.mot_session.specs.LineByLine.{ServesEach}
use Rattle.mot_session.proofs.Each.{each-more, some-here}
use Rattle.mot_session.proofs.Ends.{fault_of_end, not_none}
use Rattle.mot_session.proofs.Requests.{goes_on-none}
use Rattle.mot_session.proofs.Kept.{BreaksOff-of_line, ServesOne-of_line}
use Rattle.mot_session.specs.Inner.Writes.{InHand}
use Rattle.mot_session.proofs.serving.answer_last.Given as given
use Rattle.mot_session.proofs.serving.answer_last.Goals as goal
use Rattle.mot_session.proofs.serving.answer_last.Goals.{Then-is_empty, Else-is_empty}

-- where nothing is in hand, each line has its end
all_ended : (g : given.Over) (c : Then-is_empty g) (input : List ℕ)
    → InHand input c.args.hand.now c.args.lines → lines_of input ≡ whole_lines input
all_ended g c input is =
    lines_of-ended input ((c.is_empty.ensures (rest_of input) is.rest).0 c.if-is_empty.true)

-- and where something is, it is the last line
last_begun : (g : given.Over) (c : Else-is_empty g) (input : List ℕ)
    → InHand input c.args.hand.now c.args.lines
    → lines_of input ≡ whole_lines input ++ rest_of input ∷ []
last_begun g c input is = lines_of-begun input (λ none.
    both_ways _ c.if-is_empty.false ((c.is_empty.ensures (rest_of input) is.rest).1 none))

pub returns-then-is_empty-clause-lines : goal.returns-then-is_empty-clause-lines
returns-then-is_empty-clause-lines g c = λ none input is.
    let e = all_ended g (goal.at.returns-then-is_empty-clause-lines g c).Then-is_empty input is in
    is.counted ∙ ap length (sym e)

pub returns-in-Ok-clause-lines : goal.returns-in-Ok-clause-lines
returns-in-Ok-clause-lines g c = λ none input is.
    let e = last_begun g (goal.at.returns-in-Ok-clause-lines g c).Else-is_empty input is in
    let n = is.counted in rw (e, length-append) (omega arith)

pub returns-then-is_empty-clause-each : goal.returns-then-is_empty-clause-each
returns-then-is_empty-clause-each g c = λ none first old input is each.
    let e = all_ended g (goal.at.returns-then-is_empty-clause-each g c).Then-is_empty input is in
    subst (λ l. ServesEach g.D.Disk.state first l c.args.server.now old
    (g.W.Write.contents c.args.writer.now)) (sym e) each

pub returns-in-Ok-clause-each : goal.returns-in-Ok-clause-each
returns-in-Ok-clause-each g c = λ none first old input is each.
    let e = last_begun g (goal.at.returns-in-Ok-clause-each g c).Else-is_empty input is in
    subst (λ l. ServesEach g.D.Disk.state first l c.serve_line.new.server old
    (g.W.Write.contents c.serve_line.new.writer)) (sym e)
    (each-more g.D.Disk.state first c.args.server.now c.serve_line.new.server (whole_lines input)
    (rest_of input) old _ _ each (ServesOne-of_line c.as_slice.result.now (rest_of input)
    (c.as_slice.ensures.asks (rest_of input) is.rest) g.D.Disk.state c.args.server.now
    c.serve_line.new.server _ _ c.in-Ok.ensures.answered))

pub returns-in-Err-clause-some : goal.returns-in-Err-clause-some
returns-in-Err-clause-some g c = λ fault first old input is each.
    let e = last_begun g (goal.at.returns-in-Err-clause-some g c).Else-is_empty input is in
    rw c.ended.ensures (some-here g.D.Disk.state first c.args.server.now c.serve_line.new.server
    (whole_lines input) (rest_of input) [] (lines_of input) c.args.lines old _ _
    e is.counted each
    (BreaksOff-of_line c.as_slice.result.now (rest_of input)
    (c.as_slice.ensures.asks (rest_of input) is.rest) g.D.Disk.state c.args.server.now
    c.serve_line.new.server _ _ c.in-Err.ensures.broken))

pub returns-then-is_empty-clause-fault : goal.returns-then-is_empty-clause-fault
returns-then-is_empty-clause-fault g c = inl refl

pub returns-then-is_empty-clause-some : goal.returns-then-is_empty-clause-some
returns-then-is_empty-clause-some g c = λ fault. absurd (not_none (sym fault))

pub returns-in-Ok-clause-fault : goal.returns-in-Ok-clause-fault
returns-in-Ok-clause-fault g c = inl refl

pub returns-in-Ok-clause-some : goal.returns-in-Ok-clause-some
returns-in-Ok-clause-some g c = λ fault. absurd (not_none (sym fault))

pub returns-then-is_empty-clause-goes : goal.returns-then-is_empty-clause-goes
returns-then-is_empty-clause-goes g c =
    goes_on-none c.args.server.now (g.D.Disk.state c.args.server.now.disk)

pub returns-in-Ok-clause-goes : goal.returns-in-Ok-clause-goes
returns-in-Ok-clause-goes g c = c.in-Ok.ensures.answered.goes

pub returns-in-Err-clause-lines : goal.returns-in-Err-clause-lines
returns-in-Err-clause-lines g c = λ none.
    absurd (not_none (sym (fault_of_end _ _ _ c.ended.ensures) ∙ none))

pub returns-in-Err-clause-each : goal.returns-in-Err-clause-each
returns-in-Err-clause-each g c = λ none.
    absurd (not_none (sym (fault_of_end _ _ _ c.ended.ensures) ∙ none))

pub returns-in-Err-clause-fault : goal.returns-in-Err-clause-fault
returns-in-Err-clause-fault g c = inr (fault_of_end _ _ _ c.ended.ensures)

pub returns-in-Err-clause-goes : goal.returns-in-Err-clause-goes
returns-in-Err-clause-goes g c = c.in-Err.ensures.broken.goes
