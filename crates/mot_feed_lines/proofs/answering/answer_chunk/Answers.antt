use Rattle.std.proofs.Common.{◌≡◌, ◌∙◌, ℕ, List, [], ◌∷◌, ◌++◌, Some, None, refl, sym, ap}
use Rattle.std.proofs.Common.{append_assoc, append-nil}
use Rattle.disk_model.proofs.Laws.{keeps_none, keeps_on}
use Rattle.mot_feed_lines.proofs.Taken.{joined, line_taken, lines_at_end, more_none, more_one}
use Rattle.mot_feed_lines.proofs.Taken.{more_rest}
use Rattle.mot_feed_lines.proofs.Between.{updating_none, updating_on}
use Rattle.mot_feed_lines.proofs.answering.answer_chunk.Goals as goal
use Rattle.mot_lines.specs.Lines.{bytes_in_hand, rest_of, whole_lines}
use Rattle.mot_lines.proofs.Laws.{rest_of-end, rest_of-within, whole_lines-end, whole_lines-within}
use Rattle.mot_numbers.proofs.Laws.{same_error}
use Rattle.mot_update.proofs.Laws.{calm_here, calm_on, not_none}

pub loop-line-init : goal.loop-line-init
loop-line-init g c =
    let state = g.D.Disk.state in
    let server = c.args.server.now in
    record {
      keeps = keeps_none (state c.args.server.now.disk);
      calm = calm_here server (state server.disk);
      run = λ s holds honest.
          updating_none state server s (g.met.D.Disk.sound server.disk honest) honest holds;
      taken = (
        [],
        refl,
        λ input is. (
          is ∙ ap (λ l. bytes_in_hand (rest_of l)) (sym (append-nil input)),
          more_none state server input (input ++ [])
              (λ honest. g.met.D.Disk.sound server.disk honest) (ap whole_lines (append-nil input)),
        ),
      );
    }

pub loop-line-preserved : goal.loop-line-preserved
loop-line-preserved g c =
    let state = g.D.Disk.state in
    let is = c.loop-line.invariant in
    let so_far = is.taken in
    let old = c.args.server.now in
    let mid = c.loop-line.server in
    let new = c.answer_line.new.server in
    let line : List ℕ = c.in-Some.line.now in
    let one = c.in_ok-answer_line.ensures in
    record {
      keeps = keeps_on (state old.disk) (state mid.disk) (state new.disk) is.keeps one.keeps;
      calm = calm_on old mid new (state old.disk) (state mid.disk) (state new.disk) is.calm
          one.faults;
      run = λ s holds honest.
          updating_on state old mid new s None (is.run s holds (one.keeps.was_honest honest))
          (λ t held. one.run t held honest);
      taken = (
        (so_far.0 ++ line) ++ 10 ∷ [],
        line_taken so_far.0 line c.in-Some.next.now c.loop-line.rest.now c.args.chunk.now so_far.1
            (sym c.in-Some.ensures.parts),
        λ input hand.
            let xs : List ℕ = input ++ so_far.0 in
            let before = so_far.2 input hand in
            let added = c.add.ensures (rest_of xs) before.0
            ∙ ap bytes_in_hand (sym (rest_of-within xs line c.in-Some.ensures.first)) in
            let end = joined input so_far.0 line in (
              c.clear.ensures ∙ ap bytes_in_hand (sym (rest_of-end (xs ++ line)))
                  ∙ ap (λ l. bytes_in_hand (rest_of l)) end,
              more_one state old mid new input xs (input ++ ((so_far.0 ++ line) ++ 10 ∷ []))
                  (rest_of (xs ++ line)) [] None one.keeps.was_honest
                  (ap whole_lines (sym end) ∙ whole_lines-end (xs ++ line)
                  ∙ ap (λ l. l ++ rest_of (xs ++ line) ∷ [])
                  (whole_lines-within xs line c.in-Some.ensures.first)) (λ e. refl) before.1
                  (one.answered (rest_of (xs ++ line)) added),
            ),
      );
    }

pub returns-in_err-answer_line-clause-answered : goal.returns-in_err-answer_line-clause-answered
returns-in_err-answer_line-clause-answered g c =
    let state = g.D.Disk.state in
    let so_far = c.loop-line.invariant.taken in
    let old = c.args.server.now in
    let mid = c.loop-line.server in
    let new = c.answer_line.new.server in
    let line : List ℕ = c.in-Some.line.now in
    let rest : List ℕ = c.in-Some.next.now in
    let one = c.in_err-answer_line.ensures in
    let refusal = c.in_err-answer_line.field-0.0 in
    let taken = line_taken so_far.0 line rest c.loop-line.rest.now c.args.chunk.now so_far.1
    (sym c.in-Some.ensures.parts) in
    rw (same_error c.from_residual.result refusal c.from_residual.ensures.1) (λ input hand.
    let xs : List ℕ = input ++ so_far.0 in
    let before = so_far.2 input hand in
    let added = c.add.ensures (rest_of xs) before.0
    ∙ ap bytes_in_hand (sym (rest_of-within xs line c.in-Some.ensures.first)) in
    let whole : ((xs ++ line) ++ 10 ∷ []) ++ rest ≡ input ++ c.args.chunk.now =
    ap (λ l. l ++ rest) (joined input so_far.0 line)
    ∙ append_assoc input ((so_far.0 ++ line) ++ 10 ∷ []) rest ∙ ap (λ l. input ++ l) taken in
    let lines = lines_at_end (xs ++ line) rest (input ++ c.args.chunk.now) whole in
    more_one state old mid new input xs (input ++ c.args.chunk.now) (rest_of (xs ++ line)) lines.0
    (Some refusal) one.keeps.was_honest
    (lines.1 ∙ ap (λ l. l ++ rest_of (xs ++ line) ∷ lines.0)
    (whole_lines-within xs line c.in-Some.ensures.first)) (λ e. absurd (not_none refusal e))
    before.1 (one.answered (rest_of (xs ++ line)) added))

pub returns-clause-answered : goal.returns-clause-answered
returns-clause-answered g c = λ input hand.
    let state = g.D.Disk.state in
    let so_far = c.loop-line.invariant.taken in
    let xs : List ℕ = input ++ so_far.0 in
    more_rest state c.args.server.now c.loop-line.server input xs (input ++ c.args.chunk.now)
    (ap whole_lines (sym (append_assoc input so_far.0 c.loop-line.rest.now
    ∙ ap (λ l. input ++ l) so_far.1))
    ∙ whole_lines-within xs c.loop-line.rest.now c.in_default.ensures.none)
    (so_far.2 input hand).1

pub returns-clause-in_hand : goal.returns-clause-in_hand
returns-clause-in_hand g c = λ e input hand.
    let so_far = c.loop-line.invariant.taken in
    let xs : List ℕ = input ++ so_far.0 in
    c.add-2.ensures (rest_of xs) (so_far.2 input hand).0
    ∙ ap bytes_in_hand (sym (rest_of-within xs c.loop-line.rest.now c.in_default.ensures.none))
    ∙ ap (λ l. bytes_in_hand (rest_of l)) (append_assoc input so_far.0 c.loop-line.rest.now
    ∙ ap (λ l. input ++ l) so_far.1)

pub returns-in_err-answer_line-clause-run : goal.returns-in_err-answer_line-clause-run
returns-in_err-answer_line-clause-run g c =
    let one = c.in_err-answer_line.ensures in
    let refusal = c.in_err-answer_line.field-0.0 in
    rw (same_error c.from_residual.result refusal c.from_residual.ensures.1) (λ s holds honest.
    updating_on g.D.Disk.state c.args.server.now c.loop-line.server c.answer_line.new.server s
    (Some refusal) (c.loop-line.invariant.run s holds (one.keeps.was_honest honest))
    (λ t held. one.run t held honest))
