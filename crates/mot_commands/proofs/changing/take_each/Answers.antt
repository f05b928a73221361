use Rattle.std.proofs.Common.{◌≡◌, ◌∙◌, ◌&&◌, ◌+◌, List, None, Some, ap, false, subst, sym, take}
use Rattle.std.proofs.lemmas.List.{take_all}
use Rattle.std.proofs.lemmas.Result.{err_from_is_err_and}
use Rattle.clap.specs.Words.{Text}
use Rattle.disk_model.proofs.Laws.{keeps_on}
use Rattle.mot_commands.specs.Changing.{Progress, TakesEach, texts}
use Rattle.mot_commands.proofs.Taken.{takes-ends, takes-more, texts-more, texts_around}
use Rattle.mot_commands.proofs.changing.take_each.Goals as goal
use Rattle.mot_commands.proofs.changing.take_each.Goals.{then-all, else-all}

pub loop-word-preserved : goal.loop-word-preserved
loop-word-preserved g c =
    let state = g.D.Disk.state in
    let words = c.args.words.now in
    let is = c.loop-word.invariant in
    let done = c.in_ok-done.done in
    let all : c.if-all.all ≡ (c.loop-word.all && done) = elim c.if-all.branch [
      | then-all w ↦ w.all-is ∙ sym (ap (λ b. b && done) w.if-all.true)
      | else-all w ↦ w.all-is ∙ (w.if-all.false ∙ sym (ap (λ b. b && done) w.if-all.false))
    ] in
    let first : Progress g.row.D.Denot = (c.args.server.now, g.W.Write.contents c.args.writer.now, g.Y.System.calls c.args.system.now) in
    let mid : Progress g.row.D.Denot = (c.loop-word.server, g.W.Write.contents c.loop-word.writer, g.Y.System.calls c.loop-word.system) in
    let last : Progress g.row.D.Denot = (c.take.new.server, g.W.Write.contents c.take.new.writer, g.Y.System.calls c.take.new.system) in
    record {
      keeps = keeps_on _ _ _ is.keeps c.in_ok-done.ensures.keeps;
      each = subst (λ a. TakesEach state words (texts (take (c.loop-word.word-index + 1) c.args.list.now))
          a None first last) (sym all)
          (subst (λ (l : List Text). TakesEach state words l (c.loop-word.all && done) None first last)
          (sym (texts-more c.args.list.now c.loop-word.word-index _ c.loop-word-test.true))
          (takes-more state words _ _ first mid last c.loop-word.all done is.each
          c.in_ok-done.ensures.taken));
    }

pub returns-in_err-done-clause-keeps : goal.returns-in_err-done-clause-keeps
returns-in_err-done-clause-keeps g c =
    keeps_on _ _ _ c.loop-word.invariant.keeps c.in_err-done.ensures.keeps

pub returns-in_err-done-clause-taken : goal.returns-in_err-done-clause-taken
returns-in_err-done-clause-taken g c =
    let p = err_from_is_err_and c.from_residual.result c.from_residual.ensures.1 in
    let state = g.D.Disk.state in
    let words = c.args.words.now in
    let is = c.loop-word.invariant in
    let list = c.args.list.now in
    let around = texts_around list c.loop-word.word-index _ c.loop-word-test.true in
    let first : Progress g.row.D.Denot = (c.args.server.now, g.W.Write.contents c.args.writer.now, g.Y.System.calls c.args.system.now) in
    let mid : Progress g.row.D.Denot = (c.loop-word.server, g.W.Write.contents c.loop-word.writer, g.Y.System.calls c.loop-word.system) in
    let last : Progress g.row.D.Denot = (c.take.new.server, g.W.Write.contents c.take.new.writer, g.Y.System.calls c.take.new.system) in
    let refusal = c.in_err-done.field-0.0 in
    let ended = subst (λ (l : List Text). TakesEach state words l false (Some refusal) first last)
    (sym around.1) (takes-ends state words _ around.0 _ first mid last c.loop-word.all refusal is.each
    c.in_err-done.ensures.taken) in
    rw p.1 (subst (λ r. TakesEach state words (texts list) false (Some r) first last) (sym p.2) ended)

pub returns : goal.returns
returns g c =
    let is = c.loop-word.invariant in
    record {
      keeps = is.keeps;
      taken = subst (λ l. TakesEach g.D.Disk.state c.args.words.now (texts l) c.loop-word.all None
          (c.args.server.now, g.W.Write.contents c.args.writer.now, g.Y.System.calls c.args.system.now)
          (c.loop-word.server, g.W.Write.contents c.loop-word.writer, g.Y.System.calls c.loop-word.system))
          (take_all c.loop-word.word-index c.args.list.now c.loop-word-test.false) is.each;
    }
