use Rattle.std.proofs.Common.{◌≡◌, ◌⊎◌, [], ◌++◌, Some, subst, sym}
use Rattle.std.specs.List.{flat_map}
use Rattle.disk_model.specs.Disk.{Rises}
use Rattle.mot_journal.specs.Journal.{standing_from}
use Rattle.mot_playout.specs.Life.{carousel_from}
use Rattle.mot_numbers.proofs.Laws.{same_error}
use Rattle.mot_playout.proofs.Laws.{keeps_commands, none_kept, none_or_left}
use Rattle.mot_session.specs.Life.{AreRightReplies, commands_done, fails_in}
use Rattle.mot_session.proofs.Lives.{done_at, done_stands, kept_new, left_or_stands, served_so}
use Rattle.mot_session.proofs.Lives.{some_of}
use Rattle.mot_session.proofs.life.format_and_serve.Goals as goal

pub returns-clause-told : goal.returns-clause-told
returns-clause-told g c = λ honest.
    let state = g.D.Disk.state in
    let serve = c.serve-end.ensures in
    let opened = c.in_ok-server.server in
    let new = c.serve-end.new.server in
    let g0 = c.args.geometry.now in
    let now_honest = subst (λ d. (state d).IsHonest) c.into_disk.ensures honest in
    let open_honest = serve.goes.keeps.was_honest now_honest in
    let has = c.in_ok-server.ensures.begins open_honest in
    let all = served_so state g.met.D.Disk.sound
    (standing_from g0 c.args.directory has.standing.rest) []
    has.standing has.after
    opened new c.args.reads (g.R.Read.remaining c.args.reader.now)
    (g.R.Read.remaining c.serve-end.new.reader)
    (g.W.Write.contents c.args.writer.now) (g.W.Write.contents c.serve-end.new.writer)
    c.serve-end.result.lines c.serve-end.result.fault now_honest
    (done_stands state g0 c.args.directory [] [] opened has)
    (done_at state g0 c.args.directory [] [] opened has) serve.faults
    serve.ended serve.unread (λ is. let e = serve.unwritten is in (e.0, e.1, some_of e.2))
    serve.none in (
      all.0,
      all.1,
      all.2,
      all.3,
      all.5,
      subst (λ d. AreRightReplies (Rises (state c.args.disk).failures (state d).failures) g0
          (Some (carousel_from c.args.directory)) all.2) (sym c.into_disk.ensures)
          (subst (λ n. AreRightReplies (Rises n (state new.disk).failures) g0
          (Some (carousel_from c.args.directory)) all.2) c.in_ok-server.ensures.calm
          (subst (λ o. AreRightReplies
          (Rises (state opened.disk).failures (state new.disk).failures) g0 o all.2)
          (kept_new g0 c.args.directory has.standing.rest has.standing opened.view.halted
          (c.in_ok-server.ensures.holds open_honest).going has.after)
          (all.7 (c.in_ok-server.ensures.layout open_honest)))),
      subst (λ d. (flat_map fails_in all.2 ≡ [])
          ⊎ Rises (state c.args.disk).failures (state d).failures) (sym c.into_disk.ensures)
          (subst (λ n. (flat_map fails_in all.2 ≡ []) ⊎ Rises n (state new.disk).failures)
          c.in_ok-server.ensures.calm all.8),
      λ blank image left.
          let time = c.in_ok-server.ensures.any_moment open_honest blank in
          let flown = commands_done all.2 ++ all.3 in
          none_or_left g0 c.args.directory has.standing.rest flown image
          ((state opened.disk).LeftSince (state c.args.disk).moment image)
          (λ old. time.each image old)
          (left_or_stands (standing_from g0 c.args.directory has.standing.rest) flown image
          opened.view.halted
          ((state opened.disk).LeftSince (state c.args.disk).moment image)
          (all.6.before (state c.args.disk).moment image time.later
          (subst (λ d. (state d).LeftSince (state c.args.disk).moment image) c.into_disk.ensures
          left))),
      λ image may. keeps_commands g0 c.args.directory has.standing.rest _ _ image
          (all.6.at_end image (subst (λ d. (state d).MayLeave image) c.into_disk.ensures may)),
    )

pub returns-clause-ends : goal.returns-clause-ends
returns-clause-ends g c = (c.serve-end.ensures.faults, λ is. (c.serve-end.ensures.none is).0)

pub returns-clause-over : goal.returns-clause-over
returns-clause-over g c = λ honest. c.in_ok-server.ensures.over
    (c.serve-end.ensures.goes.keeps.was_honest
    (subst (λ d. (g.D.Disk.state d).IsHonest) c.into_disk.ensures honest))

-- refused: a crash left no magic, or the new carousel
pub returns-in_err-server-clause-any_moment : goal.returns-in_err-server-clause-any_moment
returns-in_err-server-clause-any_moment g c =
    let failed = c.in_err-server.field-0.0 in
    rw (same_error c.from_residual.result failed c.from_residual.ensures.1)
    (λ honest blank image left. none_kept c.args.geometry.now c.args.directory [] image
    ((c.in_err-server.ensures.any_moment honest blank).each image left))
