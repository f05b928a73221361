-- One line that was served on a disk on which commands are done.
use Rattle.std.proofs.Common.{◌≡◌, ◌⊎◌, ℕ, true, List, [], ◌∷◌, ◌++◌, None, Option, Result, Ok, Err}
use Rattle.std.proofs.Common.{refl, sym, subst}
use Rattle.std.specs.Prelude.{OnOk, OnErr, if◌then◌else◌}
use Rattle.disk_model.specs.Disk.{State, IsHonestDisk, Rises}
use Rattle.mot_journal.specs.Image.{Standing}
use Rattle.mot_journal.specs.Journal.{standing_from}
use Rattle.mot_lines.specs.Line.{line_of}
use Rattle.mot_numbers.specs.declared.geometry.Geometry.{Geometry}
use Rattle.mot_objects.specs.declared.command.Command.{Command}
use Rattle.mot_objects.specs.Carousel.{Carousel, carousel_after}
use Rattle.mot_playout.specs.Life.{carousel_from}
use Rattle.mot_playout.specs.Lives.{HasDone}
use Rattle.mot_playout.specs.Runs.{IsAfter, StandsAfterSome, ServerView}
use Rattle.mot_session.specs.Life.{AreRightReplies, Told, TellsLine, done_in, fails_in, is_done}
use Rattle.mot_session.specs.LineByLine.{BreaksOff, ServesOne}
use Rattle.mot_session.specs.Session.{text_of, StandsFor, state_of, command_in}
use Rattle.mot_session.proofs.Lives.{Step, done_at, done_stands, one_at_most, rules_of, image_of}
use Rattle.mot_session.proofs.Lives.{kept_by, line_failed, since_before, step_made}
use Rattle.mot_session.proofs.Ruled.{carousel_at, line-short, right_more, right_reply}
use Rattle.mot_session.proofs.Shown.{begun, front_begun, replied}
use Rattle.mot_session.proofs.Telling.{begun_told, done_of_front, made_sure, not_both, told_outcome}
use Rattle.mot_session.proofs.Telling as telling

module _ {D : Type 0} (state : D → State)
    (sound : (disk : D) → (state disk).IsHonest → IsHonestDisk (state disk))
    (g : Geometry) (first : ℕ) (done others : List Command) (old new : ServerView D)
    (line : List ℕ) (written now : Option (List ℕ))
    (has : HasDone state g first done others old) (honest : (state new.disk).IsHonest) where
  -- the disk failed in the line
  abbrev Fails : Type 0
  Fails = Rises (state old.disk).failures (state new.disk).failures

  -- the carousel before the line, unless the server was halted
  abbrev carousel_was : Option Carousel
  carousel_was =
      if old.view.halted then None else carousel_after (carousel_from first) g.objects done

  -- what the line leaves, which made these commands, and of which a fault of the disk cut off
  -- others
  pub record Leaves (made cut_off : List Command) : Type 0 where
    pub has_done : HasDone state g first (done ++ made) (others ++ cut_off) new
    pub since : (image : List ℕ) → (state new.disk).LeftSince (state old.disk).moment image
        → StandsAfterSome (standing_from g first has.standing.rest) done (others ++
        (made ++ cut_off)) image
    pub cause : (cut_off ≡ []) ⊎ Rises (state old.disk).failures (state new.disk).failures

  leaves_by : (last : Standing) (made cut_off : List Command) → IsHonestDisk (state old.disk)
      → StandsFor new.view last (state new.disk)
      → Step (standing_from g first has.standing.rest) (state old.disk)
      (state new.disk) old.view.halted
      new.view.halted last done others made cut_off
      → (cut_off ≡ []) ⊎ Rises (state old.disk).failures (state new.disk).failures
      → Leaves made cut_off
  leaves_by last made cut_off was stands step cause = record {
    cause = cause;
    has_done = record {
      standing = last;
      after = subst (λ r. IsAfter (standing_from g first r) (done ++ made) last)
          (sym step.after.rest) step.after;
      agrees = stands.agrees;
      holds = λ going. (step.going going, stands.holds going);
      leaves = λ image may. subst
          (λ r. StandsAfterSome (standing_from g first r) (done ++ made) (others ++ cut_off) image)
          (sym step.after.rest) (step.leaves image may);
      few = step.few;
    };
    since = since_before (standing_from g first has.standing.rest) (state new.disk)
        (state old.disk) (state new.disk)
        old.view.halted new.view.halted last done others was
        (done_at state g first done others old has) made cut_off step;
  }

  -- it was answered, and the whole reply was written
  pub line_served : (T E : Type 0) (it : T) → ServesOne state old line new written now
      → (made cut_off : List Command)
      × TellsLine {T = T} {E = E} Fails g old.view.journal.layout carousel_was
      (Ok it) line made cut_off
      written now × Leaves made cut_off
  line_served T E it one =
      let was_honest = one.goes.keeps.was_honest honest in
      let stands = done_stands state g first done others old has in
      let led = one.answered has.standing stands honest in
      let served = led.2 in
      let before = state_of old has.standing (state old.disk) in
      let behind = state_of new led.0 (state new.disk) in
      let t : Told = record { line = line; text = text_of served.reply } in
      let what = told_outcome before behind line served.reply served.answers in
      let step = step_made (standing_from g first has.standing.rest) (state old.disk)
      (state new.disk) before behind t
      (sound new.disk honest) (λ h. (one.goes.halted h).1 honest) served.stored done others
      has.after (done_at state g first done others old has) what in (
        done_in t,
        fails_in t,
        (
          t,
          refl,
          replied g before behind (line_of line) served.reply has.after.geometry
              (rules_of state sound (standing_from g first has.standing.rest) old has.standing
              was_honest stands)
              served.answers,
          λ two. subst (λ o. AreRightReplies Fails g o (t ∷ []))
              (kept_by g first has.standing.rest done has.standing old.view.halted has.after)
              (right_more before behind two Fails (λ is. is) g has.after.geometry line
              (text_of served.reply) []
              (carousel_at before) (carousel_at behind)
              (right_reply before behind two (line_of line) served.reply (line-short line)
              (image_of state sound (standing_from g first has.standing.rest) old has.standing
              was_honest stands)
              (rules_of state sound (standing_from g first has.standing.rest) old has.standing
              was_honest stands)
              served.answers) tt),
          served.appended,
          refl,
          refl,
        ),
        leaves_by led.0 (done_in t) (fails_in t) (sound old.disk was_honest) led.1 step
            (line_failed before behind (done_in t) (fails_in t) what),
      )

  -- the reply was broken off
  pub line_broken : (T E : Type 0) (fault : E) → BreaksOff state old line new written now
      → (made cut_off : List Command)
      × TellsLine {T = T} {E = E} Fails g old.view.journal.layout carousel_was (Err fault) line made
      cut_off
      written now
      × Leaves made cut_off
  line_broken T E fault breaks =
      let was_honest = breaks.goes.keeps.was_honest honest in
      let stands = done_stands state g first done others old has in
      let led = breaks.broken has.standing stands honest in
      let stopped = led.2 in
      let before = state_of old has.standing (state old.disk) in
      let behind = state_of new led.0 (state new.disk) in
      let t : Told = record { line = line; text = text_of stopped.reply } in
      let what = begun_told before behind line stopped.reply stopped.broken.begins in
      let step = step_made (standing_from g first has.standing.rest) (state old.disk)
      (state new.disk) before behind t
      (sound new.disk honest) (λ h. (breaks.goes.halted h).1 honest) stopped.stored done others
      has.after (done_at state g first done others old has) what in
      let goes = front_begun g (line_of line) (text_of stopped.reply)
      stopped.broken.written.written stopped.broken.written.unwritten stopped.broken.written.split
      (begun g before behind (line_of line) stopped.reply has.after.geometry
      (rules_of state sound (standing_from g first has.standing.rest) old has.standing was_honest
      stands)
      stopped.broken.begins) in (
        done_in t,
        fails_in t,
        (
          stopped.broken.written.written,
          goes.0,
          goes.1,
          stopped.broken.written.appended,
          one_at_most (is_done t.text) (telling.is_fault t.text) (command_in (line_of line))
              (not_both t.text),
          λ so. made_sure (is_done t.text) (command_in (line_of line))
              (subst (λ text. is_done text ≡ true) (sym stopped.broken.written.split)
              (done_of_front stopped.broken.written.written stopped.broken.written.unwritten so)),
        ),
        leaves_by led.0 (done_in t) (fails_in t) (sound old.disk was_honest) led.1 step
            (line_failed before behind (done_in t) (fails_in t) what),
      )

  -- either
  pub line_told : (T E : Type 0) (result : Result T E)
      → OnOk result (ServesOne state old line new written now)
      → OnErr result (BreaksOff state old line new written now)
      → (made cut_off : List Command)
      × TellsLine Fails g old.view.journal.layout carousel_was result line made cut_off written now
      × Leaves made cut_off
  line_told T E (Ok it) one breaks = line_served T E it one
  line_told T E (Err fault) one breaks = line_broken T E fault breaks
