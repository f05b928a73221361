-- What was told of one line is stored.
use Rattle.std.proofs.Common.{ℕ, ◌+◌, ⊎_elim, List, [], ◌++◌, length, take, Option, Result, Ok, Err}
use Rattle.std.proofs.Common.{sym, ap, ◌∙◌, subst, arith, append_assoc, append-nil, length-append}
use Rattle.std.proofs.Math.Seq.{take-append-add}
use Rattle.std.specs.Prelude.{IsFalse, OnOk, OnErr}
use Rattle.disk_model.specs.Disk.{State, IsHonestDisk}
use Rattle.disk_model.proofs.Laws.{at_end, weakens}
use Rattle.mot_journal.specs.Image.{Standing}
use Rattle.mot_lines.specs.Line.{line_of}
use Rattle.mot_objects.specs.declared.command.Command.{Command}
use Rattle.mot_repository.specs.Repository.{IsOf}
use Rattle.mot_playout.specs.Runs.{IsAfter, StandsAfterSome, ServerView}
use Rattle.mot_playout.proofs.Laws.{after_both, more, none_of}
use Rattle.mot_session.specs.declared.serving.output.WriteFault.{WriteFault}
use Rattle.mot_session.specs.Inner.Writes.{AnswersLine, Crosses, accepted_in, failed_in}
use Rattle.mot_session.specs.Served.{ServedLine, StoppedLine}
use Rattle.mot_session.specs.Life.{Told, done_in, fails_in}
use Rattle.mot_session.specs.Session.{Exchange, Reply, text_of, Leads, ServerState, StandsFor}
use Rattle.mot_session.specs.Session.{state_of}
use Rattle.mot_session.specs.Kept.{IsToldAndStored, KeepsAcknowledged}
use Rattle.mot_session.proofs.Crashes.{behind, made}
use Rattle.mot_session.proofs.Outcomes.{Outcome, nothing, one, halts, begun_outcome, outcome}
use Rattle.mot_session.proofs.Telling.{Kinds, kinds, kinds_begun, stored_so}

-- some of what is sure may be told as what may be
pub less_of_sure : (s : Standing) (sure done others : List Command) (image : List ℕ)
    → StandsAfterSome s (sure ++ done) others image → StandsAfterSome s sure (done ++ others) image
less_of_sure s sure done others image is =
    let count : ℕ = is.after.count in record {
      last = is.last;
      after = record {
        count = length done + count;
        few = omega (arith, is.after.few, length-append done others);
        after = subst (λ l. IsAfter s l is.last)
            (append_assoc sure done (take count others)
            ∙ ap (λ l. sure ++ l) (sym (take-append-add done others count))) is.after.after;
      };
      image_is = is.image_is;
    }

module _ (start now : State) (before : ServerState) (x : Exchange) (sound : IsHonestDisk now)
    (what : Outcome before x.after (accepted_in x) (failed_in x))
    (crosses : Crosses start now before x)
    (each : IsFalse x.after.halted → (image : List ℕ) → now.MayLeave image
    → IsOf x.after.standing image)
    (going : IsFalse before.halted) (s : Standing) (acknowledged : List Command)
    (so_far : IsAfter s acknowledged before.standing) where
  -- the command that the reply accepts was done
  accepted_more : IsAfter s (acknowledged ++ accepted_in x) x.after.standing
  accepted_more = after_both s acknowledged (accepted_in x) before.standing x.after.standing so_far
      (made before x what)

  came : (image : List ℕ) → StandsAfterSome before.standing [] (accepted_in x ++ failed_in x) image
      → StandsAfterSome s acknowledged (accepted_in x ++ failed_in x) image
  came image left =
      behind s before.standing acknowledged (accepted_in x ++ failed_in x) image so_far left

  leaves : Outcome before x.after (accepted_in x) (failed_in x) → (image : List ℕ)
      → now.MayLeave image
      → StandsAfterSome s (acknowledged ++ accepted_in x) (failed_in x) image
  leaves (nothing none fine standing same) image left =
      none_of s (acknowledged ++ accepted_in x) (failed_in x) x.after.standing image accepted_more
      (each (same ∙ going) image left)
  leaves (one c d is fine was same step) image left =
      none_of s (acknowledged ++ accepted_in x) (failed_in x) x.after.standing image accepted_more
      (each (same ∙ going) image left)
  leaves (halts none was is standing rises) image left =
      let all = came image
      (at_end start now (StandsAfterSome before.standing [] (accepted_in x ++ failed_in x))
      sound (crosses.going going) image left) in
      subst (λ l. StandsAfterSome s (acknowledged ++ l) (failed_in x) image) (sym none)
      (subst (λ l. StandsAfterSome s l (failed_in x) image) (sym (append-nil acknowledged))
      (subst (λ l. StandsAfterSome s acknowledged (l ++ failed_in x) image) none all))

  keeps : KeepsAcknowledged start now s x.after.standing acknowledged (accepted_in x) (failed_in x)
  keeps = record {
    after = accepted_more;
    at_end = λ image left. leaves what image (sound.only_now image left);
    any_moment = weakens start now
        (StandsAfterSome before.standing [] (accepted_in x ++ failed_in x))
        (StandsAfterSome s acknowledged (accepted_in x ++ failed_in x)) (crosses.going going) came;
    earlier = λ moment sure others early parts stored image left.
        ⊎_elim {C = StandsAfterSome s sure (others ++ (accepted_in x ++ failed_in x)) image}
        (λ was. more s sure others (accepted_in x ++ failed_in x) image (stored image was))
        (λ is. less_of_sure s sure others (accepted_in x ++ failed_in x) image
        (subst (λ l. StandsAfterSome s l (accepted_in x ++ failed_in x) image) parts
        (came image is)))
        ((crosses.going going).before moment image early left);
  }

-- a line was answered, in whole or in part
module _ {D : Type 0} (state : D → State) (old new : ServerView D) (line : List ℕ)
    (known next : Option (List ℕ))
    (sound : (state new.disk).IsHonest → IsHonestDisk (state new.disk)) where
  abbrev start : Standing → ServerState
  start s = state_of old s (state old.disk)

  abbrev exchange : Standing → Reply → Exchange
  exchange last reply =
      record { line = line; reply = reply; after = state_of new last (state new.disk) }

  abbrev AnswersSo : {T : Type 0} → Result T WriteFault → ServerState → ServerState → Type 0
  AnswersSo result before after =
      AnswersLine result (state old.disk) (state new.disk) before line after known next

  abbrev told : Reply → Told
  told reply = record { line = line; text = text_of reply }

  stored : (s last : Standing) (reply : Reply) → StandsFor new.view last (state new.disk)
      → (state new.disk).IsHonest → Kinds (line_of line) reply
      → Outcome (start s) (state_of new last (state new.disk)) (accepted_in (exchange last reply))
      (failed_in (exchange last reply))
      → Crosses (state old.disk) (state new.disk) (start s) (exchange last reply)
      → IsToldAndStored (state old.disk) (state new.disk) (start s) (done_in (told reply))
      (fails_in (told reply)) (state_of new last (state new.disk))
  stored s last reply stands honest kinds what crosses =
      stored_so (start s) (state_of new last (state new.disk)) line reply kinds
      (state old.disk) (state new.disk) (keeps (state old.disk) (state new.disk) (start s) (exchange last reply)
      (sound honest) what crosses
      (λ going image left. (stands.holds going).each image left))

  -- a line whose whole reply was written is served, and what was told is stored
  pub ServedLine-told : {T : Type 0} (result : Result T WriteFault)
      → Leads state old new (AnswersSo result)
      → OnOk result (Leads state old new (λ before after.
      ServedLine (state old.disk) (state new.disk) before line after known next))
  ServedLine-told (Ok done) led = λ s stands honest.
      let a = led s stands honest in
      let told = a.2 in (
        a.0,
        a.1,
        record {
          reply = told.reply;
          answers = told.answers.answers;
          appended = told.answers.written;
          stored = stored s a.0 told.reply a.1 honest
              (kinds (start s) (state_of new a.0 (state new.disk)) (line_of line) told.reply
              told.answers.answers) (outcome (start s) (state_of new a.0 (state new.disk)) (line_of line) told.reply
              told.answers.answers) told.crosses;
        },
      )
  ServedLine-told (Err fault) led = tt

  -- a line whose reply was broken off is stopped, and its command stored all the same
  pub StoppedLine-told : {T : Type 0} (result : Result T WriteFault)
      → Leads state old new (AnswersSo result)
      → OnErr result (Leads state old new (λ before after.
      StoppedLine (state old.disk) (state new.disk) before line after known next))
  StoppedLine-told (Ok done) led = tt
  StoppedLine-told (Err fault) led = λ s stands honest.
      let a = led s stands honest in
      let told = a.2 in (
        a.0,
        a.1,
        record {
          reply = told.reply;
          broken = told.answers;
          stored = stored s a.0 told.reply a.1 honest
              (kinds_begun (start s) (state_of new a.0 (state new.disk)) (line_of line) told.reply
              told.answers.begins) (begun_outcome (start s) (state_of new a.0 (state new.disk)) (line_of line) told.reply
              told.answers.begins) told.crosses;
        },
      )
