-- What is told of bytes that were answered is told of a line that asks for the same.
use Rattle.std.proofs.Common.{◌≡◌, ℕ, List, [], Option, ap, subst}
use Rattle.std.specs.Prelude.{bytes_eq, if◌then◌else◌}
use Rattle.disk_model.specs.Disk.{State}
use Rattle.mot_lines.specs.Line.{line_of}
use Rattle.mot_lines.specs.Text.{refusal_line}
use Rattle.mot_numbers.specs.declared.refusal.Refusal.TheVariants.{DeviceFault}
use Rattle.mot_objects.specs.declared.command.Command.{Command}
use Rattle.mot_playout.specs.Runs.{ServerView}
use Rattle.mot_session.specs.Kept.{IsToldAndStored}
use Rattle.mot_session.specs.Life.{Told, done_in, fails_in, is_done}
use Rattle.mot_session.specs.LineByLine.{BreaksOff, ServesOne}
use Rattle.mot_session.specs.OnAnyDisk.{AnswersAnyhow, BeginsAnyhow}
use Rattle.mot_session.specs.Served.{BrokenOff, ServedLine, StoppedLine}
use Rattle.mot_session.specs.Session.{Answers, text_of, ServerState, command_in}

module _ (bytes line : List ℕ) (same : line_of bytes ≡ line_of line) where
  module _ (start now : State) (before after : ServerState) (text : List ℕ) where
    abbrev told : List ℕ → Told
    told l = record { line = l; text = text }

    abbrev StoredSo : List Command → List Command → Type 0
    StoredSo done cut_off = IsToldAndStored start now before done cut_off after

    -- a text tells the same of both
    done : done_in (told bytes) ≡ done_in (told line)
    done = ap (λ r. if is_done text then command_in r else []) same

    failed : fails_in (told bytes) ≡ fails_in (told line)
    failed = ap (λ r. if bytes_eq text (refusal_line DeviceFault) then command_in r else []) same

    -- so what was told is stored
    stored-of_line : StoredSo (done_in (told bytes)) (fails_in (told bytes))
        → StoredSo (done_in (told line)) (fails_in (told line))
    stored-of_line stored = subst (λ l. StoredSo (done_in (told line)) l) failed
        (subst (λ l. StoredSo l (fails_in (told bytes))) done stored)

  module _ (start now : State) (before after : ServerState) (old new : Option (List ℕ)) where
    -- it was answered
    ServedLine-of_line : ServedLine start now before bytes after old new
        → ServedLine start now before line after old new
    ServedLine-of_line served = record {
      reply = served.reply;
      answers = subst (λ r. Answers before r served.reply after) same served.answers;
      appended = served.appended;
      stored = stored-of_line start now before after (text_of served.reply) served.stored;
    }

    -- its reply was broken off
    StoppedLine-of_line : StoppedLine start now before bytes after old new
        → StoppedLine start now before line after old new
    StoppedLine-of_line stopped = record {
      reply = stopped.reply;
      broken = subst (λ r. BrokenOff before r stopped.reply after old new) same stopped.broken;
      stored = stored-of_line start now before after (text_of stopped.reply) stopped.stored;
    }

  module _ {D : Type 0} (state : D → State) (old new : ServerView D) (written now : Option (List ℕ))
    where
      -- so, too, with what is told on every disk
      pub ServesOne-of_line : ServesOne state old bytes new written now
          → ServesOne state old line new written now
      ServesOne-of_line one = record {
        answered = λ s stands honest.
            let a = one.answered s stands honest in
            (a.0, a.1, ServedLine-of_line (state old.disk) (state new.disk) _ _ written now a.2);
        text = one.text;
        anyhow = subst (λ r. AnswersAnyhow old.view new.view (state old.disk).failures
            (state new.disk).failures r one.text) same one.anyhow;
        appended = one.appended;
        goes = one.goes;
      }

      -- a reply to bytes that was broken off is one to a line that asks for the same
      pub BreaksOff-of_line : BreaksOff state old bytes new written now
          → BreaksOff state old line new written now
      BreaksOff-of_line one = record {
        broken = λ s stands honest.
            let a = one.broken s stands honest in
            (a.0, a.1, StoppedLine-of_line (state old.disk) (state new.disk) _ _ written now a.2);
        text = one.text;
        anyhow = subst (λ r. BeginsAnyhow old.view new.view (state old.disk).failures
            (state new.disk).failures r one.text) same one.anyhow;
        front = one.front;
        goes = one.goes;
      }
