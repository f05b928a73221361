-- Lines that are served one after the other.
use Rattle.std.proofs.Common.{◌≡◌, ℕ, List, [], ◌∷◌, ◌++◌, length, Option, Result, Ok, Err, ap}
use Rattle.std.proofs.Common.{refl, subst, sym}
use Rattle.std.specs.Prelude.{OnOk, OnErr}
use Rattle.disk_model.specs.Disk.{State, IsHonestDisk}
use Rattle.mot_lines.specs.Line.{line_of}
use Rattle.mot_lines.specs.Lines.{whole_lines}
use Rattle.mot_lines.proofs.Laws.{whole_lines-none}
use Rattle.mot_playout.specs.Runs.{ServerView}
use Rattle.mot_session.specs.declared.serving.output.WriteFault.{WriteFault}
use Rattle.mot_session.specs.Inner.Anyhow.{AnswersWithAnyhow}
use Rattle.mot_session.specs.Inner.Writes.{AnswersLine}
use Rattle.mot_session.specs.LineByLine.{BreaksOff, GoesOn, ServesEach, ServesOne, ServesSome}
use Rattle.mot_session.specs.Session.{Leads}
use Rattle.mot_session.proofs.Told.{ServedLine-told, StoppedLine-told}

module _ {D : Type 0} (state : D → State) where
  -- no line yet
  pub each-none : (server : ServerView D) (known : Option (List ℕ))
      → ServesEach state server (whole_lines []) server known known
  each-none server known =
      subst (λ l. ServesEach state server l server known known) (sym whole_lines-none) (refl, refl)

  one-behind : (old mid new : ServerView D) (line : List ℕ) (written between now : Option (List ℕ))
      → (mid ≡ old) × (between ≡ written) → ServesOne state mid line new between now
      → ServesOne state old line new written now
  one-behind old mid new line written between now same one =
      subst (λ w. ServesOne state old line new w now) same.1
      (subst (λ s. ServesOne state s line new between now) same.0 one)

  -- one line more
  pub each-more : (old mid new : ServerView D) (lines : List (List ℕ)) (line : List ℕ)
      (written between now : Option (List ℕ)) → ServesEach state old lines mid written between
      → ServesOne state mid line new between now
      → ServesEach state old (lines ++ line ∷ []) new written now
  each-more old mid new [] line written between now same one =
      (new, now, one-behind old mid new line written between now same one, (refl, refl))
  each-more old mid new (first ∷ lines) line written between now each one = (
    each.0,
    each.1,
    each.2,
    each-more each.0 mid new lines line each.1 between now each.3 one,
  )

  -- the reply to one line more was broken off
  pub some-here : (old mid new : ServerView D) (first : List (List ℕ)) (line : List ℕ)
      (others lines : List (List ℕ)) (count : ℕ) (written between now : Option (List ℕ))
      → lines ≡ first ++ line ∷ others → count ≡ length first
      → ServesEach state old first mid written between → BreaksOff state mid line new between now
      → ServesSome state old lines count new written now
  some-here old mid new first line others lines count written between now split counted each b =
      record {
        first = first;
        line = line;
        others = others;
        split = split;
        counted = counted;
        mid = mid;
        between = between;
        each = each;
        breaks = b;
      }

-- the server on what its disk is made of
abbrev pub server_on : {D E : Type 0} → (D → E) → ServerView D → ServerView E
server_on of server =
    record { view = server.view; disk = of server.disk; player = server.player }

-- what was served on a disk was served on the one that it is made of
module _ {D E : Type 0} (of : D → E) (state : E → State) where
  abbrev state_on : D → State
  state_on disk = state (of disk)

  goes-on : (old new : ServerView D) (before now : State) → GoesOn old new before now
      → GoesOn (server_on of old) (server_on of new) before now
  goes-on old new before now goes = record { keeps = goes.keeps; halted = goes.halted }

  one-on : (old new : ServerView D) (line : List ℕ) (written now : Option (List ℕ))
      → ServesOne state_on old line new written now
      → ServesOne state (server_on of old) line (server_on of new) written now
  one-on old new line written now one = record {
    answered = one.answered;
    text = one.text;
    anyhow = one.anyhow;
    appended = one.appended;
    goes = goes-on old new (state_on old.disk) (state_on new.disk) one.goes;
  }

  breaks-on : (old new : ServerView D) (line : List ℕ) (written now : Option (List ℕ))
      → BreaksOff state_on old line new written now
      → BreaksOff state (server_on of old) line (server_on of new) written now
  breaks-on old new line written now breaks = record {
    broken = breaks.broken;
    text = breaks.text;
    anyhow = breaks.anyhow;
    front = breaks.front;
    goes = goes-on old new (state_on old.disk) (state_on new.disk) breaks.goes;
  }

  pub each-on : (old new : ServerView D) (lines : List (List ℕ)) (written now : Option (List ℕ))
      → ServesEach state_on old lines new written now
      → ServesEach state (server_on of old) lines (server_on of new) written now
  each-on old new [] written now each = (ap (server_on of) each.0, each.1)
  each-on old new (line ∷ lines) written now each = (
    server_on of each.0,
    each.1,
    one-on old each.0 line written each.1 each.2,
    each-on each.0 new lines each.1 now each.3,
  )

  pub some-on : (old new : ServerView D) (lines : List (List ℕ)) (count : ℕ)
      (written now : Option (List ℕ)) → ServesSome state_on old lines count new written now
      → ServesSome state (server_on of old) lines count (server_on of new) written now
  some-on old new lines count written now some = record {
    first = some.first;
    line = some.line;
    others = some.others;
    split = some.split;
    counted = some.counted;
    mid = server_on of some.mid;
    between = some.between;
    each = each-on old some.mid some.first written some.between some.each;
    breaks = breaks-on some.mid new some.line some.between now some.breaks;
  }

-- what was told of a line
module _ {D : Type 0} (state : D → State) (old new : ServerView D) (known next : Option (List ℕ))
    (line : List ℕ) (sound : (state new.disk).IsHonest → IsHonestDisk (state new.disk))
  where
    abbrev LeadsSo : {T : Type 0} → Result T WriteFault → Type 0
    LeadsSo result = Leads state old new (λ before after.
        AnswersLine result (state old.disk) (state new.disk) before line after known next)

    abbrev AnswersSo : {T : Type 0} → Result T WriteFault → Type 0
    AnswersSo result = AnswersWithAnyhow result old.view new.view
        (state old.disk).failures (state new.disk).failures (line_of line) known next

    -- a line that was answered so, and whose reply was written, is served
    pub ServesOne-told : {T : Type 0} (result : Result T WriteFault) → LeadsSo result
        → AnswersSo result → GoesOn old new (state old.disk) (state new.disk)
        → OnOk result (ServesOne state old line new known next)
    ServesOne-told (Ok done) led anyhow goes = record {
      answered = ServedLine-told state old new line known next sound (Ok done) led;
      text = anyhow.0;
      anyhow = anyhow.1;
      appended = anyhow.2;
      goes = goes;
    }
    ServesOne-told (Err fault) led anyhow goes = tt

    -- a line that was answered so, and whose reply was not written whole, is broken off
    pub BreaksOff-told : {T : Type 0} (result : Result T WriteFault) → LeadsSo result
        → AnswersSo result → GoesOn old new (state old.disk) (state new.disk)
        → OnErr result (BreaksOff state old line new known next)
    BreaksOff-told (Ok done) led anyhow goes = tt
    BreaksOff-told (Err fault) led anyhow goes = record {
      broken = StoppedLine-told state old new line known next sound (Err fault) led;
      text = anyhow.0;
      anyhow = anyhow.1;
      front = anyhow.2;
      goes = goes;
    }
