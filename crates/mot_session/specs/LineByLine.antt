-- The promise of each line of an input, for the server as it was before the line and as it was
-- after it: so what comes after a line takes nothing of it back.
use Rattle.std.specs.Prelude.{ℕ, ◌≡◌, List, [], ◌∷◌, ◌++◌, length, Option, IsTrue}
use Rattle.std.specs.Io.KnownBytes.{Appends}
use Rattle.disk_model.specs.Disk.{State, IsUnchanged, KeepsLength}
use Rattle.mot_lines.specs.Line.{line_of}
use Rattle.mot_playout.specs.Runs.{ServerView}
use Rattle.mot_session.specs.OnAnyDisk.{AnswersAnyhow, BeginsAnyhow}
use Rattle.mot_session.specs.Served.{ServedLine, StoppedLine, WritesFront}
use Rattle.mot_session.specs.Session.{Leads}

-- Whatever was asked, the disk's length stays and its failures do not fall, and a halted server
-- changes nothing.
pub record GoesOn {D : Type 0} (old new : ServerView D) (before now : State) : Type 0 where
  pub keeps : KeepsLength before now
  pub halted : IsTrue old.view.halted → (new.view ≡ old.view)
      × (now.IsHonest → IsUnchanged before now)

module _ {D : Type 0} (state : D → State) where
  -- The line was answered, the whole reply was written, and what was told is stored. On every disk
  -- the reply is right for what the server kept in memory.
  pub record ServesOne (old : ServerView D) (line : List ℕ) (new : ServerView D)
      (written now : Option (List ℕ)) : Type 0 where
    pub answered : Leads state old new (λ before after.
        ServedLine (state old.disk) (state new.disk) before line after written now)
    pub text : List ℕ
    pub anyhow : AnswersAnyhow old.view new.view (state old.disk).failures
        (state new.disk).failures (line_of line) text
    pub appended : Appends written now text
    pub goes : GoesOn old new (state old.disk) (state new.disk)

  -- so, but some first bytes of the reply were written
  pub record BreaksOff (old : ServerView D) (line : List ℕ) (new : ServerView D)
      (written now : Option (List ℕ)) : Type 0 where
    pub broken : Leads state old new (λ before after.
        StoppedLine (state old.disk) (state new.disk) before line after written now)
    pub text : List ℕ
    pub anyhow : BeginsAnyhow old.view new.view (state old.disk).failures
        (state new.disk).failures (line_of line) text
    pub front : WritesFront text written now
    pub goes : GoesOn old new (state old.disk) (state new.disk)

  -- the lines were answered so, one after the other
  abbrev pub ServesEach : ServerView D → List (List ℕ) → ServerView D
      → Option (List ℕ) → Option (List ℕ) → Type 0
  ServesEach old [] new written now = (new ≡ old) × (now ≡ written)
  ServesEach old (line ∷ lines) new written now =
      (mid : ServerView D) × (between : Option (List ℕ)) × ServesOne old line mid written between
      × ServesEach mid lines new between now

  -- so were the first of them, and the reply to the one behind them was broken off
  pub record ServesSome (old : ServerView D) (lines : List (List ℕ)) (count : ℕ)
      (new : ServerView D) (written now : Option (List ℕ)) : Type 0 where
    pub first : List (List ℕ)
    pub line : List ℕ
    pub others : List (List ℕ)
    pub split : lines ≡ first ++ line ∷ others
    pub counted : count ≡ length first
    pub mid : ServerView D
    pub between : Option (List ℕ)
    pub each : ServesEach old first mid written between
    pub breaks : BreaksOff mid line new between now
