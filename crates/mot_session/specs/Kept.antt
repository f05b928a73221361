-- What a crash leaves of a line, and so of a session.
use Rattle.std.specs.Prelude.{ℕ, ◌≡◌, ◌≤◌, List, ◌++◌, IsFalse}
use Rattle.disk_model.specs.Disk.{State, Throughout}
use Rattle.mot_journal.specs.Image.{Standing}
use Rattle.mot_objects.specs.declared.command.Command.{Command}
use Rattle.mot_playout.specs.Runs.{IsAfter, StandsAfterSome}
use Rattle.mot_session.specs.Session.{ServerState}

-- At each moment since that one of the disk's clock, inside a call of the disk or between two, a
-- crash leaves what all of the sure commands and a beginning of the others make of s.
abbrev pub HoldsSince : State → ℕ → Standing → List Command → List Command → Type 0
HoldsSince now moment s sure others =
    (image : List ℕ) → now.LeftSince moment image → StandsAfterSome s sure others image

-- What a crash leaves of one line, whose reply tells that these commands are done and those cut off
-- by a device fault. Its answering began on the disk as it was at start, where the acknowledged
-- commands had made of s what it stood for, and ended on the disk as it is now.
pub record KeepsAcknowledged (start now : State) (s last : Standing)
    (acknowledged done cut_off : List Command) : Type 0 where
  -- The command that is done is one more that is acknowledged.
  pub after : IsAfter s (acknowledged ++ done) last
  -- Now a crash leaves all of these, and at most the one that was cut off.
  pub at_end : HoldsSince now now.moment s (acknowledged ++ done) cut_off
  -- Since the start one leaves all that were acknowledged before, and at most the line's command.
  pub any_moment : Throughout start now (StandsAfterSome s acknowledged (done ++ cut_off))
  -- What was stored since an earlier moment stays stored.
  pub earlier : (moment : ℕ) (sure others : List Command) → moment ≤ start.moment
      → acknowledged ≡ sure ++ others → HoldsSince start moment s sure others
      → HoldsSince now moment s sure (others ++ (done ++ cut_off))

-- What was told is stored, whenever the power goes, and whatever commands were acknowledged before.
-- (A halted server changes nothing.)
abbrev pub IsToldAndStored : State → State → ServerState → List Command → List Command
    → ServerState → Type 0
IsToldAndStored start now before done cut_off after =
    IsFalse before.halted → (s : Standing) (acknowledged : List Command)
    → IsAfter s acknowledged before.standing
    → KeepsAcknowledged start now s after.standing acknowledged done cut_off
