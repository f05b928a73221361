-- What serving says, and what it leaves of a disk.
use Rattle.std.specs.Prelude.{ℕ, ◌≡◌, ◌⊎◌, List, Option, None, Some, IsFalse}
use Rattle.std.specs.Io.KnownBytes.{IsAtEnd, Keeps}
use Rattle.disk_model.specs.Disk.{State}
use Rattle.mot_update.specs.Opening.{IsOpenable, IsUnopened, OfClean}
use Rattle.mot_journal.specs.Image.{Standing}
use Rattle.mot_lines.specs.Lines.{whole_lines, lines_of}
use Rattle.mot_numbers.specs.declared.refusal.Refusal.{Refusal}
use Rattle.mot_numbers.specs.declared.refusal.Refusal.TheVariants.{ReadFault, WriteFault}
use Rattle.mot_playout.specs.Runs.{ServerView}
use Rattle.mot_session.specs.LineByLine.{ServesEach, ServesSome}
use Rattle.mot_session.specs.declared.serving.TheConstants.{MAX_READS}
use Rattle.mot_session.specs.Served.{TakesInput}
use Rattle.mot_session.specs.Session.{HasJustOpened, StandsFor, state_of}

-- a server just opened, of a disk that stands for this
pub record IsFresh {D : Type 0} (state : D → State) (s : Standing) (server : ServerView D) :
    Type 0 where
  pub stands : StandsFor server.view s (state server.disk)
  pub opened : HasJustOpened (state_of server s (state server.disk))

-- In these the disk was in a state start, and this is the disk at the end; serving ended with this
-- refusal or with none; what the reader had left was unread and is left, and the writer's known
-- bytes were old and are new.
module _ {D : Type 0} (state : D → State) (disk : D) where
  -- A server was opened of a disk whose bytes stood for something, if it was honest till then, and
  -- between it and the one at the end there is P. If all that a crash could leave at the start stood
  -- for something, clean, it was opened of that.
  pub record OpensTo (start : State) (P : ServerView D → ServerView D → Type 0) : Type 0 where
    pub first : ServerView D
    pub last : ServerView D
    pub on_disk : last.disk ≡ disk
    pub going : IsFalse first.view.halted
    pub openable : IsOpenable start (state first.disk)
    pub fresh : OfClean (λ s. IsFresh state s first) start (state first.disk)
    pub leads : P first last

  -- Each line of the input was answered; where a read failed, each that has its end; where a write
  -- failed, the first of them, and the reply to the one behind them was broken off.
  abbrev pub ServesTill : Option Refusal → (left : Option (List ℕ)) → (input : List ℕ)
      → (old new : Option (List ℕ)) → (first last : ServerView D) → Type 0
  ServesTill None left input old new first last =
      IsAtEnd left × ServesEach state first (lines_of input) last old new
  ServesTill (Some ReadFault) left input old new first last =
      ServesEach state first (whole_lines input) last old new
  ServesTill (Some WriteFault) left input old new first last =
      (count : ℕ) × (ServesSome state first (whole_lines input) count last old new
      ⊎ (IsAtEnd left × ServesSome state first (lines_of input) count last old new))
  ServesTill (Some refusal) left input old new first last = ⊥

  -- No server was opened, and there is Nothing; or one was, and there is P as above.
  pub data OpensFor (ending : Option Refusal) (Nothing : Type 0)
      (P : ServerView D → ServerView D → Type 0) (start : State) : Type 0 where
    unopened : (refusal : Refusal) → ending ≡ Some refusal
        → IsUnopened refusal start (state disk) → Nothing → OpensFor ending Nothing P start
    opened : OpensTo start P → OpensFor ending Nothing P start

  -- nothing was read or printed, or an input was served
  abbrev pub Serves : Option Refusal → (unread left old new : Option (List ℕ)) → (start : State)
      → Type 0
  Serves ending unread left old new = OpensFor ending (Keeps unread left × Keeps old new)
      (λ first last. (input : List ℕ) × TakesInput MAX_READS unread left input
      × ServesTill ending left input old new first last)
