-- What commands leave of a disk that was opened for them, and how they end.
use Rattle.std.specs.Prelude.{◌≡◌, ◌⊎◌, ℕ, List, [], ◌++◌, Bool, Option, Some, None, IsSomeAnd}
use Rattle.disk_model.specs.Disk.{KeepsLength, State, Throughout, Rises}
use Rattle.mot_update.specs.Opening.{IsOpenable, IsUnopened, OfClean}
use Rattle.mot_journal.specs.Image.{Standing}
use Rattle.mot_numbers.specs.declared.refusal.Refusal.{Refusal}
use Rattle.mot_numbers.specs.declared.refusal.Refusal.TheVariants.{DeviceFault, OutOfMemory}
use Rattle.mot_numbers.specs.declared.refusal.Refusal.TheVariants.{WriteFault}
use Rattle.mot_objects.specs.declared.command.Command.{Command}
use Rattle.mot_playout.specs.Runs.{StandsAfterSome, accepted_commands, commands_in_flight}

-- In these the disk was in a state start and is in a state now; and this refusal ended what was
-- done, or, with none, it came to its end.

-- How a command on an open server ended: memory was wanted, the disk failed, or what it writes to
-- did. A device fault is told where the disk has failed, and nowhere else.
pub data IsEnd (ending : Option Refusal) (start now : State) : Type 0 where
  whole : ending ≡ None → now.failures ≡ start.failures → IsEnd ending start now
  no_memory : ending ≡ Some OutOfMemory → now.failures ≡ start.failures → IsEnd ending start now
  device : ending ≡ Some DeviceFault → Rises start.failures now.failures → IsEnd ending start now
  unwritten : ending ≡ Some WriteFault → now.failures ≡ start.failures → IsEnd ending start now

-- The disk is as long as it was. It was not opened, and there is Nothing; or its bytes stood for
-- something, if it was honest to the end, and there is P of what it stood for, clean.
pub record EndsBy (ending : Option Refusal) (Nothing : Type 0) (P : Standing → Type 0)
    (start now : State) : Type 0 where
  pub keeps : KeepsLength start now
  pub came : (IsSomeAnd ending (λ r. IsUnopened r start now) × Nothing)
      ⊎ (IsOpenable start now × IsEnd ending start now × OfClean P start now)

-- What commands leave of a disk that stood for s, each answered with its mark up to a fault: at
-- each moment a crash leaves what a beginning of the accepted ones makes of it, or all of them and
-- the one in flight; and now what all of them make of it, and at most the one in flight besides.
pub record Leaves (s : Standing) (commands : List Command) (marks : List Bool)
    (fault : Option Refusal) (start now : State) : Type 0 where
  pub any_moment : Throughout start now (StandsAfterSome s []
      (accepted_commands commands marks ++ commands_in_flight commands marks fault))
  pub at_end : (image : List ℕ) → now.MayLeave image
      → StandsAfterSome s (accepted_commands commands marks)
      (commands_in_flight commands marks fault) image
