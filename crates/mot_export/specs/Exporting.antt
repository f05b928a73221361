-- A carousel printed as the lines that rebuild it.
use Rattle.std.specs.Prelude.{◌≡◌, ◌⊎◌, ℕ, ◌≤◌, List, length, Option, Some, None, IsSomeAnd}
use Rattle.std.specs.Io.KnownBytes.{Appends, Keeps}
use Rattle.disk_model.specs.Disk.{State, OnlySyncs, Rises}
use Rattle.mot_lines.specs.Export.{AsksForJust, export_text}
use Rattle.mot_numbers.specs.declared.refusal.Refusal.{Refusal}
use Rattle.mot_numbers.specs.declared.refusal.Refusal.TheVariants.{DeviceFault, WriteFault}
use Rattle.mot_objects.specs.Carousel.{Carousel}
use Rattle.mot_objects.specs.declared.command.Command.{Command}
use Rattle.mot_update.specs.Opening.{IsOpenable, IsUnopened, OfStanding}
use Rattle.mot_session.specs.Served.{WritesFront}
use Rattle.mot_update.specs.Export.{IsEmpty, Rebuilds}

-- Each line of the text is a command, and these make of the first carousel, with room for so many
-- objects, what this one is.
abbrev pub RebuildsByLines : Carousel → ℕ → List ℕ → Carousel → Type 0
RebuildsByLines first limit text c =
    (commands : List Command) × AsksForJust text commands × Rebuilds first limit commands c

-- In these the disk was in a state start and is in a state now, the writer's known bytes were old
-- and are new, and this refusal ended the printing, or none did.

-- Where the disk stood for something, all of its lines were printed; or else some first
-- bytes of them, since the writer or the disk failed. A fault of the disk is told where it has
-- failed, and nowhere else.
abbrev pub PrintsLines : Option Refusal → (old new : Option (List ℕ)) → (start now : State) → Type 0
PrintsLines None old new start now = (now.failures ≡ start.failures)
    × OfStanding (λ s. Appends old new (export_text s.carousel)) start now
PrintsLines (Some WriteFault) old new start now = (now.failures ≡ start.failures)
    × OfStanding (λ s. WritesFront (export_text s.carousel) old new) start now
PrintsLines (Some DeviceFault) old new start now = Rises start.failures now.failures
    × OfStanding (λ s. WritesFront (export_text s.carousel) old new) start now
PrintsLines (Some refusal) old new start now = ⊥

-- The disk was only synced. It was not opened, and nothing was printed; or it was, and its lines
-- were. These rebuild what it stood for of every empty carousel with room for as many objects.
pub record Exports (ending : Option Refusal) (old new : Option (List ℕ)) (start now : State) :
    Type 0 where
  pub syncs : OnlySyncs start now
  pub came : (IsSomeAnd ending (λ r. IsUnopened r start now) × Keeps old new)
      ⊎ (IsOpenable start now × PrintsLines ending old new start now)
  pub rebuilds : OfStanding (λ s. (first : Carousel) (limit : ℕ) → IsEmpty first
      → length s.carousel.objects ≤ limit
      → RebuildsByLines first limit (export_text s.carousel) s.carousel) start now
