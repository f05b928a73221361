-- What an open server is inspected by.
use Rattle.std.specs.Prelude.{ℕ, List, Option, ◌≡◌, ◌⊎◌}
use Rattle.mot_cli.specs.declared.task.Form.{Form}
use Rattle.mot_journal.specs.Image.{Standing}
use Rattle.mot_journal.specs.Journal.{JournalView}
use Rattle.mot_player.specs.Place.{Place, directory_packets}
use Rattle.mot_export.specs.Inspecting.{AreFigures, IsShown}
use Rattle.mot_export.specs.declared.inspection.Inspection.{Inspection}
use Rattle.disk_model.specs.Disk.{Rises}
use Rattle.mot_numbers.specs.declared.refusal.Refusal.{Refusal}
use Rattle.mot_numbers.specs.declared.refusal.Refusal.TheVariants.{DeviceFault, WriteFault}

-- a text tells of a server that plays from this place
pub record IsAbout (rate : Option ℕ) (form : Form) (journal : JournalView) (place : Place)
    (s : Standing) (text : List ℕ) : Type 0 where
  pub told : Inspection
  pub figures : AreFigures rate s journal.layout journal.count (directory_packets place) told
  pub shown : IsShown form told text

-- Why the lines of a carousel could not be printed.

-- the writer failed; or the disk did, whose counts of failures are those before and now
abbrev pub IsPrintingFault : Refusal → (before now : ℕ) → Type 0
IsPrintingFault refusal before now =
    ((refusal ≡ WriteFault) × (now ≡ before)) ⊎ ((refusal ≡ DeviceFault) × Rises before now)
