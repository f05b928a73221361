-- What the code that reads a slot says of its parts, and of a slot that breaks the format.
use Rattle.std.specs.Prelude.{◌≡◌, ℕ, List, take, drop, Option, Some, None}
use Rattle.mot_journal.specs.Faults.{HasFieldFault}
use Rattle.mot_journal.specs.Geometry.{number_at}
use Rattle.mot_journal.specs.Inner.Reading.{name_from, mime_from}
use Rattle.mot_journal.specs.Slot.{longest_name}
use Rattle.mot_journal.specs.declared.decoding.SlotFault.{SlotFault}
use Rattle.mot_journal.specs.declared.decoding.SlotFault.TheVariants.{OutOfMemory, Field}
use Rattle.mot_journal.specs.declared.layout.Layout.{Layout}
use Rattle.mot_numbers.specs.declared.geometry.Geometry.{Geometry}

-- want of memory, or nothing is read of the slot, and it has the fault
abbrev pub BreaksSlot : {A : Type 0} → Option A → Geometry → Layout → List ℕ → SlotFault → Type 0
BreaksSlot read g layout slot OutOfMemory = Unit {0}
BreaksSlot read g layout slot (Field fault) = (read ≡ None) × HasFieldFault g layout slot fault

-- the slot sets an object of these texts, which keep their rules
pub record HasTexts (layout : Layout) (slot : List ℕ) (texts : List ℕ × Option (List ℕ))
    : Type 0 where
  pub name : name_from (longest_name layout) (take (number_at 23 1 slot) (drop 24 slot))
      ≡ Some texts.0
  pub mime : mime_from (drop (number_at 23 1 slot) (drop 24 slot)) ≡ Some texts.1
