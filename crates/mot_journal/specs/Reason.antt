-- What a reason says of the bytes of a disk.
use Rattle.std.specs.Prelude.{◌≡◌, ◌⊎◌, ℕ, ◌*◌, ◌<◌, List, ◌∷◌, ◌++◌, length, take, drop}
use Rattle.std.specs.Prelude.{Option, Some, None, Ok}
use Rattle.mot_journal.specs.Catalogue.{Catalogue}
use Rattle.mot_journal.specs.Faults.{HasHeadFault, HasFieldFault, HasListFault}
use Rattle.mot_journal.specs.Geometry.{geometry_of}
use Rattle.mot_journal.specs.Image.{DiskRecords, catalogue_of, half_of, records_of}
use Rattle.mot_journal.specs.Slot.{layout_of, slot_size}
use Rattle.mot_journal.specs.declared.reason.FieldFault.{FieldFault}
use Rattle.mot_journal.specs.declared.reason.ListFault.{ListFault}
use Rattle.mot_journal.specs.declared.reason.Reason.{Reason}
use Rattle.mot_journal.specs.declared.reason.Reason.TheVariants.{Head, Field, List as InList}
use Rattle.mot_journal.specs.declared.reason.Reason.TheVariants.{Formatted, Small}
use Rattle.mot_journal.specs.declared.record.Record.{Record}
use Rattle.mot_numbers.specs.Geometry.{length_of}
use Rattle.mot_numbers.specs.declared.geometry.Geometry.{Geometry}
use Rattle.mot_numbers.specs.declared.refusal.Refusal.{Refusal}
use Rattle.mot_numbers.specs.declared.refusal.Refusal.TheVariants.{AlreadyFormatted, DiskTooSmall}
use Rattle.mot_numbers.specs.declared.refusal.Refusal.TheVariants.{NotFormatted, Damaged}
use Rattle.mot_numbers.specs.declared.refusal.Refusal.TheVariants.{OutOfMemory, DeviceFault}

-- the refusal that a reason is the reason of
abbrev pub refusal_of : Reason → Refusal
refusal_of (Head fault) = NotFormatted
refusal_of (Field slot fault) = Damaged slot
refusal_of (InList slot fault) = Damaged slot
refusal_of Formatted = AlreadyFormatted
refusal_of (Small has asked) = DiskTooSmall

-- the slot of this number in a half
abbrev pub slot_of : List ℕ → ℕ → List ℕ
slot_of half number =
    let size = slot_size (layout_of half) in take size (drop (number * size) half)

-- the slot of this number has the fault, in the half that the image selects
pub record BreaksField (image : List ℕ) (number : ℕ) (fault : FieldFault) : Type 0 where
  pub geometry : Geometry
  pub is : geometry_of image ≡ Some geometry
  pub has : let half = half_of geometry image in
      HasFieldFault geometry (layout_of half) (slot_of half number) fault

-- the record of this number makes the fault, after those before it, which make none
pub record BreaksList (limit : ℕ) (records : List Record) (number : ℕ) (fault : ListFault)
    : Type 0 where
  pub front : List Record
  pub last : Record
  pub rest : List Record
  pub is : records ≡ front ++ last ∷ rest
  pub count : length front ≡ number
  pub before : Catalogue
  pub folded : catalogue_of limit front ≡ Ok before
  pub has : HasListFault limit before last fault

-- it is so of an image that stands for nothing
abbrev pub IsReasonOf : List ℕ → Reason → Type 0
IsReasonOf image (Head fault) = HasHeadFault image fault
IsReasonOf image (Field number fault) = BreaksField image number fault
IsReasonOf image (InList number fault) =
    (read : DiskRecords) × (records_of image ≡ Ok read)
    × BreaksList read.geometry.objects read.records number fault
IsReasonOf image _ = ⊥

-- a refusal of a disk has its reason, unless it is not about the bytes of the disk
abbrev pub HasReason : Refusal → Option Reason → Type 0
HasReason refusal None = (refusal ≡ OutOfMemory) ⊎ (refusal ≡ DeviceFault)
HasReason refusal (Some reason) = refusal ≡ refusal_of reason

-- why a disk of so many bytes is not formatted
abbrev pub IsFormattingReason : ℕ → Geometry → Reason → Type 0
IsFormattingReason len g Formatted = Unit {0}
IsFormattingReason len g (Small has asked) =
    (has ≡ len) × (asked ≡ length_of g) × (has < asked)
IsFormattingReason len g _ = ⊥
