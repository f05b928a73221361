-- What a crash leaves during the steps of a call that writes.
use Rattle.std.specs.Prelude.{◌≡◌, ◌⊎◌, ℕ, ◌+◌, ◌*◌, ◌<◌, ◌≤◌, List, length, take, drop, replicate}
use Rattle.std.specs.Prelude.{slice_range, slice_get, Option, Some, None, Result, IsErr, Bool, not}
use Rattle.std.specs.Prelude.{◌&&◌, if◌then◌else◌, [], ◌∷◌, ◌^◌}
use Rattle.disk_model.specs.Disk.{State, AgreeOutside, Torn, Throughout, Rises, most_failures}
use Rattle.mot_journal.specs.declared.layout.Layout.{Layout}
use Rattle.mot_journal.specs.declared.record.Record.{Record}
use Rattle.mot_journal.specs.Image.{slots_in}
use Rattle.mot_journal.specs.Slot.{slot_size, slot_count, bytes_of_slot, read_slot, is_open}
use Rattle.mot_numbers.specs.declared.geometry.Geometry.{Geometry}
use Rattle.mot_numbers.specs.Geometry.{half_start, half_size}
use Rattle.mot_journal.specs.Journal.{JournalView}
use Rattle.mot_journal.specs.declared.record.Action.{Action}
use Rattle.mot_journal.specs.declared.record.Action.TheVariants.{Nothing, Set, Remove}

-- these bytes with this slot in them, but for its first byte, which may be any
pub record IsBehindGate (at : ℕ) (slot bytes image : List ℕ) : Type 0 where
  pub agree : AgreeOutside at (length slot) bytes image
  pub rest : slice_range image (at + 1) (at + 1 + length (drop 1 slot)) ≡ drop 1 slot

-- these bytes with this slot in them
pub record IsWritten (at : ℕ) (slot bytes image : List ℕ) : Type 0 where
  pub agree : AgreeOutside at (length slot) bytes image
  pub slot_is : slice_range image at (at + length slot) ≡ slot

-- An image from before, torn behind the slot's gate; or what was read with this slot in it, and any
-- gate.
abbrev pub IsGated : ℕ → List ℕ → State → List ℕ → Type 0
IsGated at slot old image =
    Torn (at + 1) (length (drop 1 slot)) old image ⊎ IsBehindGate at slot old.bytes image

-- each image now is what was read before with this slot in it
abbrev pub LeavesWritten : ℕ → List ℕ → State → State → Type 0
LeavesWritten at slot old new = (image : List ℕ) → new.MayLeave image
    → IsWritten at slot old.bytes image

-- for a run of any number of calls: an error has a cause, and where none came no count rose
pub record HasCauseOf {T E : Type 0} (old new : State) (result : Result T E) : Type 0 where
  pub later : old.failures ≤ new.failures
  pub fits : IsErr result → new.failures ≤ most_failures
  pub cause : IsErr result → Rises old.failures new.failures
  pub shown : old.failures < new.failures → IsErr result

-- at each moment only this range is changed
pub record ChangesWithin (at n : ℕ) (old new : State) : Type 0 where
  pub bytes : AgreeOutside at n old.bytes new.bytes
  pub time : Throughout old new (Torn at n old)

-- at each moment an image from the start, or what was read then with any bytes in this range
pub record Publishes (at n : ℕ) (old new : State) : Type 0 where
  pub time : Throughout old new (λ image. old.MayLeave image ⊎ AgreeOutside at n old.bytes image)

-- the slot of this record, or zeros
abbrev pub slot_from : Layout → Option Record → List ℕ
slot_from layout (Some r) = bytes_of_slot layout r
slot_from layout None = replicate (slot_size layout) 0

-- the slot of this record reads as it
abbrev pub IsReadable : Geometry → Layout → Option Record → Type 0
IsReadable g layout (Some r) = read_slot g layout (bytes_of_slot layout r) ≡ Some r
IsReadable g layout None = Unit {0}

-- the first slots of the half, so many, are those of these records, and zeros behind them
abbrev pub HasSlots : Geometry → ℕ → Layout → List Record → ℕ → List ℕ → Type 0
HasSlots g half layout given count bytes =
    (i : ℕ) → i < count
    → (take (slot_size layout) (drop (half_start g half + i * slot_size layout) bytes)
    ≡ slot_from layout (slice_get given i)) × IsReadable g layout (slice_get given i)

-- the slots of a half, in this layout
abbrev pub slots_in_half : Geometry → ℕ → Layout → List ℕ → List (List ℕ)
slots_in_half g half layout image =
    slots_in (slot_size layout) (slot_count layout g)
    (take (half_size g) (drop (half_start g half) image))

-- Where a slot lies.

-- where a slot of the journal's half lies
abbrev pub start_of_slot : JournalView → ℕ → ℕ
start_of_slot j slot = half_start j.geometry j.half + slot * slot_size j.layout

-- The gates of slots, one after the other.

-- Whether the last of these gates is closed, or the one before them where there are none; none
-- where one is open behind a closed one.
abbrev pub scan : Bool → List (List ℕ) → Option Bool
scan shut [] = Some shut
scan shut (slot ∷ slots) =
    if is_open slot && shut then None else scan (not (is_open slot)) slots

-- Which records fit their columns.

-- the numbers of an action fit their columns
abbrev pub FitsAction : Action → Type 0
FitsAction Nothing = Unit {0}
FitsAction (Remove tid) = tid < 2 ^ 16
FitsAction (Set tid version content start size name mime) = (tid < 2 ^ 16) × (version < 256)
    × (start < 2 ^ 32)

-- The numbers of a record fit their columns. Those of each record of the program do.
pub record FitsSlot (r : Record) : Type 0 where
  pub period : r.period < 2 ^ 24
  pub directory : r.directory < 2 ^ 16
  pub cursor : r.cursor < 2 ^ 16
  pub action : FitsAction r.action
