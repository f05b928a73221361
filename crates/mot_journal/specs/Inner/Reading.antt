-- The parts of a slot's reading, as the code reads them.
use Rattle.std.specs.Prelude.{ℕ, ◌-◌, true, if◌then◌else◌, List, take, drop, Option, Some, None}
use Rattle.std.specs.Prelude.{◌≡◌, Ok, Err}
use Rattle.std.specs.Option.{option_map_or}
use Rattle.mot_journal.specs.declared.layout.Layout.{Layout}
use Rattle.mot_journal.specs.declared.record.Action.{Action}
use Rattle.mot_journal.specs.declared.record.Action.TheVariants.{Set}
use Rattle.mot_journal.specs.Slot.{kind_base, action_in, short_text_in, is_sound_action, layout_of}
use Rattle.mot_journal.specs.Geometry.{number_at, geometry_of}
use Rattle.mot_numbers.specs.Reading.{◌>>=◌}
use Rattle.mot_numbers.specs.declared.geometry.Geometry.{Geometry}
use Rattle.mot_objects.specs.Name.{ContentNumbers, is_mime, is_name}
use Rattle.mot_journal.specs.Faults.{HasFieldFault, HasHeadFault, IsOutOfRange, number_of}
use Rattle.mot_journal.specs.Reason.{slot_of}
use Rattle.mot_journal.specs.declared.reason.HeadFault.{HeadFault}
use Rattle.mot_journal.specs.declared.reason.HeadFault.TheVariants.{OutOfRange}
use Rattle.mot_journal.specs.declared.reason.Reason.{Reason}
use Rattle.mot_journal.specs.declared.reason.Reason.TheVariants.{Field}
use Rattle.mot_journal.specs.declared.record.Record.{Record}
use Rattle.mot_journal.specs.Image.{journal_in_half}
use Rattle.mot_numbers.specs.declared.refusal.Refusal.{Refusal}
use Rattle.mot_numbers.specs.declared.refusal.Refusal.TheVariants.{OutOfMemory, Damaged}

abbrev pub content_at : List ℕ → ContentNumbers
content_at slot = record { content_type = number_at 12 1 slot; subtype = number_at 13 2 slot }

-- an action, if no field of it is out of its range
abbrev pub if_sound : Geometry → Layout → Action → Option Action
if_sound g layout a = if is_sound_action g layout a then Some a else None

-- the action of a slot that sets an object
abbrev pub set_in_slot : List ℕ → Action
set_in_slot slot =
    Set (number_at 9 2 slot) (number_at 11 1 slot) (content_at slot) (number_at 15 4 slot)
    (number_at 19 4 slot) (take (number_at 23 1 slot) (drop 24 slot))
    (short_text_in (drop (number_at 23 1 slot) (drop 24 slot)))

-- the action of a slot; none for another kind
abbrev pub action_in_slot : Layout → List ℕ → Option Action
action_in_slot layout slot =
    action_in (number_at 1 1 slot - kind_base layout) (number_at 9 2 slot) (number_at 11 1 slot)
    (content_at slot) (number_at 15 4 slot) (number_at 19 4 slot) (number_at 23 1 slot)
    (drop 24 slot)

-- the action of a slot; none for another kind, or where a field of it is out of its range
unfoldable pub sound_action_of : Geometry → Layout → List ℕ → Option Action
sound_action_of g layout slot = do
  a ← action_in_slot layout slot
  if_sound g layout a

-- a name, if it keeps its rule
abbrev pub name_from : ℕ → List ℕ → Option (List ℕ)
name_from longest bytes = if is_name longest bytes then Some bytes else None

-- the MIME type at the head of these bytes, if it keeps its rule
unfoldable pub mime_from : List ℕ → Option (Option (List ℕ))
mime_from bytes = if option_map_or is_mime (short_text_in bytes) true then
    Some (short_text_in bytes) else None

-- What the code that loads a half says of it.

-- the half has these records, whichever of the two it is
abbrev pub HalfHas : Geometry → Layout → List ℕ → List Record → Type 0
HalfHas g layout bytes records =
    (half : ℕ) → journal_in_half g half bytes ≡
    Ok (record { geometry = g; half = half; layout = layout; records = records })

-- want of memory, or the first slot with a fault of fields
pub data IsHalfRefusal (g : Geometry) (bytes : List ℕ) (refusal : Refusal) : Type 0 where
  no_memory : refusal ≡ OutOfMemory → IsHalfRefusal g bytes refusal
  damaged : (slot : ℕ) → refusal ≡ Damaged slot
      → ((half : ℕ) → journal_in_half g half bytes ≡ Err refusal) → IsHalfRefusal g bytes refusal

-- no geometry, and the fault is the head's
abbrev pub IsNoHead : List ℕ → HeadFault → Type 0
IsNoHead image fault = (geometry_of image ≡ None) × HasHeadFault image fault

-- the number of this geometry is out of its range
abbrev pub HasRangeFault : Geometry → HeadFault → Type 0
HasRangeFault g (OutOfRange size number) =
    (number ≡ number_of size g) × IsOutOfRange size number
HasRangeFault g _ = ⊥

-- a slot of the half has the fault
abbrev pub IsSlotReason : Geometry → List ℕ → Reason → Type 0
IsSlotReason g half (Field number fault) =
    HasFieldFault g (layout_of half) (slot_of half number) fault
IsSlotReason g half _ = ⊥
