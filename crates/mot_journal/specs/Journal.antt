-- What a journal keeps in memory, and what images have of it.
use Rattle.std.specs.Prelude.{◌≡◌, ◌⊎◌, ℕ, ◌-◌, Bool, false, List, [], ◌∷◌, ◌++◌, length, Some}
use Rattle.std.specs.Prelude.{Result, Ok, Err, OnOk, IsOk, IsFalse}
use Rattle.disk_model.specs.Disk.{State, Throughout, Rises}
use Rattle.mot_journal.specs.declared.layout.Layout.{Layout}
use Rattle.mot_journal.specs.declared.record.Record.{Record}
use Rattle.mot_journal.specs.Geometry.{has_magic, geometry_of, selected_half}
use Rattle.mot_journal.specs.Slot.{layout_of}
use Rattle.mot_journal.specs.Image.{catalogue_of, DiskRecords, Standing, records_of, stands_for}
use Rattle.mot_journal.specs.Image.{half_of, area_of, rest_of, IsClean, IsInLayoutTwo}
use Rattle.mot_journal.specs.Image.{IsSecondHalfEmpty}
use Rattle.mot_numbers.specs.declared.refusal.Refusal.{Refusal}
use Rattle.mot_numbers.specs.declared.refusal.Refusal.TheVariants.{OutOfMemory, DeviceFault}
use Rattle.mot_numbers.specs.declared.refusal.Refusal.TheVariants.{NotFormatted, Damaged}
use Rattle.mot_numbers.specs.declared.geometry.Geometry.{Geometry}
use Rattle.mot_objects.specs.Carousel.{new_carousel}

pub record JournalView : Type 0 where
  pub geometry : Geometry
  -- the half that is selected, its layout, and how many of its gates are open
  pub half : ℕ
  pub layout : Layout
  pub count : ℕ
  -- a device fault has come in a call that writes
  pub spent : Bool

abbrev pub with_records : JournalView → List Record → DiskRecords
with_records j records =
    record { geometry = j.geometry; half = j.half; layout = j.layout; records = records }

-- the same, in the other half
abbrev pub in_other_half : JournalView → Layout → List Record → JournalView
in_other_half j layout records =
    record j { half = 1 - j.half; layout = layout; count = length records }

-- the image is clean, and has these records where the journal stands
pub record HasRecords (j : JournalView) (records : List Record) (image : List ℕ) : Type 0 where
  pub read : records_of image ≡ Ok (with_records j records)
  pub clean : IsClean image

-- the disk is honest, and each image now has these records
pub record HoldsRecords (j : JournalView) (records : List Record) (state : State) : Type 0 where
  pub going : IsFalse j.spent
  pub count : j.count ≡ length records
  pub honest : state.IsHonest
  pub each : (image : List ℕ) → state.MayLeave image → HasRecords j records image

-- the records make no fault of the list
abbrev pub FoldOf : JournalView → List Record → Type 0
FoldOf j records = IsOk (catalogue_of j.geometry.objects records)

-- from the data area on, the image is one that a crash at the start may leave
abbrev pub HasAreaOf : Geometry → State → List ℕ → Type 0
HasAreaOf g start image = (d : List ℕ) × start.MayLeave d × (area_of g image ≡ area_of g d)

abbrev pub HasOldArea : JournalView → State → List ℕ → Type 0
HasOldArea j start image = HasAreaOf j.geometry start image

-- the data area is the one that the disk read at the start
abbrev pub HasReadArea : JournalView → State → List ℕ → Type 0
HasReadArea j start image = area_of j.geometry image ≡ area_of j.geometry start.bytes

-- The records, and an old data area; or also the new one, and the data area that was read at the
-- start.
abbrev pub WithoutOrWith : JournalView → List Record → Record → State → List ℕ → Type 0
WithoutOrWith j records r start image =
    (HasRecords j records image × HasOldArea j start image)
    ⊎ (HasRecords j (records ++ r ∷ []) image × HasReadArea j start image)

-- The old records, or the given ones in the other half; the data area stays.
abbrev pub OldOrGiven : JournalView → Layout → List Record → List Record → State → List ℕ → Type 0
OldOrGiven j layout records given start image =
    (HasRecords j records image ⊎ HasRecords (in_other_half j layout given) given image)
    × HasOldArea j start image

-- each image now has the data area that the disk read at the start
abbrev pub OnlyReadArea : JournalView → State → State → Type 0
OnlyReadArea j start now = (image : List ℕ) → now.MayLeave image → HasReadArea j start image

-- A journal was rewritten, with these records, into its other half, in this layout: at each moment
-- a crash leaves the old records or the given ones, and on success the given ones alone.
pub record RewritesTo {T E : Type 0} (layout : Layout) (given : List Record) (j j' : JournalView)
    (old new : State) (result : Result T E) : Type 0 where
  pub moves : OnOk result (j' ≡ in_other_half j layout given)
  pub any_moment : (records : List Record) → HoldsRecords j records old → FoldOf j given
      → Throughout old new (OldOrGiven j layout records given old)
  pub ok : (records : List Record) → HoldsRecords j records old → FoldOf j given
      → OnOk result (HoldsRecords j' given new)
  pub area : (records : List Record) → HoldsRecords j records old → FoldOf j given
      → OnOk result (OnlyReadArea j old new)

-- the journal stands where these bytes have their records
pub record StandsWhere (j : JournalView) (bytes : List ℕ) : Type 0 where
  pub geometry : geometry_of bytes ≡ Some j.geometry
  pub half : selected_half bytes ≡ j.half
  pub layout : layout_of (half_of j.geometry bytes) ≡ j.layout

-- A new disk of this geometry: its carousel has no object, and its directory has this transport id,
-- which was taken last. These bytes come after its data area.
abbrev pub standing_from : Geometry → ℕ → (rest : List ℕ) → Standing
standing_from g directory rest =
    let first = record new_carousel { directory = directory; cursor = directory } in
    record { geometry = g; carousel = first; extents = []; rest = rest }

-- the image is that, clean and in layout 2, and its other half is empty
pub record IsNewDisk (g : Geometry) (directory : ℕ) (image : List ℕ) : Type 0 where
  pub stands : stands_for image ≡ Ok (standing_from g directory (rest_of g image))
  pub clean : IsClean image
  pub layout : IsInLayoutTwo image
  pub other : IsSecondHalfEmpty g image

-- no magic, or a new disk
abbrev pub NoneOrFrom : Geometry → ℕ → List ℕ → Type 0
NoneOrFrom g directory image = (has_magic image ≡ false) ⊎ IsNewDisk g directory image

-- Why what is read of a disk's bytes is not had. If the disk is honest afterwards, `NotFormatted`
-- and `Damaged` are told where its bytes read so, with the slot.
pub data IsReadingRefusal {T : Type 0} (read : List ℕ → Result T Refusal) (old new : State)
    (refusal : Refusal) : Type 0 where
  not_formatted : refusal ≡ NotFormatted → (new.IsHonest → read old.bytes ≡ Err refusal)
      → IsReadingRefusal read old new refusal
  damaged : (slot : ℕ) → refusal ≡ Damaged slot → (new.IsHonest → read old.bytes ≡ Err refusal)
      → IsReadingRefusal read old new refusal
  no_memory : refusal ≡ OutOfMemory → IsReadingRefusal read old new refusal
  device : refusal ≡ DeviceFault → Rises old.failures new.failures
      → IsReadingRefusal read old new refusal

-- why its records are not loaded
abbrev pub IsLoadRefusal : State → State → Refusal → Type 0
IsLoadRefusal old new refusal = IsReadingRefusal records_of old new refusal
