-- What making a new disk does.
use Rattle.std.specs.Prelude.{◌≡◌, ◌⊎◌, ◌↔◌, ◌+◌, ◌*◌, ◌<◌, ℕ, List, true, false, Result}
use Rattle.std.specs.Prelude.{MatchResult, OnOk, IfErr, IsErrOf, Ok, IsOk}
use Rattle.disk_model.specs.Disk.{State, Costs, IsFirm, IsStill, IsUnchanged, KeepsLength}
use Rattle.disk_model.specs.Disk.{Throughout, Rises}
use Rattle.mot_journal.specs.declared.layout.Layout.TheVariants.{Two}
use Rattle.mot_journal.specs.Geometry.{has_magic}
use Rattle.mot_journal.specs.Journal.{HasAreaOf, IsNewDisk, NoneOrFrom}
use Rattle.mot_journal.specs.Slot.{slot_count}
use Rattle.mot_numbers.specs.Geometry.{IsValid, length_of}
use Rattle.mot_numbers.specs.Refusal.{IsCalm}
use Rattle.mot_numbers.specs.declared.geometry.Geometry.{Geometry}
use Rattle.mot_numbers.specs.declared.refusal.Refusal.{Refusal}
use Rattle.mot_numbers.specs.declared.refusal.Refusal.TheVariants.{AlreadyFormatted, BadGeometry}
use Rattle.mot_numbers.specs.declared.refusal.Refusal.TheVariants.{DeviceFault, DiskTooSmall}
use Rattle.mot_journal.specs.declared.record.Record.{Record}
use Rattle.mot_journal.specs.Image.{records_of, catalogue_of, area_of, IsClean, IsSecondHalfEmpty}

-- why none was made
pub data IsFormatRefusal (g : Geometry) (old new : State) (refusal : Refusal) : Type 0 where
  bad : refusal ≡ BadGeometry → (IsValid g → ⊥) → IsFormatRefusal g old new refusal
  small : refusal ≡ DiskTooSmall → old.len < length_of g → IsFormatRefusal g old new refusal
  already : refusal ≡ AlreadyFormatted → (new.IsHonest → has_magic old.bytes ≡ true)
      → IsFormatRefusal g old new refusal
  device : refusal ≡ DeviceFault → Rises old.failures new.failures
      → IsFormatRefusal g old new refusal

-- A new disk of this geometry, whose directory has this transport id, was made of one that has not
-- the magic; or it was refused.
pub record MakesDisk (g : Geometry) (directory : ℕ) (old new : State)
    (result : Result Unit Refusal) : Type 0 where
  pub keeps : KeepsLength old new
  pub bad : IsErrOf result BadGeometry ↔ (IsValid g → ⊥)
  pub small : IsErrOf result DiskTooSmall ↔ (IsValid g × (old.len < length_of g))
  pub refused : IfErr result (λ refusal. IsFormatRefusal g old new refusal)
  pub calm : MatchResult result (λ done. new.failures ≡ old.failures)
      (λ refusal. IsCalm refusal old.failures new.failures)
  -- a sync and a read of the magic, the bytes after it, two halves, and the magic between syncs
  pub cost : Costs (2 * slot_count Two g + 6) old new result
  pub untouched : (IsValid g → ⊥) ⊎ (old.len < length_of g) → IsUnchanged old new
  -- if the disk reads the magic, it is synced at most
  pub already : new.IsHonest → has_magic old.bytes ≡ true → IsStill old new
  pub synced : new.IsHonest → IsErrOf result AlreadyFormatted → IsFirm new
  pub not_over : new.IsHonest → OnOk result (has_magic old.bytes ≡ false)
  -- at each moment a crash leaves no magic, or the new disk
  pub any_moment : new.IsHonest
      → ((image : List ℕ) → old.MayLeave image → has_magic image ≡ false)
      → Throughout old new (NoneOrFrom g directory)
  pub ok : new.IsHonest → OnOk result ((image : List ℕ) → new.MayLeave image
      → IsNewDisk g directory image)
  -- the data area and all bytes after it stay
  pub area : new.IsHonest → Throughout old new (HasAreaOf g old)

-- What a disk has that was made with records.

-- The image is clean, and has these records in half 0, in layout 2. Its other half is empty, and
-- these are its bytes from the data area on.
pub record IsMade (g : Geometry) (given : List Record) (tail image : List ℕ) : Type 0 where
  pub read : records_of image
      ≡ Ok (record { geometry = g; half = 0; layout = Two; records = given })
  pub clean : IsClean image
  pub other : IsSecondHalfEmpty g image
  pub area : area_of g image ≡ tail

-- no magic, or that
abbrev pub NoneOrMade : Geometry → List Record → List ℕ → List ℕ → Type 0
NoneOrMade g given tail image = (has_magic image ≡ false) ⊎ IsMade g given tail image

-- A disk was made with these records, which make no fault of the list. At each moment a crash
-- leaves no magic, or the disk that is made, over the data area that was read before; on success it
-- leaves that disk alone. The data area stays.
pub record MakesWith {T E : Type 0} (g : Geometry) (given : List Record) (old new : State)
    (result : Result T E) : Type 0 where
  pub any_moment : IsOk (catalogue_of g.objects given)
      → ((image : List ℕ) → old.MayLeave image → has_magic image ≡ false)
      → Throughout old new (NoneOrMade g given (area_of g old.bytes))
  pub ok : IsOk (catalogue_of g.objects given) → OnOk result ((image : List ℕ)
      → new.MayLeave image → IsMade g given (area_of g old.bytes) image)
  pub area : Throughout old new (HasAreaOf g old)
