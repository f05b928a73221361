-- What stands on a disk that is being made.
use Rattle.std.specs.Prelude.{◌≡◌, ℕ, List, [], ◌∷◌, take, drop}
use Rattle.mot_journal.specs.declared.layout.Layout.TheVariants.{Two}
use Rattle.mot_journal.specs.declared.record.Record.{Record}
use Rattle.mot_journal.specs.declared.record.Action.TheVariants.{Nothing}
use Rattle.mot_journal.specs.Slot.{slot_count}
use Rattle.mot_journal.specs.Inner.Steps.{HasSlots}
use Rattle.mot_numbers.specs.declared.geometry.Geometry.{Geometry}
use Rattle.std.specs.Prelude.{◌++◌, replicate}
use Rattle.std.specs.Int.{w16, w32, to_be_bytes}
use Rattle.mot_journal.specs.Geometry.{magic}

-- the 64 bytes before the halves, as they are written
abbrev pub head_bytes : Geometry → ℕ → List ℕ
head_bytes g half =
    magic ++ half ∷ replicate 7 0 ++ to_be_bytes w16 g.objects ++ to_be_bytes w16 g.segment
    ++ to_be_bytes w16 g.address ++ to_be_bytes w16 g.packet ++ to_be_bytes w32 g.area
    ++ replicate 36 0

-- the record of a new disk, whose directory has this transport id
abbrev pub first_record : ℕ → Record
first_record directory =
    record { period = 0; directory = directory; cursor = directory; action = Nothing }

-- the bytes between the magic and the halves
abbrev pub behind_magic : Geometry → List ℕ
behind_magic g = drop 8 (head_bytes g 0)

-- all of a disk with these records but its magic
pub record HasAllButMagic (g : Geometry) (given : List Record) (bytes : List ℕ) : Type 0 where
  pub head : take 56 (drop 8 bytes) ≡ behind_magic g
  pub slots : HasSlots g 0 Two given (slot_count Two g) bytes
  pub other : HasSlots g 1 Two [] (slot_count Two g) bytes
