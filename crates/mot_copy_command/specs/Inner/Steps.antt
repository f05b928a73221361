-- What the steps of making a copy leave.
use Rattle.std.specs.Prelude.{◌≡◌, ◌⊎◌, ℕ, List, false, Ok, take, Bool, Option, map, sum_by}
use Rattle.disk_model.specs.Disk.{State, AgreeOutside, Torn, Throughout, Rises}
use Rattle.mot_copy_command.specs.declared.copying.NotCopied.{NotCopied}
use Rattle.mot_copy_command.specs.declared.copying.NotCopied.TheVariants.{Refused, Unreadable}
use Rattle.mot_journal.specs.declared.layout.Layout.TheVariants.{Two}
use Rattle.mot_journal.specs.declared.record.Record.{Record}
use Rattle.mot_journal.specs.Geometry.{has_magic}
use Rattle.mot_journal.specs.Image.{records_of, area_of, IsClean, IsSecondHalfEmpty}
use Rattle.mot_numbers.specs.declared.geometry.Geometry.{Geometry}
use Rattle.mot_numbers.specs.declared.refusal.Refusal.TheVariants.{DeviceFault}
use Rattle.mot_objects.specs.declared.carousel.Carousel.{Carousel}
use Rattle.mot_objects.specs.declared.object.Object.{Object}
use Rattle.mot_repository.specs.Copy.{copied_ids}

-- at each moment only this range is changed
pub record ChangesOnly (at n : ℕ) (old new : State) : Type 0 where
  pub bytes : AgreeOutside at n old.bytes new.bytes
  pub time : Throughout old new (Torn at n old)

-- which disk failed
pub data IsFault (failed failed' before now : ℕ) (why : NotCopied) : Type 0 where
  unreadable : why ≡ Unreadable → Rises failed failed' → IsFault failed failed' before now why
  device : why ≡ Refused DeviceFault → Rises before now → IsFault failed failed' before now why

-- a disk that was made with these records, whose data area begins with these bytes
pub record IsFilled (g : Geometry) (records : List Record) (n : ℕ) (row image : List ℕ)
    : Type 0 where
  pub read : records_of image
      ≡ Ok (record { geometry = g; half = 0; layout = Two; records = records })
  pub clean : IsClean image
  pub other : IsSecondHalfEmpty g image
  pub bodies : take n (area_of g image) ≡ row

-- no magic, or that
abbrev pub NoneOrFilled : Geometry → List Record → ℕ → List ℕ → List ℕ → Type 0
NoneOrFilled g records n row image =
    (has_magic image ≡ false) ⊎ IsFilled g records n row image

-- What the records of a copy are made of.

-- how many bytes the bodies of these objects have
abbrev pub bytes_of_bodies : List Object → ℕ
bytes_of_bodies objects = sum_by (λ (o : Object). o.length) objects

-- the ids of a copy of the carousel: its objects', and its directory's
abbrev pub ids_of : Carousel → Option ℕ → Bool → List ℕ × ℕ
ids_of c after resized =
    copied_ids after resized c.directory c.cursor (map (λ (o : Object). o.tid) c.objects.items)
