-- What an image of a disk stands for (own format).
use Rattle.std.specs.Prelude.{◌≡◌, ℕ, zero, suc, ◌+◌, Bool, true, not, List, [], ◌∷◌, length}
use Rattle.std.specs.Prelude.{take, drop, slice_range, replicate, take_while, Option, Some, None}
use Rattle.std.specs.Prelude.{Result, Ok, Err, IsTrue, IsOk}
use Rattle.std.specs.List.{list_all}
use Rattle.std.specs.Int.{div_ceil}
use Rattle.mot_journal.specs.declared.layout.Layout.{Layout}
use Rattle.mot_journal.specs.declared.layout.Layout.TheVariants.{Two}
use Rattle.mot_journal.specs.declared.record.Record.{Record}
use Rattle.mot_journal.specs.Geometry.{geometry_of, selected_half}
use Rattle.mot_journal.specs.Slot.{slot_size, slot_count, is_open, layout_of, read_slot}
use Rattle.mot_journal.specs.Catalogue.{Catalogue, carousel_in, catalogue_after, extents_of}
use Rattle.mot_journal.specs.Catalogue.{new_catalogue}
use Rattle.mot_numbers.specs.Refusal.{◌>>=◌}
use Rattle.mot_numbers.specs.declared.refusal.Refusal.{Refusal}
use Rattle.mot_numbers.specs.declared.refusal.Refusal.TheVariants.{Damaged, NotFormatted}
use Rattle.mot_numbers.specs.declared.geometry.Geometry.{Geometry}
use Rattle.mot_numbers.specs.Geometry.{half_start, half_size, area_start}
use Rattle.mot_objects.specs.Carousel.{Carousel}

-- the records of a disk, and where they stand
pub record DiskRecords : Type 0 where
  pub geometry : Geometry
  pub half : ℕ
  pub layout : Layout
  pub records : List Record

-- what a disk stands for
pub record Standing : Type 0 where
  pub geometry : Geometry
  pub carousel : Carousel
  -- for each object, where in the data area its body begins, and its length
  pub extents : List (ℕ × ℕ)
  -- the bytes after the data area, which are not used
  pub rest : List ℕ

-- the bytes of the half that the selector names
abbrev pub half_of : Geometry → List ℕ → List ℕ
half_of g image = take (half_size g) (drop (half_start g (selected_half image)) image)

abbrev pub slots_in : ℕ → ℕ → List ℕ → List (List ℕ)
slots_in size zero bytes = []
slots_in size (suc n) bytes = take size bytes ∷ slots_in size n (drop size bytes)

-- the slots of a half, in its own layout
abbrev pub slots_of : Geometry → List ℕ → List (List ℕ)
slots_of g half =
    let layout = layout_of half in slots_in (slot_size layout) (slot_count layout g) half

abbrev pub or_damaged : {A : Type 0} → ℕ → Option A → Result A Refusal
or_damaged number None = Err (Damaged number)
or_damaged number (Some x) = Ok x

-- the records of open slots, whose numbers begin with this one, or the first slot with a fault of
-- fields
abbrev pub records_in : (List ℕ → Option Record) → ℕ → List (List ℕ) → Result (List Record) Refusal
records_in read number [] = Ok []
records_in read number (slot ∷ slots) = do
  r ← or_damaged number (read slot)
  records ← records_in read (number + 1) slots
  Ok (r ∷ records)

-- the records up to the first closed gate
abbrev pub journal_in_half : Geometry → ℕ → List ℕ → Result DiskRecords Refusal
journal_in_half g half bytes = do
  let layout = layout_of bytes
  records ← records_in (read_slot g layout) 0 (take_while is_open (slots_of g bytes))
  Ok (record { geometry = g; half = half; layout = layout; records = records })

abbrev pub or_not_formatted : {A : Type 0} → Option A → Result A Refusal
or_not_formatted None = Err NotFormatted
or_not_formatted (Some x) = Ok x

-- the records of an image, or why there are none: `NotFormatted`, or the first slot with a fault of
-- fields
unfoldable pub records_of : List ℕ → Result DiskRecords Refusal
records_of image = do
  g ← or_not_formatted (geometry_of image)
  journal_in_half g (selected_half image) (half_of g image)

-- the catalogue after these records, whose slots begin with this number, or the first slot with a
-- fault of the list
unfoldable pub fold_from : ℕ → ℕ → Catalogue → List Record → Result Catalogue Refusal
fold_from limit number c [] = Ok c
fold_from limit number c (r ∷ records) = do
  next ← or_damaged number (catalogue_after limit c r)
  fold_from limit (number + 1) next records

-- what the records of a disk for so many objects stand for
abbrev pub catalogue_of : ℕ → List Record → Result Catalogue Refusal
catalogue_of limit records = fold_from limit 0 new_catalogue records

-- the data area, and the bytes after it
abbrev pub area_of : Geometry → List ℕ → List ℕ
area_of g image = drop (area_start g) image

abbrev pub rest_of : Geometry → List ℕ → List ℕ
rest_of g image = drop g.area (area_of g image)

-- What an image stands for, or why for nothing. A fault of the list is looked for only where no
-- record has a fault of fields.
unfoldable pub stands_for : List ℕ → Result Standing Refusal
stands_for image = do
  j ← records_of image
  c ← catalogue_of j.geometry.objects j.records
  Ok (record {
    geometry = j.geometry;
    carousel = carousel_in (area_of j.geometry image) c;
    extents = extents_of c;
    rest = rest_of j.geometry image;
  })

-- every gate after the first closed one is closed
abbrev pub are_gates_clean : List (List ℕ) → Bool
are_gates_clean slots =
    list_all (λ slot. not (is_open slot)) (drop (length (take_while is_open slots)) slots)

-- the reads in which the gates of a half are looked at: 4,096 bytes at once
abbrev pub gate_reads : Geometry → ℕ
gate_reads g = div_ceil (half_size g) 4096

abbrev pub has_clean_gates : Option Geometry → List ℕ → Bool
has_clean_gates None image = true
has_clean_gates (Some g) image = are_gates_clean (slots_of g (half_of g image))

-- it stands for a carousel, and no gate is open behind a closed one
pub record IsClean (image : List ℕ) : Type 0 where
  pub stands : IsOk (stands_for image)
  pub gates : IsTrue (has_clean_gates (geometry_of image) image)

-- the records of the image are in layout 2
abbrev pub IsInLayoutTwo : List ℕ → Type 0
IsInLayoutTwo image = (r : DiskRecords) × (records_of image ≡ Ok r) × (r.layout ≡ Two)

-- half 1 is zeros, so no gate of it is open
abbrev pub IsSecondHalfEmpty : Geometry → List ℕ → Type 0
IsSecondHalfEmpty g image =
    slice_range image (half_start g 1) (area_start g) ≡ replicate (half_size g) 0
