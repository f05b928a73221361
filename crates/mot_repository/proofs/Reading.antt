-- What is known of each record that an image of bytes has.
use Rattle.std.proofs.Common.{◌≡◌, ℕ, zero, suc, ◌+◌, ◌<◌, ◌≤◌, Bool, true, false, cond, ◌&&◌, List}
use Rattle.std.proofs.Common.{[], ◌∷◌, length, take, drop, Option, Some, None, Result, Ok, Err}
use Rattle.std.proofs.Common.{refl, subst, arith}
use Rattle.std.specs.Prelude.{All, nat_le, take_while}
use Rattle.std.specs.List.{AllByRecursion, prefix_len}
use Rattle.std.proofs.lemmas.Bool.{and_parts, leb-true}
use Rattle.mot_journal.specs.declared.layout.Layout.{Layout}
use Rattle.mot_journal.specs.declared.record.Record.{Record}
use Rattle.mot_journal.specs.declared.record.Action.{Action}
use Rattle.mot_journal.specs.declared.record.Action.TheVariants.{Nothing, Set, Remove}
use Rattle.mot_journal.specs.Geometry.{columns, geometry_in, geometry_of, has_magic, selected_half}
use Rattle.mot_journal.specs.Slot.{slot_size, slot_count, is_open, is_sound, read_slot, layout_of}
use Rattle.mot_journal.specs.Image.{or_damaged, DiskRecords, records_of, records_in, slots_in}
use Rattle.mot_journal.specs.Image.{slots_of, half_of, journal_in_half, or_not_formatted}
use Rattle.mot_numbers.specs.Refusal.{◌>>=◌ as result_then}
use Rattle.mot_numbers.specs.Reading.{number_in, ◌>>=◌}
use Rattle.mot_numbers.specs.declared.refusal.Refusal.{Refusal}
use Rattle.mot_numbers.specs.declared.geometry.Geometry.{Geometry}
use Rattle.mot_numbers.specs.Geometry.{length_of, half_start, half_size, is_valid}
use Rattle.mot_objects.specs.Name.{ContentNumbers}
use Rattle.mot_repository.specs.Inner.Fold.{HasShortId}

-- each of the numbers is a byte
abbrev pub AreBytes : List ℕ → Type 0
AreBytes bytes = AllByRecursion (λ b. b < 256) bytes

-- what holds of each of a list, told of one after the other
pub by_recursion : {X : Type 0} (P : X → Type 0) (xs : List X) → All P xs → AllByRecursion P xs
by_recursion P [] all = tt
by_recursion P (x ∷ xs) all =
    (all 0 x (omega arith), by_recursion P xs (λ k d lt. all (suc k) d (omega (arith, lt))))

take-bytes : (n : ℕ) (bytes : List ℕ) → AreBytes bytes → AreBytes (take n bytes)
take-bytes zero bytes a = tt
take-bytes (suc n) [] a = tt
take-bytes (suc n) (b ∷ bytes) a = (a.0, take-bytes n bytes a.1)

drop-bytes : (n : ℕ) (bytes : List ℕ) → AreBytes bytes → AreBytes (drop n bytes)
drop-bytes zero bytes a = a
drop-bytes (suc n) [] a = tt
drop-bytes (suc n) (b ∷ bytes) a = drop-bytes n bytes a.1

short-number : (bytes : List ℕ) → AreBytes bytes → number_in (take 2 bytes) ≤ 65535
short-number [] a = omega arith
short-number (b ∷ []) a = let low = a.0 in omega (arith, low)
short-number (b ∷ c ∷ bytes) a = let low = a.0 in let lower = a.1.0 in omega (arith, low, lower)

third-number : (bytes : List ℕ) → AreBytes bytes → number_in (take 3 bytes) ≤ 16777215
third-number [] a = omega arith
third-number (b ∷ []) a = let low = a.0 in omega (arith, low)
third-number (b ∷ c ∷ []) a = let low = a.0 in let lower = a.1.0 in omega (arith, low, lower)
third-number (b ∷ c ∷ d ∷ bytes) a =
    let low = a.0 in let lower = a.1.0 in let lowest = a.1.1.0 in omega (arith, low, lower, lowest)

-- a record without a fault of fields, and its ids are numbers of two bytes
pub record IsRead (g : Geometry) (layout : Layout) (r : Record) : Type 0 where
  -- no field is out of its range
  pub sound : is_sound g layout r ≡ true
  -- the directory's id is a number of two bytes
  pub directory : r.directory ≤ 65535
  -- the cursor is a number of two bytes
  pub cursor : r.cursor ≤ 65535
  -- the object's id, if it has one, is a number of two bytes
  pub object : HasShortId r.action

-- and its period is a number of three bytes
record IsInSlot (g : Geometry) (layout : Layout) (r : Record) : Type 0 where
  read : IsRead g layout r
  period : r.period ≤ 16777215

each-read : (g : Geometry) (layout : Layout) (records : List Record)
    → AllByRecursion (IsInSlot g layout) records
    → AllByRecursion (IsRead g layout) records
each-read g layout [] all = tt
each-read g layout (r ∷ records) all = (all.0.read, each-read g layout records all.1)

each-period : (g : Geometry) (layout : Layout) (records : List Record)
    → AllByRecursion (IsInSlot g layout) records
    → AllByRecursion (λ (r : Record). r.period ≤ 16777215) records
each-period g layout [] all = tt
each-period g layout (r ∷ records) all = (all.0.period, each-period g layout records all.1)

short-third : (tid : ℕ) (t : Bool) (a : Action) → tid ≤ 65535
    → cond t (Some (Remove tid)) None ≡ Some a → HasShortId a
short-third tid true a le e = let g : Remove tid ≡ a = cc in subst HasShortId g le
short-third tid false a le e = cc

short-second : (tid version : ℕ) (content : ContentNumbers) (start size : ℕ) (name : List ℕ)
    (mime : Option (List ℕ)) (t u : Bool) (a : Action) → tid ≤ 65535
    → cond t (Some (Set tid version content start size name mime)) (cond u (Some (Remove tid)) None)
    ≡ Some a → HasShortId a
short-second tid version content start size name mime true u a le e =
    let g : Set tid version content start size name mime ≡ a = cc in subst HasShortId g le
short-second tid version content start size name mime false u a le e = short-third tid u a le e

short-first : (tid version : ℕ) (content : ContentNumbers) (start size : ℕ) (name : List ℕ)
    (mime : Option (List ℕ)) (s t u : Bool) (a : Action) → tid ≤ 65535
    → cond s (Some Nothing) (cond t (Some (Set tid version content start size name mime))
    (cond u (Some (Remove tid)) None)) ≡ Some a → HasShortId a
short-first tid version content start size name mime true t u a le e = let g : Nothing ≡ a = cc in
    subst HasShortId g tt
short-first tid version content start size name mime false t u a le e =
    short-second tid version content start size name mime t u a le e

abbrev of-action : ℕ → ℕ → ℕ → Action → Record
of-action period directory cursor action =
    record { period = period; directory = directory; cursor = cursor; action = action }

read-test : (g : Geometry) (layout : Layout) (made r : Record) (t : Bool)
    → is_sound g layout made ≡ t → made.period ≤ 16777215 → made.directory ≤ 65535
    → made.cursor ≤ 65535 → HasShortId made.action
    → cond t (Some made) None ≡ Some r → IsInSlot g layout r
read-test g layout made r true is p d c o e =
    let same : made ≡ r = cc in subst (IsInSlot g layout) same
    (record { read = record { sound = is; directory = d; cursor = c; object = o }; period = p })
read-test g layout made r false is p d c o e = cc

read-cases : (g : Geometry) (layout : Layout) (period directory cursor : ℕ) (r : Record)
    (o : Option Action) → period ≤ 16777215 → directory ≤ 65535 → cursor ≤ 65535
    → ((a : Action) → o ≡ Some a → HasShortId a)
    → ((o >>= λ a. Some (of-action period directory cursor a)) >>= λ made.
    cond (is_sound g layout made) (Some made) None) ≡ Some r → IsInSlot g layout r
read-cases g layout period directory cursor r None p d c o e = cc
read-cases g layout period directory cursor r (Some a) p d c o e =
    read-test g layout (of-action period directory cursor a) r
    (is_sound g layout (of-action period directory cursor a)) refl p d c (o a refl) e

slot-read : (g : Geometry) (layout : Layout) (slot : List ℕ) (r : Record) → AreBytes slot
    → read_slot g layout slot ≡ Some r → IsInSlot g layout r
unfolding read_slot
slot-read g layout slot r bytes e =
    let b1 = drop-bytes 1 slot bytes in
    let b2 = drop-bytes 1 (drop 1 slot) b1 in
    let b3 = drop-bytes 3 (drop 1 (drop 1 slot)) b2 in
    let b4 = drop-bytes 2 (drop 3 (drop 1 (drop 1 slot))) b3 in
    let b5 = drop-bytes 2 (drop 2 (drop 3 (drop 1 (drop 1 slot)))) b4 in
    read-cases g layout _ _ _ r _ (third-number _ b2) (short-number _ b3) (short-number _ b4)
    (λ a f. short-first _ _ _ _ _ _ _ _ _ _ a (short-number _ b5) f) e

-- ---- all the records of an image

slots-bytes : (size n : ℕ) (bytes : List ℕ) → AreBytes bytes
    → AllByRecursion AreBytes (slots_in size n bytes)
slots-bytes size zero bytes a = tt
slots-bytes size (suc n) bytes a =
    (take-bytes size bytes a, slots-bytes size n (drop size bytes) (drop-bytes size bytes a))

take-each : {X : Type 0} (P : X → Type 0) (n : ℕ) (xs : List X) → AllByRecursion P xs
    → AllByRecursion P (take n xs)
take-each P zero xs a = tt
take-each P (suc n) [] a = tt
take-each P (suc n) (x ∷ xs) a = (a.0, take-each P n xs a.1)

open-bytes : (slots : List (List ℕ)) → AllByRecursion AreBytes slots
    → AllByRecursion AreBytes (take_while is_open slots)
open-bytes slots a = take-each AreBytes (prefix_len is_open slots) slots a

module _ (g : Geometry) (layout : Layout) where
  rest-cases : (r : Record) (o : Result (List Record) Refusal) (records : List Record)
      → IsInSlot g layout r
      → ((rest : List Record) → o ≡ Ok rest → AllByRecursion (IsInSlot g layout) rest)
      → result_then o (λ rest. Ok (r ∷ rest)) ≡ Ok records
      → AllByRecursion (IsInSlot g layout) records
  rest-cases r (Ok rest) records is h e = let same : r ∷ rest ≡ records = cc in
      subst (AllByRecursion (IsInSlot g layout)) same (is, h rest refl)
  rest-cases r (Err refusal) records is h e = cc

  slot-cases : (number : ℕ) (slot : List ℕ) (slots : List (List ℕ)) (o : Option Record)
      (records : List Record) → read_slot g layout slot ≡ o → AreBytes slot
      → ((rest : List Record) → records_in (read_slot g layout) (number + 1) slots ≡ Ok rest
      → AllByRecursion (IsInSlot g layout) rest)
      → result_then (or_damaged number o)
      (λ r. result_then (records_in (read_slot g layout) (number + 1) slots)
      (λ rest. Ok (r ∷ rest))) ≡ Ok records
      → AllByRecursion (IsInSlot g layout) records
  slot-cases number slot slots None records is b h e = cc
  slot-cases number slot slots (Some r) records is b h e =
      rest-cases r (records_in (read_slot g layout) (number + 1) slots) records
      (slot-read g layout slot r b is) h e

  all-read : (number : ℕ) (slots : List (List ℕ)) (records : List Record)
      → AllByRecursion AreBytes slots
      → records_in (read_slot g layout) number slots ≡ Ok records
      → AllByRecursion (IsInSlot g layout) records
  all-read number [] records a e = let same : [] ≡ records = cc in
      subst (AllByRecursion (IsInSlot g layout)) same tt
  all-read number (slot ∷ slots) records a e =
      slot-cases number slot slots (read_slot g layout slot) records refl a.0
      (λ rest f. all-read (number + 1) slots rest a.1 f) e

-- the records of an image of bytes, and its geometry
pub record AreWholeRecords (j : DiskRecords) : Type 0 where
  -- the geometry is valid
  pub valid : is_valid j.geometry ≡ true
  -- each record is one that was read from bytes
  pub read : AllByRecursion (IsRead j.geometry j.layout) j.records
  -- each period is a number of three bytes
  pub periods : AllByRecursion (λ (r : Record). r.period ≤ 16777215) j.records

half-cases : (g : Geometry) (half : ℕ) (layout : Layout) (o : Result (List Record) Refusal)
    (j : DiskRecords) → is_valid g ≡ true
    → ((records : List Record) → o ≡ Ok records → AllByRecursion (IsInSlot g layout) records)
    → result_then o (λ records.
    Ok (record { geometry = g; half = half; layout = layout; records = records })) ≡ Ok j
    → AreWholeRecords j
half-cases g half layout (Ok records) j valid h e =
    let made : DiskRecords =
    record { geometry = g; half = half; layout = layout; records = records } in
    let same : made ≡ j = cc in
    subst AreWholeRecords same (record {
      valid = valid;
      read = each-read g layout records (h records refl);
      periods = each-period g layout records (h records refl);
    })
half-cases g half layout (Err refusal) j valid h e = cc

of-geometry : (image : List ℕ) (j : DiskRecords) (o : Option Geometry) → AreBytes image
    → ((g : Geometry) → o ≡ Some g → is_valid g ≡ true)
    → result_then (or_not_formatted o)
    (λ g. journal_in_half g (selected_half image) (half_of g image)) ≡ Ok j → AreWholeRecords j
of-geometry image j None bytes valid e = cc
of-geometry image j (Some g) bytes valid e =
    let half : List ℕ = half_of g image in
    let b = take-bytes (half_size g) (drop (half_start g (selected_half image)) image)
    (drop-bytes (half_start g (selected_half image)) image bytes) in
    let layout = layout_of half in
    half-cases g (selected_half image) layout
    (records_in (read_slot g layout) 0 (take_while is_open (slots_of g half))) j (valid g refl)
    (λ records f. all-read g layout 0 (take_while is_open (slots_of g half)) records
    (open-bytes (slots_of g half) (slots-bytes (slot_size layout) (slot_count layout g) half b)) f)
    e

geometry-test : (image : List ℕ) (made g : Geometry) (t : Bool)
    → (has_magic image && is_valid made && nat_le (length_of made) (length image)) ≡ t
    → cond t (Some made) None ≡ Some g → (is_valid g ≡ true) × (length_of g ≤ length image)
geometry-test image made g true is e =
    let same : made ≡ g = cc in
    let h = and_parts (has_magic image && is_valid made) (nat_le (length_of made) (length image))
    is in
    subst (λ (x : Geometry). (is_valid x ≡ true) × (length_of x ≤ length image)) same (
      (and_parts (has_magic image) (is_valid made) h.0).1,
      leb-true (length_of made) (length image) h.1,
    )
geometry-test image made g false is e = cc

geometry-cases : (image : List ℕ) (g : Geometry) (o : Option Geometry)
    → (o >>= λ made. cond (has_magic image && is_valid made
    && nat_le (length_of made) (length image)) (Some made) None) ≡ Some g
    → (is_valid g ≡ true) × (length_of g ≤ length image)
geometry-cases image g None e = cc
geometry-cases image g (Some made) e = geometry-test image made g _ refl e

-- an image that has a geometry is long enough for it, and it is valid
pub geometry_is : (image : List ℕ) (g : Geometry) → geometry_of image ≡ Some g
    → (is_valid g ≡ true) × (length_of g ≤ length image)
unfolding geometry_of
geometry_is image g e = geometry-cases image g
    (geometry_in (columns (8 ∷ 1 ∷ 7 ∷ 2 ∷ 2 ∷ 2 ∷ 2 ∷ 4 ∷ []) image)) e

-- the records of an image of bytes are whole, each one as it was read
pub records_read : (image : List ℕ) (j : DiskRecords) → AreBytes image → records_of image ≡ Ok j
    → AreWholeRecords j
unfolding records_of
records_read image j bytes e =
    of-geometry image j (geometry_of image) bytes (λ g f. (geometry_is image g f).0) e
