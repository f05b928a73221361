-- The records of a half, slot by slot.
use Rattle.std.proofs.Common.{◌≡◌, inl, inr, ℕ, zero, suc, ◌+◌, ◌*◌, ◌<◌, Bool, true, false, List}
use Rattle.std.proofs.Common.{[], ◌∷◌, ◌++◌, length, take, drop, get_or, Option, Some, None, Result}
use Rattle.std.proofs.Common.{Ok, Err, refl, sym, ◌∙◌, ap, subst, arith, append-nil}
use Rattle.std.proofs.Common.{take-append-drop}
use Rattle.std.specs.Prelude.{if◌then◌else◌, take_while, slice_index}
use Rattle.std.proofs.lemmas.Bool.Decides.{nat_tests}
use Rattle.std.proofs.Math.Seq.{drop-cons, take-length}
use Rattle.std.proofs.lemmas.Bool.{cases_Bool}
use Rattle.std.proofs.lemmas.List.{take_more, drop-drop, length-take-le}
use Rattle.std.proofs.lemmas.List.Sums.{take_while-cons}
use Rattle.mot_journal.specs.declared.layout.Layout.{Layout}
use Rattle.mot_journal.specs.declared.record.Record.{Record}
use Rattle.mot_journal.specs.Slot.{read_slot, is_sound, is_open, layout_of, slot_size, slot_count}
use Rattle.mot_journal.specs.Slot.{record_in, slot_columns}
use Rattle.mot_journal.specs.Geometry.{columns}
use Rattle.mot_numbers.specs.Refusal.{◌>>=◌ as result_then}
use Rattle.mot_journal.specs.Image.{DiskRecords, records_in, slots_in, journal_in_half}
use Rattle.mot_journal.specs.Inner.Reading.{HalfHas}
use Rattle.mot_journal.proofs.Records.{AreOpen, open_front, open_then_shut, are_open_more}
use Rattle.mot_journal.proofs.Records.{records_more, records_fault}
use Rattle.mot_numbers.specs.declared.refusal.Refusal.{Refusal}
use Rattle.mot_numbers.specs.declared.refusal.Refusal.TheVariants.{Damaged}
use Rattle.mot_numbers.specs.Reading.{◌>>=◌}
use Rattle.mot_numbers.specs.declared.geometry.Geometry.{Geometry}
use Rattle.mot_journal.proofs.Decoded.{checked}
use Rattle.mot_journal.proofs.Written.{some-entry}

-- one slot more behind i slots of a size
pub times-suc : (i size : ℕ) → size + i * size ≡ suc i * size
times-suc i size = grind arith

-- bytes cut into n slots are n slots
pub length-slots_in : (size n : ℕ) (bytes : List ℕ) → length (slots_in size n bytes) ≡ n
length-slots_in size zero bytes = refl
length-slots_in size (suc n) bytes = ap suc (length-slots_in size n (drop size bytes))

-- the slot of a number is as many bytes as its size from its place on
pub slot_of_place : (size n : ℕ) (bytes : List ℕ) (i : ℕ) → i < n
    → get_or (slots_in size n bytes) i [] ≡ take size (drop (i * size) bytes)
slot_of_place size zero bytes i lt = absurd (omega arith)
slot_of_place size (suc n) bytes zero lt =
    ap (λ k. take size (drop k bytes)) (let z : 0 ≡ 0 * size = omega arith in z)
slot_of_place size (suc n) bytes (suc i) lt =
    slot_of_place size n (drop size bytes) i (omega arith)
    ∙ ap (take size) (drop-drop (i * size) size bytes)
    ∙ ap (λ k. take size (drop k bytes))
    (let s : size + i * size ≡ suc i * size = times-suc i size in s)

-- the slots of a half, in a given layout
abbrev pub slots : Geometry → Layout → List ℕ → List (List ℕ)
slots g layout half = slots_in (slot_size layout) (slot_count layout g) half

abbrev failed : ℕ → Result DiskRecords Refusal
failed n = Err (Damaged n)

-- records that were found
abbrev pub found : Geometry → ℕ → Layout → List Record → Result DiskRecords Refusal
found g half layout records =
    Ok (record { geometry = g; half = half; layout = layout; records = records })

module _ (g : Geometry) (layout : Layout) (half : List ℕ) where
  place-slot : (i : ℕ) → i < slot_count layout g → (slot : List ℕ)
      → slot ≡ take (slot_size layout) (drop (i * slot_size layout) half)
      → get_or (slots g layout half) i [] ≡ slot
  place-slot i lt slot is =
      slot_of_place (slot_size layout) (slot_count layout g) half i lt ∙ sym is

  more : (i : ℕ) → i < slot_count layout g → (slot : List ℕ)
      → slot ≡ take (slot_size layout) (drop (i * slot_size layout) half)
      → take (i + 1) (slots g layout half) ≡ take i (slots g layout half) ++ slot ∷ []
  more i lt slot is =
      take_more (slots g layout half) i []
      (omega (arith, length-slots_in (slot_size layout) (slot_count layout g) half))
      ∙ ap (λ (s : List ℕ). take i (slots g layout half) ++ s ∷ []) (place-slot i lt slot is)

  split : (i : ℕ) → i < slot_count layout g → (slot : List ℕ)
      → slot ≡ take (slot_size layout) (drop (i * slot_size layout) half)
      → slots g layout half ≡ take i (slots g layout half) ++ slot
      ∷ drop (suc i) (slots g layout half)
  split i lt slot is =
      let fits : i < length (slots g layout half) =
      omega (arith, length-slots_in (slot_size layout) (slot_count layout g) half) in
      sym (take-append-drop i (slots g layout half))
      ∙ ap (λ l. take i (slots g layout half) ++ l) (drop-cons (slots g layout half) i [] fits)
      ∙ ap (λ (s : List ℕ). take i (slots g layout half) ++ s ∷ drop (suc i) (slots g layout half))
      (place-slot i lt slot is)

  -- a slot with a record, behind slots that read as records, reads as one record more
  pub reads_more : (i : ℕ) → i < slot_count layout g → (slot : List ℕ)
      → slot ≡ take (slot_size layout) (drop (i * slot_size layout) half)
      → (records : List Record) (r : Record)
      → records_in (read_slot g layout) 0 (take i (slots g layout half)) ≡ Ok records
      → Some r ≡ read_slot g layout slot
      → records_in (read_slot g layout) 0 (take (i + 1) (slots g layout half))
      ≡ Ok (records ++ r ∷ [])
  reads_more i lt slot is records r e reads =
      ap (λ l. records_in (read_slot g layout) 0 l) (more i lt slot is)
      ∙ records_more (read_slot g layout) 0 (take i (slots g layout half)) slot records r e
      (sym reads)

  -- one open slot of the half more behind its open ones
  pub open_more : (i : ℕ) → i < slot_count layout g → (slot : List ℕ)
      → slot ≡ take (slot_size layout) (drop (i * slot_size layout) half)
      → AreOpen (take i (slots g layout half)) → is_open slot ≡ true
      → AreOpen (take (i + 1) (slots g layout half))
  open_more i lt slot is are open' =
      subst AreOpen (sym (more i lt slot is))
      (are_open_more (take i (slots g layout half)) slot are open')

  by-records : layout ≡ layout_of half → (front : List (List ℕ)) (records : List Record)
      → take_while is_open (slots g layout half) ≡ front
      → records_in (read_slot g layout) 0 front ≡ Ok records → HalfHas g layout half records
  by-records same front records is e = λ h.
      ap (λ y. result_then (records_in (read_slot g y) 0 (take_while is_open (slots g y half)))
      (λ l. found g h y l)) (sym same)
      ∙ ap (λ s. result_then (records_in (read_slot g layout) 0 s) (λ l. found g h layout l)) is
      ∙ ap (λ q. result_then q (λ l. found g h layout l)) e

  -- a closed slot behind open ones that were read: the half has those records
  pub has_shut : layout ≡ layout_of half → (i : ℕ) → i < slot_count layout g → (slot : List ℕ)
      → slot ≡ take (slot_size layout) (drop (i * slot_size layout) half)
      → (records : List Record)
      → records_in (read_slot g layout) 0 (take i (slots g layout half)) ≡ Ok records
      → AreOpen (take i (slots g layout half)) → is_open slot ≡ false
      → HalfHas g layout half records
  has_shut same i lt slot is records e are shut =
      by-records same (take i (slots g layout half)) records
      (ap (λ l. take_while is_open l) (split i lt slot is)
      ∙ open_then_shut (take i (slots g layout half))
      (slot ∷ drop (suc i) (slots g layout half)) are shut) e

  -- each slot open and read: the half has those records
  pub has_all : layout ≡ layout_of half → (i : ℕ) → slot_count layout g ≡ i
      → (records : List Record)
      → records_in (read_slot g layout) 0 (take i (slots g layout half)) ≡ Ok records
      → AreOpen (take i (slots g layout half)) → HalfHas g layout half records
  has_all same i end records e are =
      let all : take i (slots g layout half) ≡ slots g layout half =
      ap (λ k. take k (slots g layout half))
      (sym end ∙ sym (length-slots_in (slot_size layout) (slot_count layout g) half))
      ∙ take-length (slots g layout half) in
      by-records same (take i (slots g layout half)) records
      (ap (λ l. take_while is_open l) (sym all ∙ sym (append-nil (take i (slots g layout half))))
      ∙ open_then_shut (take i (slots g layout half)) [] are tt) e

  -- an open slot without a record behind those that were read: the half is damaged there
  pub has_fault : layout ≡ layout_of half → (i : ℕ) → i < slot_count layout g → (slot : List ℕ)
      → slot ≡ take (slot_size layout) (drop (i * slot_size layout) half)
      → (records : List Record)
      → records_in (read_slot g layout) 0 (take i (slots g layout half)) ≡ Ok records
      → AreOpen (take i (slots g layout half)) → is_open slot ≡ true
      → None ≡ read_slot g layout slot → (h : ℕ) → journal_in_half g h half ≡ Err (Damaged i)
  has_fault same i lt slot is records e are open' none h =
      let front : List (List ℕ) = take i (slots g layout half) in
      let back : List (List ℕ) = drop (suc i) (slots g layout half) in
      let count : 0 + length front ≡ i =
      omega (
        arith,
        length-take-le i (slots g layout half)
            (omega (arith, length-slots_in (slot_size layout) (slot_count layout g) half)),
      ) in
      let kept : take_while is_open (slots g layout half)
      ≡ front ++ slot ∷ take_while is_open back =
      ap (λ l. take_while is_open l) (split i lt slot is) ∙ open_front front (slot ∷ back) are
      ∙ ap (λ l. front ++ l) (take_while-cons is_open slot back
      ∙ ap (λ (b : Bool). if b then slot ∷ take_while is_open back else []) open') in
      ap (λ y. result_then (records_in (read_slot g y) 0 (take_while is_open (slots g y half)))
      (λ l. found g h y l)) (sym same)
      ∙ ap (λ s. result_then (records_in (read_slot g layout) 0 s) (λ l. found g h layout l)) kept
      ∙ ap (λ q. result_then q (λ l. found g h layout l))
      (records_fault (read_slot g layout) 0 front slot (take_while is_open back) records e
      (sym none))
      ∙ ap failed count

checked-sound : (g : Geometry) (layout : Layout) (o : Option Record) (r : Record)
    → (o >>= checked g layout) ≡ some-entry r → is_sound g layout r ≡ true
checked-sound g layout None r e = absurd (cc)
checked-sound g layout (Some x) r e = elim (cases_Bool (is_sound g layout x)) [
  | inl is ↦
      let same : some-entry x ≡ some-entry r = sym (ap (λ (b : Bool). if b then some-entry x else None) is) ∙ e in
      let eq : x ≡ r = cc in subst (λ y. is_sound g layout y ≡ true) eq is
  | inr isnt ↦ let wrong : None ≡ some-entry r =
      sym (ap (λ (b : Bool). if b then some-entry x else None) isnt) ∙ e in absurd (cc)
]

-- a record that is read has no fault of fields
pub read_is_sound : (g : Geometry) (layout : Layout) (slot : List ℕ) (r : Record)
    → read_slot g layout slot ≡ Some r → is_sound g layout r ≡ true
unfolding read_slot
read_is_sound g layout slot r e =
    checked-sound g layout (record_in layout (drop 24 slot) (columns slot_columns slot)) r e

-- a slot that begins with the open gate's value is open
pub open_is : (slot : List ℕ) → slice_index slot 0 ≡ 0xA5 → is_open slot ≡ true
open_is slot e = grind (arith, nat_tests)

-- a slot that begins with any other byte is closed
pub shut_is : (slot : List ℕ) → (slice_index slot 0 ≡ 0xA5 → ⊥) → is_open slot ≡ false
shut_is slot e = grind (arith, nat_tests)

-- equal records are equal as what was read
pub ok-same : (a b : List Record) → a ≡ b
    → (let r : Result (List Record) Refusal = Ok a in r) ≡ Ok b
ok-same a b e = ap (λ (l : List Record). let r : Result (List Record) Refusal = Ok l in r) e
