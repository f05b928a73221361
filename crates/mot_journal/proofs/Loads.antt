-- What `load` makes of two reads: of the first 64 bytes of a disk, and of the half that they
-- select.
use Rattle.std.proofs.Common.{◌≡◌, ℕ, ◌+◌, ◌-◌, ◌*◌, ◌≤◌, Bool, true, false, List, ◌++◌, length}
use Rattle.std.proofs.Common.{take, drop, replicate, Option, Some, None, Result, Ok, Err, refl, sym}
use Rattle.std.proofs.Common.{◌∙◌, ap, subst, arith, take-append-drop}
use Rattle.std.specs.Prelude.{if◌then◌else◌, nat_le, ◌==◌, slice_index, is_err, IfSome, OnOk}
use Rattle.std.proofs.lemmas.Bool.{leb-true, and_parts}
use Rattle.std.proofs.lemmas.List.{length-drop, length-append, length-replicate, get_or-take}
use Rattle.std.proofs.Math.Seq.{take-append_seam}
use Rattle.disk_model.specs.Disk.{State}
use Rattle.mot_journal.specs.Geometry.{geometry_of, selected_half}
use Rattle.mot_numbers.specs.Refusal.{◌>>=◌}
use Rattle.mot_journal.specs.Image.{DiskRecords, records_of, half_of, journal_in_half}
use Rattle.mot_journal.specs.Image.{or_not_formatted}
use Rattle.mot_journal.specs.Faults.{HasFieldFault}
use Rattle.mot_journal.specs.Inner.Reading.{IsNoHead, IsSlotReason, IsHalfRefusal}
use Rattle.mot_journal.specs.Reason.{IsReasonOf, refusal_of, slot_of}
use Rattle.mot_journal.specs.Slot.{layout_of, slot_size}
use Rattle.mot_journal.specs.declared.layout.Layout.{Layout}
use Rattle.mot_journal.specs.declared.reason.FieldFault.{FieldFault}
use Rattle.mot_journal.specs.declared.reason.Reason.TheVariants.{Head, Field, List as InList}
use Rattle.mot_journal.specs.declared.reason.Reason.TheVariants.{Formatted, Small}
use Rattle.mot_journal.specs.declared.reason.Fault.{Fault}
use Rattle.mot_journal.specs.declared.reason.HeadFault.{HeadFault}
use Rattle.mot_journal.specs.declared.reason.Reason.{Reason}
use Rattle.mot_journal.specs.Inner.Reading.IsHalfRefusal.{no_memory as half_memory}
use Rattle.mot_journal.specs.Inner.Reading.IsHalfRefusal.{damaged as half_damaged}
use Rattle.mot_journal.specs.Journal.{IsLoadRefusal}
use Rattle.mot_journal.specs.Journal.IsReadingRefusal.{no_memory, damaged}
use Rattle.mot_numbers.specs.declared.refusal.Refusal.{Refusal}
use Rattle.mot_numbers.specs.declared.refusal.Refusal.TheVariants.{NotFormatted}
use Rattle.mot_numbers.specs.declared.geometry.Geometry.{Geometry}
use Rattle.mot_numbers.specs.Geometry.{length_of, half_size, half_start, is_valid}
use Rattle.std.proofs.lemmas.Bool.Decides.{nat_tests}
use Rattle.mot_journal.proofs.Heads.{geometry_if, has_geometry_if}

some-if : (g : Geometry) (x : Geometry) (b : Bool) → geometry_if x b ≡ geometry_if g true
    → (b ≡ true) × (x ≡ g)
some-if g x true e = let same : x ≡ g = cc in (refl, same)
some-if g x false e = cc

-- a geometry that is told is valid, and its disk is long enough
pub geometry_good : (image : List ℕ) (g : Geometry) → geometry_of image ≡ Some g
    → (is_valid g ≡ true) × (length_of g ≤ length image)
geometry_good image g e =
    let p = has_geometry_if image in
    let is = some-if g p.0 _ (sym p.1 ∙ e) in
    let two = and_parts _ _ is.0 in (
      subst (λ (x : Geometry). is_valid x ≡ true) is.1 (and_parts _ _ two.0).1,
      leb-true (length_of g) (length image)
          (subst (λ (x : Geometry). nat_le (length_of x) (length image) ≡ true) is.1 two.1),
    )

-- the first 64 bytes tell the geometry of the whole
pub geometry_told : (bytes head : List ℕ) (len : ℕ) (o : Option Geometry) → length bytes ≡ len
    → 64 ≤ len → head ≡ take 64 bytes
    → ((rest : List ℕ) → 64 + length rest ≡ len → o ≡ geometry_of (head ++ rest))
    → o ≡ geometry_of bytes
geometry_told bytes head len o long fits is told =
    told (drop 64 bytes) (omega (arith, length-drop 64 bytes))
    ∙ ap (λ h. geometry_of (h ++ drop 64 bytes)) is ∙ ap geometry_of (take-append-drop 64 bytes)

-- the first 64 bytes tell the fault of the whole
pub fault_told : (bytes head : List ℕ) (len : ℕ) (fault : HeadFault) → length bytes ≡ len
    → 64 ≤ len → head ≡ take 64 bytes
    → ((rest : List ℕ) → 64 + length rest ≡ len → IsNoHead (head ++ rest) fault)
    → IsNoHead bytes fault
fault_told bytes head len fault long fits is told =
    let whole : head ++ drop 64 bytes ≡ bytes =
    ap (λ h. h ++ drop 64 bytes) is ∙ take-append-drop 64 bytes in
    subst (λ image. IsNoHead image fault) whole
    (told (drop 64 bytes) (omega (arith, length-drop 64 bytes)))

-- records that are refused
abbrev pub refused : Refusal → Result DiskRecords Refusal
refused refusal = Err refusal

-- the fault of a reason
abbrev pub fault_of : Reason → Fault
fault_of reason = record { refusal = refusal_of reason; reason = Some reason }

-- no geometry: the disk is not formatted
pub none_formatted : (bytes : List ℕ) → geometry_of bytes ≡ None
    → records_of bytes ≡ Err NotFormatted
unfolding records_of
none_formatted bytes e =
    ap (λ o. ◌>>=◌ (or_not_formatted o)
    (λ g. journal_in_half g (selected_half bytes) (half_of g bytes))) e

-- what was read of a disk: its first 64 bytes, and the half that they select
pub record IsHalfRead (bytes head half_bytes : List ℕ) (g : Geometry) (half : ℕ) : Type 0 where
  pub front : head ≡ take 64 bytes
  pub told : geometry_of bytes ≡ Some g
  pub chosen : half ≡ (if slice_index head 8 == 1 then 1 else 0)
  pub read : half_bytes ≡ take (half_size g) (drop (half_start g half) bytes)

module _ (bytes head half_bytes : List ℕ) (g : Geometry) (half : ℕ)
    (is : IsHalfRead bytes head half_bytes g half) where
  same_half : half ≡ selected_half bytes
  same_half =
      let eighth : slice_index head 8 ≡ slice_index bytes 8 =
      ap (λ l. slice_index l 8) is.front ∙ get_or-take 64 bytes 8 0 (omega arith) in
      is.chosen ∙ ap (λ b. if b == 1 then 1 else 0) eighth

  -- the half that is selected has what the disk has
  pub half_told : records_of bytes ≡ journal_in_half g half half_bytes
  unfolding records_of
  half_told =
      ap (λ o. ◌>>=◌ (or_not_formatted o)
      (λ (x : Geometry). journal_in_half x (selected_half bytes) (half_of x bytes))) is.told
      ∙ ap (λ h. journal_in_half g h (take (half_size g) (drop (half_start g h) bytes)))
      (sym same_half)
      ∙ ap (λ l. journal_in_half g half l) (sym is.read)

  -- a reason in a slot of the half is one of the disk
  pub reason_told : (reason : Option Reason) → IfSome reason (IsSlotReason g half_bytes)
      → IfSome reason (IsReasonOf bytes)
  reason_told None so = so
  reason_told (Some (Field number fault)) so =
      let whole : half_bytes ≡ half_of g bytes =
      is.read ∙ ap (λ h. take (half_size g) (drop (half_start g h) bytes)) same_half in
      record {
        geometry = g;
        is = is.told;
        has = subst (λ l. HasFieldFault g (layout_of l) (slot_of l number) fault) whole so;
      }
  reason_told (Some (Head fault)) so = absurd so
  reason_told (Some (InList number fault)) so = absurd so
  reason_told (Some Formatted) so = absurd so
  reason_told (Some (Small has asked)) so = absurd so

-- a fault of a slot that was read is one of the half's slot of that number
pub field_told : (g : Geometry) (layout : Layout) (half slot : List ℕ) (number : ℕ)
    (fault : FieldFault) → layout ≡ layout_of half
    → slot ≡ take (slot_size layout) (drop (number * slot_size layout) half)
    → HasFieldFault g layout slot fault
    → HasFieldFault g (layout_of half) (slot_of half number) fault
field_told g layout half slot number fault is at has =
    subst (λ l. HasFieldFault g l (take (slot_size l) (drop (number * slot_size l) half)) fault) is
    (subst (λ s. HasFieldFault g layout s fault) at has)

-- what a geometry that the first 64 bytes tell has
pub told_good : (head : List ℕ) (len : ℕ) (g : Geometry) → length head ≡ 64 → 64 ≤ len
    → ((rest : List ℕ) → 64 + length rest ≡ len → geometry_if g true ≡ geometry_of (head ++ rest))
    → (is_valid g ≡ true) × (length_of g ≤ len) × (g.objects ≤ 250)
told_good head len g whole fits told =
    let rest : List ℕ = replicate (len - 64) 0 in
    let n : length rest ≡ len - 64 = length-replicate (len - 64) 0 in
    let good = geometry_good (head ++ rest) g (sym (told rest (omega (arith, n)))) in
    let first = and_parts _ _
    (and_parts _ _ (and_parts _ _ (and_parts _ _ (and_parts _ _ good.0).0).0).0).0 in (
      good.0,
      omega (arith, good.1, n, whole, length-append head rest),
      leb-true g.objects 250 first.1,
    )

-- what an Ok result claims holds where the result is no error
pub on_ok : {T E P : Type 0} (r : Result T E) (b : Bool) → b ≡ is_err r → b ≡ false → OnOk r P → P
on_ok (Ok x) b e isnt p = p
on_ok (Err x) b e isnt p = absurd (cc)

-- a selector of 1 selects half 1
pub chosen_one : (n half : ℕ) → n ≡ 1 → half ≡ 1 → half ≡ (if n == 1 then 1 else 0)
chosen_one n half e is = grind (arith, nat_tests)

-- any other selector selects half 0
pub chosen_none : (n half : ℕ) → (n ≡ 1 → ⊥) → half ≡ 0 → half ≡ (if n == 1 then 1 else 0)
chosen_none n half e is = grind (arith, nat_tests)

-- a half's refusal is the disk's, where the disk has the records of that half
pub load_refused_of_half : (old new : State) (g : Geometry) (bytes : List ℕ) (refusal : Refusal)
    (half : ℕ)
    → IsHalfRefusal g bytes refusal
    → (new.IsHonest → records_of old.bytes ≡ journal_in_half g half bytes)
    → IsLoadRefusal old new refusal
load_refused_of_half old new g bytes refusal half (half_memory e) told = no_memory e
load_refused_of_half old new g bytes refusal half (half_damaged slot e is) told =
    damaged slot e (λ honest. told honest ∙ is half)

-- a number added to a place, and the place taken away
pub sub-same : (at n : ℕ) → at + n - at ≡ n
sub-same at n = omega arith

-- a vector whose whole slice was written
pub written_back : (n : ℕ) (out rest : List ℕ) → n ≡ length out → take n (out ++ rest) ≡ out
written_back n out rest e = ap (λ k. take k (out ++ rest)) e ∙ take-append_seam out rest
