-- A disk that is made has its records, and a new disk stands for the new carousel.
use Rattle.std.proofs.Common.{◌≡◌, ℕ, zero, suc, ◌+◌, ◌-◌, ◌*◌, ◌<◌, ◌≤◌, true, false, ◌&&◌, ◌==◌}
use Rattle.std.proofs.Common.{List, [], ◌∷◌, ◌++◌, replicate, zero-mul, length, take, drop, get_or}
use Rattle.std.proofs.Common.{Some, Ok, refl, sym, ◌∙◌, ap, subst, arith, if◌then◌else◌}
use Rattle.std.specs.Prelude.{slice_index, nat_le, IsOk}
use Rattle.std.proofs.lemmas.Bool.Decides.{nat_tests}
use Rattle.std.proofs.lemmas.List.{get_or-take, get_or-drop, drop-drop, replicate-append-replicate}
use Rattle.std.proofs.Math.Nat.{suc-mul}
use Rattle.std.proofs.Math.Seq.{take-add}
use Rattle.mot_journal.specs.declared.layout.Layout.TheVariants.{Two}
use Rattle.mot_journal.specs.Geometry.{geometry_of, has_magic, number_at}
use Rattle.mot_journal.specs.Image.{IsSecondHalfEmpty, area_of, catalogue_of, fold_from}
use Rattle.mot_journal.specs.Making.{IsMade}
use Rattle.mot_journal.specs.declared.record.Record.{Record}
use Rattle.mot_journal.specs.Slot.{slot_count, slot_size}
use Rattle.mot_journal.specs.Catalogue.{Catalogue, new_catalogue}
use Rattle.mot_journal.specs.Inner.Format.{first_record, behind_magic, HasAllButMagic}
use Rattle.mot_journal.specs.Inner.Steps.{HasSlots}
use Rattle.mot_journal.specs.Journal.{IsNewDisk, JournalView, with_records}
use Rattle.mot_journal.proofs.Laws.{stands_by_parts}
use Rattle.mot_journal.proofs.Halves.{filled_layout, filled_half, filled_reads}
use Rattle.mot_journal.proofs.Heads.{geometry_if, geometry_by_places, all_three, same-geometry}
use Rattle.mot_journal.proofs.NextSlot.{part_of_half}
use Rattle.mot_journal.proofs.Parts.{HasParts, parts_have}
use Rattle.mot_journal.proofs.Written.{number_2, number_4}
use Rattle.mot_numbers.specs.Reading.{number_in}
use Rattle.mot_numbers.specs.declared.geometry.Geometry.{Geometry}
use Rattle.mot_numbers.specs.Geometry.{IsValid, length_of, half_size, half_start, area_start}
use Rattle.mot_numbers.specs.Geometry.{is_valid}
use Rattle.mot_numbers.proofs.Laws.{is_valid_of}

-- the journal of a disk that is made with so many records
abbrev pub made_view : Geometry → ℕ → JournalView
made_view g count = record { geometry = g; half = 0; layout = Two; count = count; spent = false }

abbrev catalogue_from : ℕ → Catalogue
catalogue_from directory = record new_catalogue { directory = directory; cursor = directory }

catalogue_new : (limit directory : ℕ)
    → catalogue_of limit (first_record directory ∷ []) ≡ Ok (catalogue_from directory)
unfolding fold_from
catalogue_new limit directory = refl

le_true : (m n : ℕ) → m ≤ n → nat_le m n ≡ true
le_true m n le = grind (arith, nat_tests)

-- pieces of zeros, one behind the other
zeros_by_pieces : (size n : ℕ) (l : List ℕ)
    → ((i : ℕ) → i < n → take size (drop (i * size) l) ≡ replicate size 0)
    → take (n * size) l ≡ replicate (n * size) 0
zeros_by_pieces size zero l zeros =
    ap (λ k. take k l) (zero-mul size) ∙ sym (ap (λ k. replicate {A = ℕ} k 0) (zero-mul size))
zeros_by_pieces size (suc n) l zeros =
    ap (λ k. take k l) (suc-mul n size) ∙ take-add (n * size) size l
    ∙ ap (λ front. front ++ take size (drop (n * size) l))
    (zeros_by_pieces size n l (λ i lt. zeros i (omega (arith, lt))))
    ∙ ap (λ back. replicate (n * size) 0 ++ back) (zeros n (omega arith))
    ∙ replicate-append-replicate (n * size) size 0
    ∙ sym (ap (λ k. replicate {A = ℕ} k 0) (suc-mul n size))

empty_half : (g : Geometry) (c : List ℕ) → HasSlots g 1 Two [] (slot_count Two g) c
    → IsSecondHalfEmpty g c
empty_half g c other =
    let whole : slot_count Two g * slot_size Two ≡ half_size g = omega arith in
    let size : area_start g - half_start g 1 ≡ half_size g = omega arith in
    let half = drop (half_start g 1) c in
    let zeros = zeros_by_pieces (slot_size Two) (slot_count Two g) half (λ i lt.
    ap (take (slot_size Two)) (drop-drop (i * slot_size Two) (half_start g 1) c)
    ∙ (other i lt).0) in
    ap (λ k. take k half) (size ∙ sym whole) ∙ zeros ∙ ap (λ k. replicate {A = ℕ} k 0) whole

module _ (g : Geometry) (given : List Record) (valid : IsValid g) (c : List ℕ)
    (long : length_of g ≤ length c) (named : has_magic c ≡ true)
    (made : HasAllButMagic g given c) (some : 0 < length given)
    (few : length given ≤ slot_count Two g) (fold : IsOk (catalogue_of g.objects given)) where
  -- a number of the head
  number_is : (at width : ℕ) → 8 ≤ at → at + width ≤ 64
      → number_at at width c ≡ number_in (take width (drop (at - 8) (behind_magic g)))
  number_is at width low high =
      let place : 8 + (at - 8) ≡ at = omega (arith, low) in
      ap number_in (ap (λ k. take width (drop k c)) (sym place)
      ∙ sym (part_of_half 8 56 (at - 8) width c (omega (arith, low, high)))
      ∙ ap (λ l. take width (drop (at - 8) l)) made.head)

  geometry_told : geometry_of c ≡ Some g
  geometry_told =
      let objects : number_at 16 2 c ≡ g.objects =
      number_is 16 2 (omega arith) (omega arith) ∙ number_2 g.objects (omega (arith, valid)) in
      let segment : number_at 18 2 c ≡ g.segment =
      number_is 18 2 (omega arith) (omega arith)
      ∙ number_2 g.segment (omega (arith, valid)) in
      let address : number_at 20 2 c ≡ g.address =
      number_is 20 2 (omega arith) (omega arith) ∙ number_2 g.address (omega (arith, valid)) in
      let packet : number_at 22 2 c ≡ g.packet =
      number_is 22 2 (omega arith) (omega arith)
      ∙ number_2 g.packet (omega (arith, valid)) in
      let area : number_at 24 4 c ≡ g.area =
      number_is 24 4 (omega arith) (omega arith)
      ∙ number_4 g.area (omega (arith, valid)) in
      let same = same-geometry g (number_at 16 2 c) (number_at 18 2 c) (number_at 20 2 c)
      (number_at 22 2 c) (number_at 24 4 c)
      (sym objects) (sym segment) (sym address) (sym packet) (sym area) in
      geometry_by_places c
      ∙ ap (λ (x : Geometry). geometry_if x
      (has_magic c && is_valid x && nat_le (length_of x) (length c))) same
      ∙ all_three g (has_magic c) (is_valid g) (nat_le (length_of g) (length c)) named
      (is_valid_of g valid) (le_true (length_of g) (length c) long)

  selector : slice_index c 8 ≡ 0
  selector =
      sym (get_or-drop 8 c 0 0) ∙ sym (get_or-take 56 (drop 8 c) 0 0 (omega arith))
      ∙ ap (λ l. get_or l 0 0) made.head

  parts : HasParts (made_view g (length given)) given c
  parts = record {
    geometry = geometry_told;
    half = ap (λ b. if b == 1 then 1 else 0) selector;
    layout = filled_layout g 0 Two given some c made.slots;
    read = filled_reads g 0 Two given few c made.slots;
    gates = (filled_half g 0 Two given few c made.slots).1;
    fold = fold;
  }

  -- what was made, named with the magic and long enough, has the records
  pub made_is : IsMade g given (area_of g c) c
  made_is =
      let has = parts_have (made_view g (length given)) given c parts in
      record {
        read = has.read;
        clean = has.clean;
        other = empty_half g c made.other;
        area = refl;
      }

-- what was made with the first record of a new disk is a new disk
pub new_is : (g : Geometry) (directory : ℕ) (tail c : List ℕ)
    → IsMade g (first_record directory ∷ []) tail c → IsNewDisk g directory c
new_is g directory tail c made =
    let j = with_records (made_view g 1) (first_record directory ∷ []) in
    record {
      stands = stands_by_parts g j (catalogue_from directory) c refl made.read
          (catalogue_new g.objects directory);
      clean = made.clean;
      layout = (j, made.read, refl);
      other = made.other;
    }

-- the record of a new disk makes no fault of the list
pub first_folds : (limit directory : ℕ)
    → IsOk (catalogue_of limit (first_record directory ∷ []))
first_folds limit directory = subst IsOk (sym (catalogue_new limit directory)) refl
