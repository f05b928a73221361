-- What an image has of a journal when its other half is filled and selected.
use Rattle.std.proofs.Common.{◌≡◌, ◌⊎◌, inl, inr, ⊎_elim, ℕ, zero, suc, ◌+◌, ◌-◌, ◌*◌, ◌<◌, ◌≤◌}
use Rattle.std.proofs.Common.{Bool, true, false, ◌&&◌, ◌==◌, List, [], ◌∷◌, ◌++◌, length, map, take}
use Rattle.std.proofs.Common.{drop, get_or, replicate, Some, Ok, refl, sym, ◌∙◌, ap, arith}
use Rattle.std.proofs.Common.{if◌then◌else◌, length-append, add-zero}
use Rattle.std.specs.Prelude.{slice_index, slice_get, take_while, IsOk, nat_le, bytes_eq}
use Rattle.std.proofs.lemmas.Bool.{cases_eq}
use Rattle.std.proofs.lemmas.Bool.Decides.{nat_tests}
use Rattle.std.proofs.lemmas.List.{ext_get_or, length-replicate, length-map, get_or-map}
use Rattle.std.proofs.lemmas.List.{get_or-replicate, get_or_append_left, get_or-append_right}
use Rattle.std.proofs.lemmas.List.{get_or-take, get_or-drop}
use Rattle.std.proofs.lemmas.Option.{slice_get_cases}
use Rattle.disk_model.specs.Disk.{AgreeOutside}
use Rattle.mot_journal.specs.declared.layout.Layout.{Layout}
use Rattle.mot_journal.specs.declared.layout.Layout.TheVariants.{One, Two}
use Rattle.mot_journal.specs.declared.record.Record.{Record}
use Rattle.mot_journal.specs.declared.record.Action.{Action}
use Rattle.mot_journal.specs.declared.record.Action.TheVariants.{Nothing, Set, Remove}
use Rattle.mot_journal.specs.Geometry.{geometry_of, selected_half, has_magic, magic, number_at}
use Rattle.mot_journal.specs.Slot.{is_open, layout_of, read_slot, slot_size, slot_count}
use Rattle.mot_journal.specs.Slot.{bytes_of_slot, kind_base, action_kind}
use Rattle.mot_journal.specs.Image.{catalogue_of, or_damaged, records_in, area_of, are_gates_clean}
use Rattle.mot_numbers.specs.Refusal.{◌>>=◌}
use Rattle.mot_journal.specs.Inner.Steps.{slot_from, IsReadable, HasSlots}
use Rattle.mot_journal.specs.Journal.{JournalView, in_other_half}
use Rattle.mot_journal.proofs.Laws.{drop_behind, part, geometry_stays, half_selected_stays}
use Rattle.mot_journal.proofs.OpenSlots.{AreShut, clean_of}
use Rattle.mot_journal.proofs.Heads.{geometry_if, geometry_by_places, of as geometry_at}
use Rattle.mot_journal.proofs.NextSlot.{part_of_half, byte_of_half, half_ends, half_begins}
use Rattle.mot_journal.proofs.NextSlot.{slot_fits, second_byte, slot_longer_than_gate}
use Rattle.mot_journal.proofs.Parts.{half_at, HasParts}
use Rattle.mot_journal.proofs.Records.{written_open, ok}
use Rattle.mot_journal.proofs.Slots.{slots, slot_of_place, length-slots_in}
use Rattle.mot_journal.proofs.Written.{written_gate}
use Rattle.mot_numbers.specs.Reading.{number_in}
use Rattle.mot_numbers.specs.declared.geometry.Geometry.{Geometry}
use Rattle.mot_numbers.specs.Geometry.{half_size, half_start, area_start, length_of, is_valid}
use Rattle.mot_numbers.specs.Geometry.{is_within}

-- with any selector the geometry is the same
pub geometry_beside_selector : (a b : List ℕ) → AgreeOutside 8 1 a b → geometry_of b ≡ geometry_of a
geometry_beside_selector a b agree =
    let same : (at width : ℕ) → 9 ≤ at → number_at at width b ≡ number_at at width a =
    λ at width le. ap (λ l. number_in (take width l))
    (drop_behind 8 1 a b agree at (omega (arith, le))) in
    let name : has_magic b ≡ has_magic a =
    ap (λ l. bytes_eq l magic) (part 8 1 a b agree 0 8 (omega arith)) in
    let of = geometry_at in
    let all : of (number_at 16 2 b) (number_at 18 2 b) (number_at 20 2 b) (number_at 22 2 b)
    (number_at 24 4 b)
    ≡ of (number_at 16 2 a) (number_at 18 2 a) (number_at 20 2 a) (number_at 22 2 a)
    (number_at 24 4 a) =
    ap (λ x. of x (number_at 18 2 b) (number_at 20 2 b) (number_at 22 2 b) (number_at 24 4 b))
    (same 16 2 (omega arith))
    ∙ ap (λ x. of (number_at 16 2 a) x (number_at 20 2 b) (number_at 22 2 b) (number_at 24 4 b))
    (same 18 2 (omega arith))
    ∙ ap (λ x. of (number_at 16 2 a) (number_at 18 2 a) x (number_at 22 2 b) (number_at 24 4 b))
    (same 20 2 (omega arith))
    ∙ ap (λ x. of (number_at 16 2 a) (number_at 18 2 a) (number_at 20 2 a) x (number_at 24 4 b))
    (same 22 2 (omega arith))
    ∙ ap (λ x. of (number_at 16 2 a) (number_at 18 2 a) (number_at 20 2 a) (number_at 22 2 a) x)
    (same 24 4 (omega arith)) in
    geometry_by_places b
    ∙ ap (λ (g : Geometry). geometry_if g
    (has_magic b && is_valid g && nat_le (length_of g) (length b))) all
    ∙ ap (λ m. geometry_if (of (number_at 16 2 a) (number_at 18 2 a) (number_at 20 2 a)
    (number_at 22 2 a) (number_at 24 4 a))
    (m && is_valid (of (number_at 16 2 a) (number_at 18 2 a) (number_at 20 2 a)
    (number_at 22 2 a) (number_at 24 4 a))
    && nat_le (length_of (of (number_at 16 2 a) (number_at 18 2 a) (number_at 20 2 a)
    (number_at 22 2 a) (number_at 24 4 a))) (length b))) name
    ∙ ap (λ n. geometry_if (of (number_at 16 2 a) (number_at 18 2 a) (number_at 20 2 a)
    (number_at 22 2 a) (number_at 24 4 a))
    (has_magic a && is_valid
    (of (number_at 16 2 a) (number_at 18 2 a) (number_at 20 2 a) (number_at 22 2 a)
    (number_at 24 4 a)) && nat_le
    (length_of (of (number_at 16 2 a) (number_at 18 2 a) (number_at 20 2 a) (number_at 22 2 a)
    (number_at 24 4 a))) n)) agree.len_is
    ∙ sym (geometry_by_places a)

-- each value of the selector has a reading
pub selected_cases : (c : List ℕ) (half : ℕ) → half ≤ 1
    → (selected_half c ≡ half) ⊎ (selected_half c ≡ 1 - half)
selected_cases c half le = elim (cases_eq (get_or c 8 0) 1) [
  | inl one ↦
      let is : selected_half c ≡ 1 = grind (arith, nat_tests) in
      elim (cases_eq half 1) [
        | inl same ↦ inl (is ∙ sym same)
        | inr other ↦ inr
            (omega (arith, is, other, le))
      ]
  | inr not_one ↦
      let is : selected_half c ≡ 0 = grind (arith, nat_tests) in
      elim (cases_eq half 0) [
        | inl same ↦ inl (is ∙ sym same)
        | inr other ↦ inr
            (omega (arith, is, other, le))
      ]
]

-- a selector that is 0 or 1 selects the half of that number
pub selected_is : (c : List ℕ) (half : ℕ) → half ≤ 1 → get_or c 8 0 ≡ half → selected_half c ≡ half
selected_is c zero le at = grind (arith, nat_tests)
selected_is c (suc zero) le at = grind (arith, nat_tests)
selected_is c (suc (suc half)) le at = absurd (omega (arith, le))

-- the two halves lie apart
halves_apart : (g : Geometry) (half : ℕ) → half ≤ 1
    → (half_start g half + half_size g ≤ half_start g (1 - half))
    ⊎ (half_start g (1 - half) + half_size g ≤ half_start g half)
halves_apart g zero le = inl (omega arith)
halves_apart g (suc zero) le = inr (omega arith)
halves_apart g (suc (suc half)) le = absurd (omega (arith, le))

other_le : (half : ℕ) → 1 - half ≤ 1
other_le half = omega arith

module _ (j : JournalView) (two_halves : j.half ≤ 1) where
  abbrev g : Geometry
  g = j.geometry

  -- where the half begins that is not selected
  abbrev pub other_start : ℕ
  other_start = half_start g (1 - j.half)

  -- with any bytes in the other half, the records stay
  pub other_torn : (records : List Record) (d c : List ℕ) → HasParts j records d
      → AgreeOutside other_start (half_size g) d c
      → HasParts j records c × (area_of g c ≡ area_of g d)
  other_torn records d c parts agree =
      let begins : 64 ≤ other_start = half_begins g (1 - j.half) in
      let ends = half_ends g (1 - j.half) (other_le j.half) in
      let same : half_at g j.half c ≡ half_at g j.half d =
      ⊎_elim (λ before. part other_start (half_size g) d c agree (half_start g j.half) (half_size g)
      (omega (arith, before)))
      (λ after. ap (λ l. take (half_size g) l)
      (drop_behind other_start (half_size g) d c agree (half_start g j.half)
      (omega (arith, after))))
      (halves_apart g j.half two_halves) in (
        record {
          geometry = geometry_stays other_start (half_size g) d c agree begins ∙ parts.geometry;
          half = half_selected_stays other_start (half_size g) d c agree begins ∙ parts.half;
          layout = ap layout_of same ∙ parts.layout;
          read = ap (λ b. records_in (read_slot g j.layout) 0
              (take_while is_open (slots g j.layout b))) same ∙ parts.read;
          gates = ap (λ b. are_gates_clean (slots g j.layout b)) same ∙ parts.gates;
          fold = parts.fold;
        },
        drop_behind other_start (half_size g) d c agree (area_start g) ends,
      )

all_read : (g : Geometry) (layout : Layout) (given : List Record) (k : ℕ)
    → ((i : ℕ) → i < length given → IsReadable g layout (slice_get given i))
    → records_in (read_slot g layout) k (map (bytes_of_slot layout) given) ≡ Ok given
all_read g layout [] k all = refl
all_read g layout (r ∷ given) k all =
    ap (λ o. ◌>>=◌ (or_damaged k o)
    (λ x. ◌>>=◌ (records_in (read_slot g layout) (k + 1)
    (map (bytes_of_slot layout) given)) (λ l. ok (x ∷ l))))
    (all 0 (omega arith))
    ∙ ap (λ q. ◌>>=◌ q (λ l. ok (r ∷ l)))
    (all_read g layout given (k + 1) (λ i lt. all (suc i) (omega (arith, lt))))

zeros_shut : (n : ℕ) → 0 < n → is_open (replicate n 0) ≡ false
zeros_shut n lt = ap (λ b. b == 0xA5) (get_or-replicate n 0 0 0 lt)

all_zeros_shut : (k n : ℕ) → 0 < n → AreShut (replicate k (replicate n 0))
all_zeros_shut zero n lt = tt
all_zeros_shut (suc k) n lt = (zeros_shut n lt, all_zeros_shut k n lt)

abbrev layout_if : Bool → Layout
layout_if b = if b then Two else One

layout_kind : (layout : Layout) (a : Action)
    → layout_if (is_within 17 19 (kind_base layout + action_kind a)) ≡ layout
layout_kind One Nothing = refl
layout_kind One (Remove tid) = refl
layout_kind One (Set tid version content start size name mime) = refl
layout_kind Two Nothing = refl
layout_kind Two (Remove tid) = refl
layout_kind Two (Set tid version content start size name mime) = refl

few_slots : (layout : Layout) (g : Geometry) → 0 < slot_count layout g
few_slots One g = omega arith
few_slots Two g = omega arith

half_some : (g : Geometry) → 2 ≤ half_size g
half_some g = omega arith

module _ (g : Geometry) (half : ℕ) (layout : Layout) (given : List Record)
    (few : length given ≤ slot_count layout g)
    (b : List ℕ) (has : HasSlots g half layout given (slot_count layout g) b) where
  abbrev size : ℕ
  size = slot_size layout

  abbrev written : List Record → List (List ℕ)
  written records = map (bytes_of_slot layout) records

  abbrev behind : List (List ℕ)
  behind = replicate (slot_count layout g - length given) (replicate size 0)

  written_length : length (written given) ≡ length given
  written_length = length-map given (bytes_of_slot layout)

  place_is : (i : ℕ) → i < slot_count layout g
      → get_or (written given ++ behind) i [] ≡ slot_from layout (slice_get given i)
  place_is i lt = elim (slice_get_cases given i).1 [
    | inl at ↦
        get_or_append_left (written given) behind [] i (omega (arith, at.1, written_length))
        ∙ get_or-map (bytes_of_slot layout) given i at.0 [] at.1 ∙ ap (bytes_of_slot layout) at.3
        ∙ sym (ap (slot_from layout) at.2)
    | inr past ↦
        get_or-append_right (written given) behind (length given) i [] written_length past.0
        ∙ get_or-replicate (slot_count layout g - length given) (i - length given)
        (replicate size 0) [] (omega (arith, lt, past.0))
        ∙ sym (ap (slot_from layout) past.1)
  ]

  filled : slots g layout (half_at g half b) ≡ written given ++ behind
  filled =
      let same : length (slots g layout (half_at g half b)) ≡ length (written given ++ behind) =
      omega (
        arith,
        few,
        length-slots_in size (slot_count layout g) (half_at g half b),
        length-append (written given) behind,
        written_length,
        length-replicate (slot_count layout g - length given) (replicate {A = ℕ} size 0),
      ) in
      ext_get_or [] (slots g layout (half_at g half b)) (written given ++ behind) same (λ i lt.
      let within : i < slot_count layout g =
      omega (arith, lt, length-slots_in size (slot_count layout g) (half_at g half b)) in
      slot_of_place size (slot_count layout g) (half_at g half b) i within
      ∙ part_of_half (half_start g half) (half_size g) (i * size) size b
      (slot_fits g layout i within)
      ∙ (has i within).0 ∙ sym (place_is i within))

  -- the open slots in front of a filled half are its records', and its gates are clean
  pub filled_half : (take_while is_open (slots g layout (half_at g half b)) ≡ written given)
      × (are_gates_clean (slots g layout (half_at g half b)) ≡ true)
  filled_half = clean_of (slots g layout (half_at g half b)) (written given) behind filled
      (written_open layout given)
      (all_zeros_shut (slot_count layout g - length given) size (omega
      (arith, slot_longer_than_gate layout)))

  -- a filled half reads as the records it was filled with
  pub filled_reads : records_in (read_slot g layout) 0
      (take_while is_open (slots g layout (half_at g half b))) ≡ Ok given
  filled_reads =
      ap (λ l. records_in (read_slot g layout) 0 l) filled_half.0
      ∙ all_read g layout given 0 (λ i lt. (has i (omega (arith, lt, few))).1)

none_of : (k : ℕ) → 0 * k ≡ 0
none_of k = omega arith

-- the layout of a half is told by its first slot
pub filled_layout : (g : Geometry) (half : ℕ) (layout : Layout) (given : List Record)
    → 0 < length given
    → (b : List ℕ) → HasSlots g half layout given (slot_count layout g) b
    → layout_of (half_at g half b) ≡ layout
filled_layout g half layout [] some b has = absurd (omega (arith, some))
filled_layout g half layout (r ∷ given) some b has =
    let st : ℕ = half_start g half in
    let size : ℕ = slot_size layout in
    let first : take size (drop st b) ≡ bytes_of_slot layout r =
    ap (λ k. take size (drop k b)) (sym (ap (λ z. st + z) (none_of size) ∙ add-zero st))
    ∙ (has 0 (few_slots layout g)).0 in
    let byte : (k : ℕ) → k < 2
    → get_or (half_at g half b) k 0 ≡ get_or (bytes_of_slot layout r) k 0 =
    λ k lt. byte_of_half st (half_size g) k b (omega (arith, lt, half_some g))
    ∙ sym (get_or-drop st b k 0)
    ∙ sym (get_or-take size (drop st b) k 0 (omega (arith, lt, slot_longer_than_gate layout)))
    ∙ ap (λ l. get_or l k 0) first in
    ap (λ x. layout_if ((x == 0xA5) && is_within 17 19 (slice_index (half_at g half b) 1)))
    (byte 0 (omega arith) ∙ written_gate layout r)
    ∙ ap (λ y. layout_if (is_within 17 19 y)) (byte 1 (omega arith) ∙ second_byte layout r)
    ∙ layout_kind layout r.action

module _ (j : JournalView) (two_halves : j.half ≤ 1) (records given : List Record) (layout : Layout)
    (some : 0 < length given) (few : length given ≤ slot_count layout j.geometry)
    (fold : IsOk (catalogue_of j.geometry.objects given))
    (b : List ℕ) (parts : HasParts j records b)
    (has : HasSlots j.geometry (1 - j.half) layout given (slot_count layout j.geometry) b)
    (c : List ℕ) (agree : AgreeOutside 8 1 b c) where
  same_half : (h : ℕ) → half_at j.geometry h c ≡ half_at j.geometry h b
  same_half h =
      ap (λ l. take (half_size j.geometry) l)
      (drop_behind 8 1 b c agree (half_start j.geometry h)
      (omega (arith, half_begins j.geometry h)))

  -- a change of the selector leaves the data area
  pub area_beside_selector : area_of j.geometry c ≡ area_of j.geometry b
  area_beside_selector =
      drop_behind 8 1 b c agree (area_start j.geometry) (omega (arith, half_begins j.geometry 2))

  geometry_now : geometry_of c ≡ Some j.geometry
  geometry_now = geometry_beside_selector b c agree ∙ parts.geometry

  pub old_half : selected_half c ≡ j.half → HasParts j records c
  old_half is = record {
    geometry = geometry_now;
    half = is;
    layout = ap layout_of (same_half j.half) ∙ parts.layout;
    read = ap (λ l. records_in (read_slot j.geometry j.layout) 0
        (take_while is_open (slots j.geometry j.layout l))) (same_half j.half) ∙ parts.read;
    gates = ap (λ l. are_gates_clean (slots j.geometry j.layout l)) (same_half j.half)
        ∙ parts.gates;
    fold = parts.fold;
  }

  -- where the selector names the filled half, the image has the given records in it
  pub new_half : selected_half c ≡ 1 - j.half → HasParts (in_other_half j layout given) given c
  new_half is = record {
    geometry = geometry_now;
    half = is;
    layout = ap layout_of (same_half (1 - j.half))
        ∙ filled_layout j.geometry (1 - j.half) layout given some b has;
    read = ap (λ l. records_in (read_slot j.geometry layout) 0
        (take_while is_open (slots j.geometry layout l))) (same_half (1 - j.half))
        ∙ filled_reads j.geometry (1 - j.half) layout given few b has;
    gates = ap (λ l. are_gates_clean (slots j.geometry layout l)) (same_half (1 - j.half))
        ∙ (filled_half j.geometry (1 - j.half) layout given few b has).1;
    fold = fold;
  }

  -- whatever the selector becomes, the image has the old records or the given ones
  pub either_half : HasParts j records c ⊎ HasParts (in_other_half j layout given) given c
  either_half = ⊎_elim (λ is. inl (old_half is)) (λ is. inr (new_half is))
      (selected_cases c j.half two_halves)
