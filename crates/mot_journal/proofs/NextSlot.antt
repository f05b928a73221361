-- What an image has of a journal when the first closed slot of its half changes.
use Rattle.std.proofs.Common.{◌≡◌, ◌⊎◌, inl, inr, ℕ, zero, suc, ◌+◌, ◌*◌, ◌<◌, ◌≤◌, Bool, true}
use Rattle.std.proofs.Common.{false, ◌&&◌, ◌==◌, List, [], ◌∷◌, ◌++◌, length, take, drop, get_or}
use Rattle.std.proofs.Common.{set, Some, Ok, refl, sym, ◌∙◌, ap, subst, arith, add-zero}
use Rattle.std.proofs.Common.{append_assoc, if◌then◌else◌}
use Rattle.std.specs.Prelude.{slice_index, take_while, IsOk}
use Rattle.std.proofs.lemmas.Bool.{cases_eq, cases_lt}
use Rattle.std.proofs.lemmas.List.{ext_get_or, length-take, length-drop, get_or-take, get_or-drop}
use Rattle.std.proofs.lemmas.List.{length-set, set_split, get_or-set_other}
use Rattle.std.proofs.lemmas.Grind.{get_or-set_at}
use Rattle.disk_model.specs.Disk.{AgreeOutside}
use Rattle.mot_journal.specs.declared.layout.Layout.{Layout}
use Rattle.mot_journal.specs.declared.layout.Layout.TheVariants.{One, Two}
use Rattle.mot_journal.specs.declared.record.Record.{Record}
use Rattle.mot_journal.specs.declared.record.Action.{Action}
use Rattle.mot_journal.specs.declared.record.Action.TheVariants.{Nothing, Set, Remove}
use Rattle.mot_journal.specs.Geometry.{geometry_of, selected_half}
use Rattle.mot_journal.specs.Slot.{is_open, layout_of, read_slot, slot_size, slot_count}
use Rattle.mot_journal.specs.Slot.{bytes_of_slot, kind_base, action_kind}
use Rattle.mot_journal.specs.Image.{catalogue_of, records_in, area_of}
use Rattle.mot_journal.specs.Journal.{JournalView}
use Rattle.mot_journal.specs.Inner.Steps.{start_of_slot}
use Rattle.mot_journal.proofs.Laws.{drop_behind, part, geometry_stays, half_selected_stays}
use Rattle.mot_journal.proofs.OpenSlots.{AreShut, IsSplit, split_at, clean_of, length_read}
use Rattle.mot_journal.proofs.OpenSlots.{shut_from}
use Rattle.mot_journal.proofs.Parts.{half_at, slots_at, HasParts}
use Rattle.mot_journal.proofs.Records.{are_open_more, records_more}
use Rattle.mot_journal.proofs.Slots.{slot_of_place, length-slots_in}
use Rattle.mot_journal.proofs.Written.{written_is_open}
use Rattle.mot_numbers.specs.declared.geometry.Geometry.{Geometry}
use Rattle.mot_numbers.specs.Geometry.{half_size, half_start, area_start, is_within}
use Rattle.std.proofs.Math.Bool.{and-false}

-- a slot of a half is a part of the image
pub part_of_half : (st hs p size : ℕ) (x : List ℕ) → p + size ≤ hs
    → take size (drop p (take hs (drop st x))) ≡ take size (drop (st + p) x)
part_of_half st hs p size x fits =
    let near : List ℕ = take size (drop p (take hs (drop st x))) in
    let far : List ℕ = take size (drop (st + p) x) in
    let same : length near ≡ length far =
    omega (
      arith,
      fits,
      length-take size (drop p (take hs (drop st x))),
      length-drop p (take hs (drop st x)),
      length-take hs (drop st x),
      length-drop st x,
      length-take size (drop (st + p) x),
      length-drop (st + p) x,
    ) in
    ext_get_or 0 near far same (λ i lt.
    let below : i < size = omega (arith, lt, length-take size (drop p (take hs (drop st x)))) in
    let place : st + (p + i) ≡ st + p + i = omega arith in
    get_or-take size (drop p (take hs (drop st x))) i 0 below
    ∙ get_or-drop p (take hs (drop st x)) i 0
    ∙ get_or-take hs (drop st x) (p + i) 0 (omega (arith, below, fits)) ∙ get_or-drop st x (p + i) 0
    ∙ ap (λ k. get_or x k 0) place ∙ sym (get_or-drop (st + p) x i 0)
    ∙ sym (get_or-take size (drop (st + p) x) i 0 below))

-- a byte of a half is one of the image
pub byte_of_half : (st hs k : ℕ) (x : List ℕ) → k < hs
    → get_or (take hs (drop st x)) k 0 ≡ get_or x (st + k) 0
byte_of_half st hs k x lt = get_or-take hs (drop st x) k 0 lt ∙ get_or-drop st x k 0

-- a slot's gate is the byte at its place
pub gate_at : (size place : ℕ) (x : List ℕ) → 0 < size
    → slice_index (take size (drop place x)) 0 ≡ get_or x place 0
gate_at size place x lt =
    let same : place + 0 ≡ place = omega arith in
    get_or-take size (drop place x) 0 0 lt ∙ get_or-drop place x 0 0 ∙ ap (λ k. get_or x k 0) same

-- each slot of a half lies within it
pub slot_fits : (g : Geometry) (layout : Layout) (i : ℕ) → i < slot_count layout g
    → i * slot_size layout + slot_size layout ≤ half_size g
slot_fits g One i lt = omega (arith, lt)
slot_fits g Two i lt = omega (arith, lt)

-- a slot ends before a later one begins
pub slots_apart : (layout : Layout) (i n : ℕ) → i < n
    → i * slot_size layout + slot_size layout ≤ n * slot_size layout
slots_apart One i n lt = omega (arith, lt)
slots_apart Two i n lt = omega (arith, lt)

-- a slot has more bytes than its gate
pub slot_longer_than_gate : (layout : Layout) → 2 ≤ slot_size layout
slot_longer_than_gate One = omega arith
slot_longer_than_gate Two = omega arith

behind_first : (layout : Layout) (n : ℕ) → 0 < n → 2 ≤ n * slot_size layout
behind_first One n lt = omega (arith, lt)
behind_first Two n lt = omega (arith, lt)

-- each half ends before the data area
pub half_ends : (g : Geometry) (half : ℕ) → half ≤ 1
    → half_start g half + half_size g ≤ area_start g
half_ends g zero le = omega arith
half_ends g (suc zero) le = omega arith
half_ends g (suc (suc half)) le = absurd (omega (arith, le))

-- a half begins behind the head
pub half_begins : (g : Geometry) (half : ℕ) → 64 ≤ half_start g half
half_begins g half = below (half * half_size g)
  where
    below : (n : ℕ) → 64 ≤ 64 + n
    below n = omega arith

none_of : (k : ℕ) → 0 * k ≡ 0
none_of k = omega arith

abbrev layout_if : Bool → Layout
layout_if b = if b then Two else One

layout_shut : (half : List ℕ) → is_open half ≡ false → layout_of half ≡ One
layout_shut half e = ap (λ b. layout_if (b && is_within 17 19 (slice_index half 1))) e

first_kind : (a : Action) → is_within 17 19 (kind_base One + action_kind a) ≡ false
first_kind Nothing = refl
first_kind (Remove tid) = refl
first_kind (Set tid version content start size name mime) = refl

-- the second byte of a record's slot is its kind, by the numbers of its layout
pub second_byte : (layout : Layout) (r : Record)
    → get_or (bytes_of_slot layout r) 1 0 ≡ kind_base layout + action_kind r.action
unfolding bytes_of_slot
second_byte layout r = refl

module _ (j : JournalView) (records : List Record) (d c : List ℕ) (parts : HasParts j records d)
    (count : j.count ≡ length records) (room : j.count < slot_count j.layout j.geometry)
    (two_halves : j.half ≤ 1)
    (agree : AgreeOutside (start_of_slot j j.count) (slot_size j.layout) d c) where
  abbrev g : Geometry
  g = j.geometry

  abbrev n : ℕ
  n = j.count

  abbrev size : ℕ
  size = slot_size j.layout

  abbrev st : ℕ
  st = half_start g j.half

  abbrev place : ℕ
  place = start_of_slot j n

  -- the slot that changes
  abbrev pub changed_slot : List ℕ
  changed_slot = take size (drop place c)

  slot_at : (x : List ℕ) (i : ℕ) → i < slot_count j.layout g
      → get_or (slots_at j x) i [] ≡ take size (drop (st + i * size) x)
  slot_at x i lt =
      slot_of_place size (slot_count j.layout g) (half_at g j.half x) i lt
      ∙ part_of_half st (half_size g) (i * size) size x (slot_fits g j.layout i lt)

  slot_length : (x : List ℕ) → length (slots_at j x) ≡ slot_count j.layout g
  slot_length x = length-slots_in size (slot_count j.layout g) (half_at g j.half x)

  other_slot : (i : ℕ) → i < slot_count j.layout g → (i ≡ n → ⊥)
      → get_or (slots_at j c) i [] ≡ get_or (slots_at j d) i []
  other_slot i lt ne =
      let here : take size (drop (st + i * size) c) ≡ take size (drop (st + i * size) d) =
      elim (cases_lt i n) [
        | inl before ↦ part place size d c agree (st + i * size) size
            (omega (arith, slots_apart j.layout i n before))
        | inr past ↦
            let more : n < i = omega (arith, past, ne) in
            ap (λ l. take size l) (drop_behind place size d c agree (st + i * size)
            (omega (arith, slots_apart j.layout n i more)))
      ] in
      slot_at c i lt ∙ here ∙ sym (slot_at d i lt)

  slots_set : slots_at j c ≡ set (slots_at j d) n changed_slot
  slots_set =
      let same : length (slots_at j c) ≡ length (set (slots_at j d) n changed_slot) =
      slot_length c ∙ sym (length-set (slots_at j d) n changed_slot ∙ slot_length d) in
      ext_get_or [] (slots_at j c) (set (slots_at j d) n changed_slot) same (λ i lt.
      let within : i < slot_count j.layout g = omega (arith, lt, slot_length c) in
      elim (cases_eq i n) [
        | inl is ↦
            slot_at c i within ∙ ap (λ k. take size (drop (st + k * size) c)) is
            ∙ sym (get_or-set_at (slots_at j d) n i changed_slot [] is
            (omega (arith, room, slot_length d)))
        | inr ne ↦ other_slot i within ne
            ∙ sym (get_or-set_other (slots_at j d) n i changed_slot [] ne)
      ])

  abbrev front : List (List ℕ)
  front = take n (slots_at j d)

  abbrev back : List (List ℕ)
  back = drop (suc n) (slots_at j d)

  inside : n < length (slots_at j d)
  inside = omega (arith, room, slot_length d)

  slots_now : slots_at j c ≡ front ++ changed_slot ∷ back
  slots_now = slots_set ∙ set_split (slots_at j d) n changed_slot inside

  was_split : IsSplit n (slots_at j d)
  was_split = split_at n (slots_at j d)
      (length_read (read_slot g j.layout) 0 (take_while is_open (slots_at j d)) records parts.read
      ∙ sym count) parts.gates

  was_shut : (is_open (get_or (slots_at j d) n []) ≡ false) × AreShut back
  was_shut = shut_from (slots_at j d) n inside was_split.back

  slot_is : get_or (slots_at j d) n [] ≡ take size (drop place d)
  slot_is = slot_at d n room

  some : 0 < size
  some = omega (arith, slot_longer_than_gate j.layout)

  -- before the change the gate is closed
  pub gate_was_shut : is_open (take size (drop place d)) ≡ false
  gate_was_shut = subst (λ l. is_open l ≡ false) slot_is was_shut.0

  far : half_start g j.half + half_size g ≤ area_start g
  far = half_ends g j.half two_halves

  -- the slot behind the last record ends before the data area
  pub slot_within : place + size ≤ area_start g
  slot_within = omega (arith, far, slot_fits g j.layout n room)

  begins : 64 ≤ place
  begins = omega (arith, half_begins g j.half)

  -- a change of that slot leaves the data area
  pub same_area : area_of g c ≡ area_of g d
  same_area = drop_behind place size d c agree (area_start g) slot_within

  geometry_is : geometry_of c ≡ Some g
  geometry_is = geometry_stays place size d c agree begins ∙ parts.geometry

  half_is : selected_half c ≡ j.half
  half_is = half_selected_stays place size d c agree begins ∙ parts.half

  two_bytes : 2 ≤ half_size g
  two_bytes = omega arith

  byte_stays : (k : ℕ) → k < 2 → 0 < n
      → get_or (half_at g j.half c) k 0 ≡ get_or (half_at g j.half d) k 0
  byte_stays k lt more =
      let low : k < half_size g = omega (arith, lt, two_bytes) in
      byte_of_half st (half_size g) k c low
      ∙ agree.before (st + k) (omega (arith, lt, behind_first j.layout n more))
      ∙ sym (byte_of_half st (half_size g) k d low)

  layout_later : 0 < n → layout_of (half_at g j.half c) ≡ j.layout
  layout_later more =
      ap (λ x. layout_if ((x == 0xA5) && is_within 17 19 (slice_index (half_at g j.half c) 1)))
      (byte_stays 0 (omega arith) more)
      ∙ ap (λ y. layout_if ((slice_index (half_at g j.half d) 0 == 0xA5) && is_within 17 19 y))
      (byte_stays 1 (omega arith) more)
      ∙ parts.layout

  -- the first slot's bytes are those of the half
  first_gate : n ≡ 0 → (x : List ℕ)
      → slice_index (take size (drop place x)) 0 ≡ slice_index (half_at g j.half x) 0
  first_gate none x =
      let at : place ≡ st + 0 = ap (λ k. st + k * size) none ∙ ap (λ z. st + z) (none_of size) in
      gate_at size place x some ∙ ap (λ k. get_or x k 0) at
      ∙ sym (byte_of_half st (half_size g) 0 x (omega (arith, two_bytes)))

  first_layout : n ≡ 0 → j.layout ≡ One
  first_layout none =
      let gate : is_open (half_at g j.half d) ≡ false =
      sym (ap (λ b. b == 0xA5) (first_gate none d)) ∙ gate_was_shut in
      sym parts.layout ∙ layout_shut (half_at g j.half d) gate

  is_zero : (k : ℕ) → (k ≡ 0) ⊎ (0 < k)
  is_zero zero = inl refl
  is_zero (suc k) = inr (omega arith)

  -- the gate stays closed, and so do the records
  pub stays_closed : is_open changed_slot ≡ false → HasParts j records c
  stays_closed closed =
      let now = clean_of (slots_at j c) front (changed_slot ∷ back) slots_now was_split.front
      (closed, was_shut.1) in
      let layout : layout_of (half_at g j.half c) ≡ j.layout = elim (is_zero n) [
        | inl none ↦
            let gate : is_open (half_at g j.half c) ≡ false =
            sym (ap (λ b. b == 0xA5) (first_gate none c)) ∙ closed in
            layout_shut (half_at g j.half c) gate ∙ sym (first_layout none)
        | inr more ↦ layout_later more
      ] in
      record {
        geometry = geometry_is;
        half = half_is;
        layout = layout;
        read = ap (λ l. records_in (read_slot g j.layout) 0 l) (now.0 ∙ sym was_split.front_is)
            ∙ parts.read;
        gates = now.1;
        fold = parts.fold;
      }

  module _ (r : Record) (is : changed_slot ≡ bytes_of_slot j.layout r) where
    open_now : is_open changed_slot ≡ true
    open_now = ap is_open is ∙ written_is_open j.layout r

    kind_now : n ≡ 0 → slice_index (half_at g j.half c) 1 ≡ kind_base One + action_kind r.action
    kind_now none =
        let at : place + 1 ≡ st + 1 =
        ap (λ k. st + k * size + 1) none ∙ ap (λ z. st + z + 1) (none_of size)
        ∙ ap (λ z. z + 1) (add-zero st) in
        byte_of_half st (half_size g) 1 c (omega (arith, two_bytes))
        ∙ sym (ap (λ k. get_or c k 0) at)
        ∙ sym (get_or-drop place c 1 0)
        ∙ sym (get_or-take size (drop place c) 1 0
        (omega (arith, slot_longer_than_gate j.layout)))
        ∙ ap (λ l. get_or l 1 0) is ∙ second_byte j.layout r
        ∙ ap (λ y. kind_base y + action_kind r.action) (first_layout none)

    layout_open : n ≡ 0 → layout_of (half_at g j.half c) ≡ j.layout
    layout_open none =
        let gate : Bool = is_open (half_at g j.half c) in
        ap (λ k. layout_if (gate && is_within 17 19 k)) (kind_now none)
        ∙ ap (λ b. layout_if (gate && b)) (first_kind r.action) ∙ ap layout_if (and-false gate)
        ∙ sym (first_layout none)

    -- the gate opens, and the record comes to the others
    pub opens : read_slot g j.layout (bytes_of_slot j.layout r) ≡ Some r
        → IsOk (catalogue_of g.objects (records ++ r ∷ []))
        → HasParts j (records ++ r ∷ []) c
    opens reads fold =
        let all : slots_at j c ≡ (front ++ changed_slot ∷ []) ++ back =
        slots_now ∙ sym (append_assoc front (changed_slot ∷ []) back) in
        let now = clean_of (slots_at j c) (front ++ changed_slot ∷ []) back all
        (are_open_more front changed_slot was_split.front open_now) was_shut.1 in
        let before : records_in (read_slot g j.layout) 0 front ≡ Ok records =
        sym (ap (λ l. records_in (read_slot g j.layout) 0 l) was_split.front_is) ∙ parts.read in
        record {
          geometry = geometry_is;
          half = half_is;
          layout = elim (is_zero n) [ inl none ↦ layout_open none | inr more ↦ layout_later more ];
          read = ap (λ l. records_in (read_slot g j.layout) 0 l) now.0
              ∙ records_more (read_slot g j.layout) 0 front changed_slot records r before
              (ap (read_slot g j.layout) is ∙ reads);
          gates = now.1;
          fold = fold;
        }
