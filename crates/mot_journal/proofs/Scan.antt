-- The gates of a half, piece by piece, and those of a piece, one after the other.
use Rattle.std.proofs.Common.{◌≡◌, inl, inr, ℕ, zero, suc, ◌+◌, ◌-◌, ◌*◌, ◌/◌, ◌<◌, ◌≤◌, min, Bool}
use Rattle.std.proofs.Common.{true, false, not, ◌&&◌, ◌==◌, List, [], ◌∷◌, ◌++◌, length, take, drop}
use Rattle.std.proofs.Common.{get_or, Option, Some, None, refl, sym, ◌∙◌, ap, arith, if◌then◌else◌}
use Rattle.std.proofs.Common.{add-one}
use Rattle.std.specs.Prelude.{take_while, is_some, slice_range}
use Rattle.std.specs.List.{list_all}
use Rattle.std.proofs.lemmas.Bool.{cases_Bool}
use Rattle.std.proofs.Math.Seq.{drop-cons}
use Rattle.std.proofs.lemmas.List.{drop_all, drop-drop, drop-take, take-take}
use Rattle.std.proofs.lemmas.List.Sums.{take_while-cons}
use Rattle.std.proofs.lemmas.Grind.{div_ceil_times}
use Rattle.std.proofs.lemmas.Nat.{div-mul-add}
use Rattle.mot_journal.specs.declared.layout.Layout.{Layout}
use Rattle.mot_journal.specs.declared.layout.Layout.TheVariants.{One, Two}
use Rattle.mot_journal.specs.Slot.{is_open, slot_size, slot_count}
use Rattle.mot_journal.specs.Image.{are_gates_clean, gate_reads, slots_in}
use Rattle.mot_journal.specs.Inner.Steps.{scan}
use Rattle.mot_journal.proofs.Fill.{range_whole}
use Rattle.mot_journal.proofs.NextSlot.{part_of_half, gate_at, slot_longer_than_gate}
use Rattle.mot_journal.proofs.Slots.{slot_of_place, length-slots_in, times-suc}
use Rattle.mot_numbers.specs.Reading.{◌>>=◌}
use Rattle.mot_numbers.specs.declared.geometry.Geometry.{Geometry}
use Rattle.mot_numbers.specs.Geometry.{half_size, half_start}

-- what the gates give where one is open behind a closed one
abbrev pub none : Option Bool
none = None

abbrev closed : List ℕ → Bool
closed slot = not (is_open slot)

-- what is behind a closed gate
scan-shut : (slots : List (List ℕ)) → is_some (scan true slots) ≡ list_all closed slots
scan-shut [] = refl
scan-shut (slot ∷ slots) = step (is_open slot) (scan-shut slots)
  where
    step : (b : Bool) → is_some (scan true slots) ≡ list_all closed slots
        → is_some (if b && true then none else scan (not b) slots)
        ≡ (not b && list_all closed slots)
    step true e = refl
    step false e = e

-- the gates are clean where the scan of them does not end early
pub scan_is_clean : (slots : List (List ℕ)) → is_some (scan false slots) ≡ are_gates_clean slots
scan_is_clean [] = refl
scan_is_clean (slot ∷ slots) = elim (cases_Bool (is_open slot)) [
  | inl is ↦
      let now : take_while is_open (slot ∷ slots) ≡ slot ∷ take_while is_open slots =
      take_while-cons is_open slot slots
      ∙ ap (λ (b : Bool). if b then slot ∷ take_while is_open slots else []) is in
      ap (λ (b : Bool). is_some (if b && false then none else scan (not b) slots)) is
      ∙ scan_is_clean slots ∙ sym (ap (λ l. list_all closed (drop (length l) (slot ∷ slots))) now)
  | inr isnt ↦
      let now : take_while is_open (slot ∷ slots) ≡ [] =
      take_while-cons is_open slot slots
      ∙ ap (λ (b : Bool). if b then slot ∷ take_while is_open slots else []) isnt in
      ap (λ (b : Bool). is_some (if b && false then none else scan (not b) slots)) isnt
      ∙ scan-shut slots ∙ sym (ap (λ b. not b && list_all closed slots) isnt)
      ∙ sym (ap (λ l. list_all closed (drop (length l) (slot ∷ slots))) now)
]

-- slots are scanned from where those before them end
scan-append : (shut : Bool) (xs ys : List (List ℕ))
    → scan shut (xs ++ ys) ≡ (scan shut xs >>= λ s. scan s ys)
scan-append shut [] ys = refl
scan-append shut (slot ∷ xs) ys =
    step (is_open slot && shut) (scan-append (not (is_open slot)) xs ys)
  where
    step : (b : Bool) → scan (not (is_open slot)) (xs ++ ys)
        ≡ (scan (not (is_open slot)) xs >>= λ s. scan s ys)
        → (if b then none else scan (not (is_open slot)) (xs ++ ys))
        ≡ ((if b then none else scan (not (is_open slot)) xs) >>= λ s. scan s ys)
    step true e = refl
    step false e = e

module _ (size n : ℕ) (bytes : List ℕ) where
  -- one gate more
  pub next_gate : (shut : Bool) (i : ℕ) → 0 < size → i < n
      → scan shut (drop i (slots_in size n bytes))
      ≡ (if (get_or bytes (i * size) 0 == 0xA5) && shut then none
      else scan (not (get_or bytes (i * size) 0 == 0xA5)) (drop (i + 1) (slots_in size n bytes)))
  next_gate shut i some lt =
      let slots : List (List ℕ) = slots_in size n bytes in
      let inside : i < length slots = omega (arith, lt, length-slots_in size n bytes) in
      let gate : is_open (get_or slots i []) ≡ (get_or bytes (i * size) 0 == 0xA5) =
      ap is_open (slot_of_place size n bytes i lt)
      ∙ ap (λ b. b == 0xA5) (gate_at size (i * size) bytes some) in
      ap (scan shut) (drop-cons slots i [] inside)
      ∙ ap (λ (b : Bool). if b && shut then none else scan (not b) (drop (suc i) slots)) gate
      ∙ ap (λ k. if (get_or bytes (i * size) 0 == 0xA5) && shut then none
      else scan (not (get_or bytes (i * size) 0 == 0xA5)) (drop k slots))
      (sym (add-one i))

  -- behind the last slot, the scan gives what it found before
  pub scan_ends : (shut : Bool) (i : ℕ) → n ≤ i
      → scan shut (drop i (slots_in size n bytes)) ≡ Some shut
  scan_ends shut i le = ap (scan shut)
      (drop_all i (slots_in size n bytes) (omega (arith, le, length-slots_in size n bytes)))

slots-append : (size n m : ℕ) (bytes : List ℕ)
    → slots_in size (n + m) bytes ≡ slots_in size n bytes ++ slots_in size m (drop (n * size) bytes)
slots-append size zero m bytes =
    let count : zero + m ≡ m = omega arith in
    let place : 0 ≡ 0 * size = omega arith in
    ap (λ k. slots_in size k bytes) count ∙ ap (λ k. slots_in size m (drop k bytes)) place
slots-append size (suc n) m bytes =
    let count : suc n + m ≡ suc (n + m) = omega arith in
    ap (λ k. slots_in size k bytes) count
    ∙ ap (λ l. take size bytes ∷ l) (slots-append size n m (drop size bytes))
    ∙ ap (λ l. take size bytes ∷ (slots_in size n (drop size bytes) ++ slots_in size m l))
    (drop-drop (n * size) size bytes)
    ∙ ap (λ k. take size bytes
    ∷ (slots_in size n (drop size bytes) ++ slots_in size m (drop k bytes))) (times-suc n size)

slots-take : (size n : ℕ) (bytes : List ℕ)
    → slots_in size n (take (n * size) bytes) ≡ slots_in size n bytes
slots-take size zero bytes = refl
slots-take size (suc n) bytes =
    let front : List ℕ = take (size + n * size) bytes in
    ap (λ k. slots_in size (suc n) (take k bytes)) (sym (times-suc n size))
    ∙ ap (λ l. l ∷ slots_in size n (drop size front))
    (take-take size (size + n * size) bytes (omega arith))
    ∙ ap (λ l. take size bytes ∷ slots_in size n l) (drop-take size (n * size) bytes)
    ∙ ap (λ l. take size bytes ∷ l) (slots-take size n (drop size bytes))

-- the slots of a piece
abbrev pub in_piece : Layout → ℕ
in_piece One = 16
in_piece Two = 8

-- n is whole slots of this size: the q that are in the piece, or all of the half's that are left
record IsWhole (size count left rest n q : ℕ) : Type 0 where
  bytes : n ≡ q * size
  slots : left ≡ q + rest
  last : 0 < rest → n ≡ 4096

whole_slots : (g : Geometry) (layout : Layout) (k n : ℕ) → n ≡ min 4096 (half_size g - k * 4096)
    → (q : ℕ)
    × IsWhole (slot_size layout) (slot_count layout g) (slot_count layout g - k * in_piece layout)
    (slot_count layout g - (k + 1) * in_piece layout) n q
whole_slots g One k n is = (
  min 16 (2 * g.objects + 4 - k * 16),
  record { bytes = omega (arith, is); slots = omega arith; last = λ some. omega (arith, is, some) },
)
whole_slots g Two k n is = (
  min 8 (g.objects + 2 - k * 8),
  record { bytes = omega (arith, is); slots = omega arith; last = λ some. omega (arith, is, some) },
)

whole_count : (size n q : ℕ) → 0 < size → n ≡ q * size → n / size ≡ q
whole_count size n q some is =
    let more : n ≡ q * size + 0 = omega (arith, is) in
    ap (λ k. k / size) more ∙ div-mul-add q size 0 some

behind : (size rest n k : ℕ) (half : List ℕ) → (0 < rest → n ≡ 4096)
    → slots_in size rest (drop n (drop (k * 4096) half))
    ≡ slots_in size rest (drop ((k + 1) * 4096) half)
behind size zero n k half last = refl
behind size (suc rest) n k half last =
    let full : n ≡ 4096 = last (omega arith) in
    let place : k * 4096 + n ≡ (k + 1) * 4096 = omega (arith, full) in
    ap (slots_in size (suc rest)) (drop-drop n (k * 4096) half ∙ ap (λ p. drop p half) place)

piece_starts : (g : Geometry) (k : ℕ) → k < gate_reads g → k * 4096 < half_size g
piece_starts g k lt = let all = div_ceil_times (half_size g) 4096 (omega arith) in
    omega (arith, all.1, lt)

module _ (g : Geometry) (half : ℕ) (layout : Layout) (image : List ℕ) where
  abbrev bytes_of_half : List ℕ
  bytes_of_half = take (half_size g) (drop (half_start g half) image)

  -- the slots from a piece on
  abbrev pub slots_from : ℕ → List (List ℕ)
  slots_from k = slots_in (slot_size layout) (slot_count layout g - k * in_piece layout)
      (drop (k * 4096) bytes_of_half)

  -- the slots of a piece that is read come first
  next_piece : (k n : ℕ) (read : List ℕ) → k * 4096 < half_size g
      → n ≡ min 4096 (half_size g - k * 4096)
      → read ≡ slice_range image (half_start g half + k * 4096) (half_start g half + k * 4096 + n)
      → slots_from k ≡ slots_in (slot_size layout) (n / slot_size layout) read ++ slots_from (k + 1)
  next_piece k n read lt is has =
      let size : ℕ = slot_size layout in
      let rest : ℕ = slot_count layout g - (k + 1) * in_piece layout in
      let from : List ℕ = drop (k * 4096) bytes_of_half in
      let q : ℕ = (whole_slots g layout k n is).0 in
      let whole = (whole_slots g layout k n is).1 in
      let within : k * 4096 + n ≤ half_size g = omega (arith, lt, is) in
      let same : read ≡ take n from =
      has ∙ range_whole (half_start g half + k * 4096) n image
      ∙ sym (part_of_half (half_start g half) (half_size g) (k * 4096) n image within) in
      let front : slots_in size q read ≡ slots_in size q from =
      ap (slots_in size q) (same ∙ ap (λ p. take p from) whole.bytes) ∙ slots-take size q from in
      ap (λ m. slots_in size m from) whole.slots ∙ slots-append size q rest from
      ∙ ap (λ l. l ++ slots_in size rest (drop (q * size) from)) (sym front)
      ∙ ap (λ p. slots_in size q read ++ slots_in size rest (drop p from)) (sym whole.bytes)
      ∙ ap (λ l. slots_in size q read ++ l) (behind size rest n k bytes_of_half whole.last)
      ∙ ap (λ m. slots_in size m read ++ slots_from (k + 1))
      (sym (whole_count size n q (omega (arith, slot_longer_than_gate layout)) whole.bytes))

  -- what the scan of a piece that is read says of all slots from it on
  pub scanned_on : (shut : Bool) (k n long : ℕ) (read now : List ℕ) (told : Option Bool)
      (size at : ℕ)
      → k < gate_reads g → size ≡ half_size g → n ≡ min 4096 (size - k * 4096)
      → at ≡ half_start g half → now ≡ image
      → read ≡ slice_range now (at + k * 4096) (at + k * 4096 + long) → long ≡ n → length read ≡ n
      → told ≡ scan shut (slots_in (slot_size layout) (length read / slot_size layout) read)
      → scan shut (slots_from k) ≡ (told >>= λ s. scan s (slots_from (k + 1)))
  scanned_on shut k n long read now told size at lt whole is start same has all length_is said =
      let width : ℕ = slot_size layout in
      let count : n ≡ min 4096 (half_size g - k * 4096) =
      is ∙ ap (λ h. min 4096 (h - k * 4096)) whole in
      let bytes : read ≡ slice_range image (half_start g half + k * 4096)
      (half_start g half + k * 4096 + n) =
      has ∙ ap (λ l. slice_range l (at + k * 4096) (at + k * 4096 + long)) same
      ∙ ap (λ p. slice_range image (p + k * 4096) (p + k * 4096 + long)) start
      ∙ ap (λ m. slice_range image (half_start g half + k * 4096)
      (half_start g half + k * 4096 + m)) all in
      ap (scan shut) (next_piece k n read (piece_starts g k lt) count bytes)
      ∙ scan-append shut (slots_in width (n / width) read) (slots_from (k + 1))
      ∙ ap (λ m. scan shut (slots_in width (m / width) read) >>= λ s. scan s (slots_from (k + 1)))
      (sym length_is)
      ∙ ap (λ (o : Option Bool). o >>= λ s. scan s (slots_from (k + 1))) (sym said)

  -- behind the last piece there is none
  pub last_piece : (shut : Bool) (k : ℕ) → gate_reads g ≤ k → scan shut (slots_from k) ≡ Some shut
  last_piece shut k le =
      let none_left : slot_count layout g - k * in_piece layout ≡ 0 = ends layout in
      ap (λ n. scan shut (slots_in (slot_size layout) n (drop (k * 4096) bytes_of_half))) none_left
    where
      ends : (y : Layout) → slot_count y g - k * in_piece y ≡ 0
      ends One = let all = div_ceil_times (half_size g) 4096 (omega arith) in
          omega (arith, all.0, le)
      ends Two = let all = div_ceil_times (half_size g) 4096 (omega arith) in
          omega (arith, all.0, le)
