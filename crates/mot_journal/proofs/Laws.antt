-- The laws of what an image has, for the crates above: its records and gates do not depend on its
-- data area, and a write into a gap of the data area leaves what it stands for.
use Rattle.std.proofs.Common.{◌≡◌, ℕ, ◌+◌, ◌<◌, ◌≤◌, Bool, true, false, List, [], ◌∷◌, length, take}
use Rattle.std.proofs.Common.{drop, Some, None, refl, sym, ◌∙◌, ap, arith, ⊎_elim, ◌-◌, map, get_or}
use Rattle.std.proofs.Common.{Option, Result, Ok, Err, subst}
use Rattle.std.specs.Prelude.{slice_index, ◌==◌, ◌&&◌, nat_le, bytes_eq, if◌then◌else◌, IsOk}
use Rattle.std.proofs.lemmas.List.{ext_get_or, length-take, length-drop, get_or-take, get_or-drop}
use Rattle.std.proofs.lemmas.List.{drop-drop}
use Rattle.disk_model.specs.Disk.{AgreeOutside}
use Rattle.mot_journal.specs.Geometry.{columns, geometry_in, geometry_of, magic, selected_half}
use Rattle.mot_journal.specs.Image.{catalogue_of, half_of, journal_in_half, or_not_formatted}
use Rattle.mot_journal.specs.Image.{records_of, slots_of, has_clean_gates, are_gates_clean}
use Rattle.mot_journal.specs.Image.{DiskRecords, Standing, area_of, rest_of, stands_for, IsClean}
use Rattle.mot_numbers.specs.Refusal.{◌>>=◌ as result_then}
use Rattle.mot_journal.specs.Catalogue.{Placed, Catalogue, body_in_area, carousel_in, extents_of}
use Rattle.mot_journal.specs.declared.layout.Layout.{Layout}
use Rattle.mot_journal.specs.declared.record.Record.{Record}
use Rattle.mot_journal.specs.Slot.{layout_of}
use Rattle.mot_journal.specs.Gaps.{IsBeside, AreBeside, standing_of}
use Rattle.mot_numbers.specs.Reading.{number_in, ◌>>=◌}
use Rattle.mot_numbers.specs.declared.geometry.Geometry.{Geometry}
use Rattle.mot_numbers.specs.Geometry.{half_size, half_start, area_start, length_of, is_valid}
use Rattle.mot_numbers.specs.declared.refusal.Refusal.{Refusal}
use Rattle.mot_objects.specs.Stands.{object_of}
use Rattle.mot_objects.specs.Carousel as whole
-- the longest names of the layouts
pub use Rattle.mot_journal.proofs.Written.{longest_most}

abbrev total : List ℕ → ℕ
total [] = 0
total (width ∷ widths) = width + total widths

module _ (at n : ℕ) (a b : List ℕ) (agree : AgreeOutside at n a b) where
  -- what comes after the range
  pub drop_behind : (s : ℕ) → at + n ≤ s → drop s b ≡ drop s a
  drop_behind s le =
      let same : length (drop s b) ≡ length (drop s a) =
      omega (arith, length-drop s b, length-drop s a, agree.len_is) in
      ext_get_or 0 (drop s b) (drop s a) same (λ i lt.
      get_or-drop s b i 0 ∙ agree.after (s + i) (omega (arith, le)) ∙ sym (get_or-drop s a i 0))

  -- a part before the range
  pub part : (s k : ℕ) → s + k ≤ at → take k (drop s b) ≡ take k (drop s a)
  part s k le =
      let same_length : length (take k (drop s b)) ≡ length (take k (drop s a)) =
      omega (
        arith,
        length-take k (drop s b),
        length-take k (drop s a),
        length-drop s b,
        length-drop s a,
        agree.len_is,
      ) in
      ext_get_or 0 (take k (drop s b)) (take k (drop s a)) same_length (λ i lt.
      let below : i < k = omega (arith, lt, length-take k (drop s b)) in
      get_or-take k (drop s b) i 0 below ∙ get_or-drop s b i 0
      ∙ agree.before (s + i) (omega (arith, below, le))
      ∙ sym (get_or-drop s a i 0) ∙ sym (get_or-take k (drop s a) i 0 below))

  pub columns_stay : (widths : List ℕ) (s : ℕ) → s + total widths ≤ at
      → columns widths (drop s b) ≡ columns widths (drop s a)
  columns_stay [] s le = refl
  columns_stay (width ∷ widths) s le =
      let here = ap number_in (part s width (omega (arith, le))) in
      let rest = columns_stay widths (s + width) (omega (arith, le)) in
      let there = ap (columns widths) (drop-drop width s b) ∙ rest
      ∙ sym (ap (columns widths) (drop-drop width s a)) in
      ap (λ c. c ∷ columns widths (drop width (drop s b))) here
      ∙ ap (λ l. number_in (take width (drop s a)) ∷ l) there

  -- a change behind the head keeps the geometry
  pub geometry_stays : 64 ≤ at → geometry_of b ≡ geometry_of a
  unfolding geometry_of
  geometry_stays le =
      let widths : List ℕ = 8 ∷ 1 ∷ 7 ∷ 2 ∷ 2 ∷ 2 ∷ 2 ∷ 4 ∷ [] in
      let all : total widths ≡ 28 = refl in
      let cols : columns widths b ≡ columns widths a =
      columns_stay widths 0 (omega (arith, le, all)) in
      let name : take 8 b ≡ take 8 a = part 0 8 (omega (arith, le)) in
      ap (λ c. geometry_in c >>= λ g.
      if bytes_eq (take 8 b) magic && is_valid g && nat_le (length_of g) (length b) then Some g
      else None) cols
      ∙ ap (λ m. geometry_in (columns widths a) >>= λ g.
      if bytes_eq m magic && is_valid g && nat_le (length_of g) (length b) then Some g
      else None) name
      ∙ ap (λ n. geometry_in (columns widths a) >>= λ g.
      if bytes_eq (take 8 a) magic && is_valid g && nat_le (length_of g) n then Some g
      else None) agree.len_is

  -- a change behind the head keeps the half that is selected
  pub half_selected_stays : 64 ≤ at → selected_half b ≡ selected_half a
  half_selected_stays le =
      ap (λ byte. if byte == 1 then 1 else 0) (agree.before 8 (omega (arith, le)))

  pub half_stays : (g : Geometry) → area_start g ≤ at → half_of g b ≡ half_of g a
  half_stays g le =
      let same = half_selected_stays (omega (arith, le)) in
      ap (λ h. take (half_size g) (drop (half_start g h) b)) same
      ∙ in_half (slice_index a 8 == 1) g le
    where
      in_half : (second : Bool) (g : Geometry) → area_start g ≤ at
          → take (half_size g) (drop (half_start g (if second then 1 else 0)) b)
          ≡ take (half_size g) (drop (half_start g (if second then 1 else 0)) a)
      in_half true g le = part (half_start g 1) (half_size g) (omega (arith, le))
      in_half false g le = part (half_start g 0) (half_size g) (omega (arith, le))

  -- where only the data area differs, the records are the same
  pub records_stay : (g : Geometry) → geometry_of a ≡ Some g → area_start g ≤ at
      → records_of b ≡ records_of a
  unfolding records_of
  records_stay g is le =
      let was : geometry_of b ≡ Some g = geometry_stays (omega (arith, le)) ∙ is in
      ap (λ o. result_then (or_not_formatted o)
      (λ h. journal_in_half h (selected_half b) (half_of h b))) was
      ∙ ap (λ h. journal_in_half g h (half_of g b)) (half_selected_stays (omega (arith, le)))
      ∙ ap (λ bytes. journal_in_half g (selected_half a) bytes) (half_stays g le)
      ∙ sym (ap (λ o. result_then (or_not_formatted o)
      (λ h. journal_in_half h (selected_half a) (half_of h a))) is)

  pub gates_stay : (g : Geometry) → geometry_of a ≡ Some g → area_start g ≤ at
      → has_clean_gates (geometry_of b) b ≡ has_clean_gates (geometry_of a) a
  gates_stay g is le =
      let was : geometry_of b ≡ Some g = geometry_stays (omega (arith, le)) ∙ is in
      ap (λ o. has_clean_gates o b) was
      ∙ ap (λ bytes. are_gates_clean (slots_of g bytes)) (half_stays g le)
      ∙ sym (ap (λ o. has_clean_gates o a) is)

module _ (g : Geometry) (from n : ℕ) (a b : List ℕ)
    (agree : AgreeOutside (area_start g + from) n a b) where
  at-byte : (x : List ℕ) (p : Placed) (i : ℕ) → i < p.object.length
      → p.start + p.object.length ≤ g.area
      → get_or (body_in_area (area_of g x) p) i 0 ≡ get_or x (area_start g + (p.start + i)) 0
  at-byte x p i lt fits =
      let area : List ℕ = area_of g x in
      let k : ℕ = p.start + p.object.length - p.start in
      get_or-take k (drop p.start area) i 0 (omega (arith, lt)) ∙ get_or-drop p.start area i 0
      ∙ get_or-drop (area_start g) x (p.start + i) 0

  same-byte : (p : Placed) (i : ℕ) → i < p.object.length → IsBeside g from n p
      → get_or b (area_start g + (p.start + i)) 0 ≡ get_or a (area_start g + (p.start + i)) 0
  same-byte p i lt is = ⊎_elim (λ low. agree.before _ (omega (arith, low, lt)))
      (λ high. agree.after _ (omega (arith, high))) is.beside

  body-length : (x : List ℕ) (p : Placed)
      → length (body_in_area (area_of g x) p)
      ≡ length (take (p.start + p.object.length - p.start)
      (drop p.start (drop (area_start g) x)))
  body-length x p = refl

  pub body_stays : (p : Placed) → IsBeside g from n p
      → body_in_area (area_of g b) p ≡ body_in_area (area_of g a) p
  body_stays p is =
      let k : ℕ = p.start + p.object.length - p.start in
      let far : ℕ = area_start g in
      let lengths : length (body_in_area (area_of g b) p) ≡ length (body_in_area (area_of g a) p) =
      omega (
        arith,
        agree.len_is,
        length-take k (drop p.start (area_of g b)),
        length-take k (drop p.start (area_of g a)),
        length-drop p.start (area_of g b),
        length-drop p.start (area_of g a),
        length-drop far b,
        length-drop far a,
      ) in
      ext_get_or 0 (body_in_area (area_of g b) p) (body_in_area (area_of g a) p) lengths (λ i lt.
      let below : i < p.object.length =
      omega (arith, lt, length-take k (drop p.start (area_of g b))) in
      at-byte b p i below is.within ∙ same-byte p i below is ∙ sym (at-byte a p i below is.within))

  objects-stay : (objects : List Placed) → AreBeside g from n objects
      → map (λ (p : Placed). object_of p.object (body_in_area (area_of g b) p)) objects
      ≡ map (λ (p : Placed). object_of p.object (body_in_area (area_of g a) p)) objects
  objects-stay [] is = refl
  objects-stay (p ∷ objects) is =
      ap (λ body. object_of p.object body
      ∷ map (λ (q : Placed). object_of q.object (body_in_area (area_of g b) q)) objects)
      (body_stays p is.0)
      ∙ ap (λ l. object_of p.object (body_in_area (area_of g a) p) ∷ l) (objects-stay objects is.1)

  pub carousel_stays : (c : Catalogue) → AreBeside g from n c.objects
      → carousel_in (area_of g b) c ≡ carousel_in (area_of g a) c
  carousel_stays c is =
      ap (λ (l : List whole.Object). let r : whole.Carousel =
      record { period = c.period; directory = c.directory; cursor = c.cursor; objects = l } in
      r) (objects-stay c.objects is)

-- what an image stands for, by its records, their fold and its data area
pub stands_by_parts : (g : Geometry) (j : DiskRecords) (c : Catalogue) (image : List ℕ)
    → j.geometry ≡ g
    → records_of image ≡ Ok j → catalogue_of g.objects j.records ≡ Ok c
    → stands_for image ≡ Ok (standing_of g c image)
unfolding stands_for
stands_by_parts g j c image same read fold =
    let fold' = subst (λ (h : Geometry). catalogue_of h.objects j.records ≡ Ok c) (sym same) fold in
    ap (λ r. result_then r (λ (k : DiskRecords).
    result_then (catalogue_of k.geometry.objects k.records)
    (λ d. Ok (standing_of k.geometry d image)))) read
    ∙ ap (λ r. result_then r (λ d. Ok (standing_of j.geometry d image))) fold'
    ∙ ap (λ (h : Geometry). let r : Result Standing Refusal = Ok (standing_of h c image) in r) same

-- a change within the data area leaves the bytes after it
pub rest_stays : (g : Geometry) (from n : ℕ) (a b : List ℕ)
    → AgreeOutside (area_start g + from) n a b → from + n ≤ g.area
    → rest_of g b ≡ rest_of g a
rest_stays g from n a b agree within =
    let far : ℕ = area_start g + g.area in
    drop-drop g.area (area_start g) b
    ∙ drop_behind (area_start g + from) n a b agree far (omega (arith, within))
    ∙ sym (drop-drop g.area (area_start g) a)

-- an image after a write into a gap stands for what it stood for before
pub standing_stays : (g : Geometry) (from n : ℕ) (a b : List ℕ)
    → AgreeOutside (area_start g + from) n a b
    → (j : DiskRecords) (c : Catalogue) → j.geometry ≡ g → geometry_of a ≡ Some g
    → records_of a ≡ Ok j
    → catalogue_of g.objects j.records ≡ Ok c → AreBeside g from n c.objects
    → from + n ≤ g.area → stands_for b ≡ stands_for a
standing_stays g from n a b agree j c same is read fold beside within =
    let read' = records_stay (area_start g + from) n a b agree g is (omega arith) ∙ read in
    let e : standing_of g c b ≡ standing_of g c a =
    ap (λ (k : whole.Carousel). let r : Standing =
    record { geometry = g; carousel = k; extents = extents_of c; rest = rest_of g b } in r)
    (carousel_stays g from n a b agree c beside)
    ∙ ap (λ (l : List ℕ). let r : Standing =
    record {
      geometry = g;
      carousel = carousel_in (area_of g a) c;
      extents = extents_of c;
      rest = l;
    } in r)
    (rest_stays g from n a b agree within) in
    stands_by_parts g j c b same read' fold ∙ ap Ok e ∙ sym (stands_by_parts g j c a same read fold)

-- a change behind the halves that leaves what the image stands for leaves it clean
pub clean_stays : (g : Geometry) (from n : ℕ) (a b : List ℕ)
    → AgreeOutside (area_start g + from) n a b
    → geometry_of a ≡ Some g → stands_for b ≡ stands_for a → IsClean a → IsClean b
clean_stays g from n a b agree is same clean = record {
  stands = subst (λ r. IsOk r) (sym same) clean.stands;
  gates = gates_stay (area_start g + from) n a b agree g is (omega arith) ∙ clean.gates;
}

-- the records that were found
abbrev pub found : DiskRecords → Result DiskRecords Refusal
found j = Ok j

-- what was found twice is the same
pub is-same : (k j : DiskRecords) → found k ≡ found j → k ≡ j
is-same k j e = cc

geometry-of-ok : (k j : DiskRecords) → found k ≡ found j → k.geometry ≡ j.geometry
geometry-of-ok k j e = ap (λ (x : DiskRecords). x.geometry) (is-same k j e)

-- nothing was found
abbrev pub Fails : Result DiskRecords Refusal → Type 0
Fails (Ok j) = ⊥
Fails (Err refusal) = Unit {0}

no-records : (j : DiskRecords) → or_not_formatted {A = DiskRecords} None ≡ found j → ⊥
no-records j e = subst Fails e tt

of-records : (g : Geometry) (half : ℕ) (layout : Layout) (r : Result (List Record) Refusal)
    (j : DiskRecords)
    → result_then r (λ records.
    found (record { geometry = g; half = half; layout = layout; records = records })) ≡ found j
    → g ≡ j.geometry
of-records g half layout (Ok records) j e =
    geometry-of-ok (record { geometry = g; half = half; layout = layout; records = records }) j e
of-records g half layout (Err refusal) j e = absurd (subst Fails e tt)

-- an image that has records has their geometry
geometry-cases : (image : List ℕ) (j : DiskRecords) (o : Option Geometry)
    → result_then (or_not_formatted o)
    (λ g. journal_in_half g (selected_half image) (half_of g image)) ≡ Ok j
    → o ≡ Some j.geometry
geometry-cases image j None e = absurd (no-records j e)
geometry-cases image j (Some g) e =
    ap Some (of-records g (selected_half image) (layout_of (half_of g image)) _ j e)

-- the records of an image stand in the geometry of its head
pub geometry_read : (image : List ℕ) (j : DiskRecords) → records_of image ≡ Ok j
    → geometry_of image ≡ Some j.geometry
unfolding records_of
geometry_read image j read = geometry-cases image j (geometry_of image) read
