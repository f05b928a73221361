-- The parts of an image that has a journal's records.
use Rattle.std.proofs.Common.{◌≡◌, ℕ, true, List, take, drop, Option, Some, Result, Ok, Err, refl}
use Rattle.std.proofs.Common.{sym, ◌∙◌, ap, subst}
use Rattle.std.specs.Prelude.{take_while, IsOk}
use Rattle.mot_journal.specs.declared.layout.Layout.{Layout}
use Rattle.mot_journal.specs.declared.record.Record.{Record}
use Rattle.mot_journal.specs.Geometry.{geometry_of, selected_half}
use Rattle.mot_journal.specs.Slot.{is_open, layout_of, read_slot}
use Rattle.mot_journal.specs.Image.{catalogue_of}
use Rattle.mot_numbers.specs.Refusal.{◌>>=◌}
use Rattle.mot_journal.specs.Catalogue.{carousel_in, extents_of}
use Rattle.mot_journal.specs.Image.{DiskRecords, Standing, records_in, slots_of, are_gates_clean}
use Rattle.mot_journal.specs.Image.{has_clean_gates, journal_in_half, or_not_formatted, half_of}
use Rattle.mot_journal.specs.Image.{records_of, stands_for, area_of, rest_of}
use Rattle.mot_journal.specs.Journal.{JournalView, with_records, HasRecords}
use Rattle.mot_journal.proofs.Slots.{found, slots}
use Rattle.mot_journal.proofs.Laws.{Fails, geometry_read, stands_by_parts}
use Rattle.mot_numbers.specs.declared.refusal.Refusal.{Refusal}
use Rattle.mot_numbers.specs.declared.geometry.Geometry.{Geometry}
use Rattle.mot_numbers.specs.Geometry.{half_size, half_start}
use Rattle.mot_journal.proofs.Records.{ok}

-- a half of an image
abbrev pub half_at : Geometry → ℕ → List ℕ → List ℕ
half_at g half image = take (half_size g) (drop (half_start g half) image)

-- the slots of the journal's half in an image
abbrev pub slots_at : JournalView → List ℕ → List (List ℕ)
slots_at j image = slots j.geometry j.layout (half_at j.geometry j.half image)

-- the parts of an image that has a journal's records
pub record HasParts (j : JournalView) (records : List Record) (image : List ℕ) : Type 0 where
  -- the head gives the journal's geometry
  pub geometry : geometry_of image ≡ Some j.geometry
  -- the journal's half is selected
  pub half : selected_half image ≡ j.half
  -- the half is in the journal's layout
  pub layout : layout_of (half_at j.geometry j.half image) ≡ j.layout
  -- the slots before the first closed gate read as the records
  pub read : records_in (read_slot j.geometry j.layout) 0 (take_while is_open (slots_at j image))
      ≡ Ok records
  -- no gate is open behind a closed one
  pub gates : are_gates_clean (slots_at j image) ≡ true
  -- the records make no fault of the list
  pub fold : IsOk (catalogue_of j.geometry.objects records)

abbrev whole : DiskRecords → Result DiskRecords Refusal
whole w = Ok w

same-of : (k w : DiskRecords) → whole k ≡ whole w → k ≡ w
same-of k w e = cc

journal-parts : (g : Geometry) (half : ℕ) (layout : Layout) (r : Result (List Record) Refusal)
    (w : DiskRecords)
    → ◌>>=◌ r (λ l. found g half layout l) ≡ whole w
    → (half ≡ w.half) × (layout ≡ w.layout) × (r ≡ ok w.records)
journal-parts g half layout (Ok l) w e =
    let is = same-of (record { geometry = g; half = half; layout = layout; records = l }) w e in (
      ap (λ (x : DiskRecords). x.half) is,
      ap (λ (x : DiskRecords). x.layout) is,
      ap (λ (x : DiskRecords). ok x.records) is,
    )
journal-parts g half layout (Err f) w e = absurd (subst Fails e tt)

ok-then : {A B : Type 0} (r : Result A Refusal) (f : A → Result B Refusal) → IsOk (◌>>=◌ r f)
    → IsOk r
ok-then (Ok x) f is = refl
ok-then (Err e) f is = is

ok-value : {A : Type 0} (r : Result A Refusal) → IsOk r → (x : A) × (r ≡ Ok x)
ok-value (Ok x) is = (x, refl)
ok-value (Err e) is = absurd (cc)

module _ (j : JournalView) (records : List Record) (image : List ℕ) where
  abbrev g : Geometry
  g = j.geometry

  abbrev w : DiskRecords
  w = with_records j records

  abbrev tells : Option Geometry → Result DiskRecords Refusal
  tells o = ◌>>=◌ (or_not_formatted o)
      (λ (x : Geometry). journal_in_half x (selected_half image) (half_of x image))

  abbrev reads : Layout → List ℕ → Result (List Record) Refusal
  reads y bytes = records_in (read_slot g y) 0 (take_while is_open (slots g y bytes))

  parts-of : geometry_of image ≡ Some g → tells (geometry_of image) ≡ whole w
      → HasRecords j records image → HasParts j records image
  unfolding stands_for
  parts-of told e has =
      let e' : journal_in_half g (selected_half image) (half_of g image) ≡ whole w =
      sym (ap tells told) ∙ e in
      let three = journal-parts g (selected_half image) (layout_of (half_of g image))
      (reads (layout_of (half_of g image)) (half_of g image)) w e' in
      let at : half_of g image ≡ half_at g j.half image = ap (λ h. half_at g h image) three.0 in
      let layout : layout_of (half_at g j.half image) ≡ j.layout =
      sym (ap layout_of at) ∙ three.1 in
      let clean : are_gates_clean (slots_of g (half_of g image)) ≡ true =
      sym (ap (λ o. has_clean_gates o image) told) ∙ has.clean.gates in
      let gates : are_gates_clean (slots_of g (half_at g j.half image)) ≡ true =
      sym (ap (λ b. are_gates_clean (slots_of g b)) at) ∙ clean in
      let stands : IsOk (◌>>=◌ (catalogue_of g.objects records)
      (λ c. let s : Result Standing Refusal =
      Ok (record {
        geometry = g;
        carousel = carousel_in (area_of g image) c;
        extents = extents_of c;
        rest = rest_of g image;
      }) in s)) =
      subst (λ r. IsOk (◌>>=◌ r
      (λ (k : DiskRecords). ◌>>=◌ (catalogue_of k.geometry.objects k.records)
      (λ c. let s : Result Standing Refusal =
      Ok (record {
        geometry = k.geometry;
        carousel = carousel_in (area_of k.geometry image) c;
        extents = extents_of c;
        rest = rest_of k.geometry image;
      }) in s)))) has.read has.clean.stands in
      record {
        geometry = told;
        half = three.0;
        layout = layout;
        read = sym (ap (λ y. reads y (half_at g j.half image)) layout)
            ∙ sym (ap (λ b. reads (layout_of b) b) at) ∙ three.2;
        gates = sym (ap (λ y. are_gates_clean (slots g y (half_at g j.half image))) layout) ∙ gates;
        fold = ok-then (catalogue_of g.objects records) _ stands;
      }

  -- an image that has the records has the parts
  pub has_parts : HasRecords j records image → HasParts j records image
  unfolding records_of
  has_parts has = parts-of (geometry_read image w has.read) has.read has

  read-of : HasParts j records image → records_of image ≡ whole w
  unfolding records_of
  read-of parts =
      ap tells parts.geometry
      ∙ ap (λ h. journal_in_half g h (half_at g h image)) parts.half
      ∙ ap (λ y. ◌>>=◌ (reads y (half_at g j.half image)) (λ l. found g j.half y l))
      parts.layout
      ∙ ap (λ q. ◌>>=◌ q (λ l. found g j.half j.layout l)) parts.read

  -- an image that has the parts has the records
  pub parts_have : HasParts j records image → HasRecords j records image
  parts_have parts =
      let c = ok-value (catalogue_of g.objects records) parts.fold in
      record {
        read = read-of parts;
        clean = record {
          stands = subst IsOk (sym (stands_by_parts g w c.0 image refl (read-of parts) c.1)) refl;
          gates = ap (λ o. has_clean_gates o image) parts.geometry
              ∙ ap (λ h. are_gates_clean (slots_of g (half_at g h image))) parts.half
              ∙ ap (λ y. are_gates_clean (slots g y (half_at g j.half image))) parts.layout
              ∙ parts.gates;
        };
      }
