-- Records without faults make a sound carousel, whose bodies lie in the data area.
use Rattle.std.proofs.Common.{◌≡◌, ⊎_elim, ℕ, suc, ◌+◌, ◌<◌, ◌≤◌, true, ◌&&◌, List, [], ◌∷◌, length}
use Rattle.std.proofs.Common.{map, Option, None, Some, Result, Ok, Err, refl, sym, ap, ◌∙◌, subst}
use Rattle.std.proofs.Common.{arith, inl, inr}
use Rattle.std.proofs.lemmas.Bool.{and_parts, and_from, or_cases, ltb-true, lt-ltb, leb-true}
use Rattle.std.proofs.lemmas.Bool.{not-true}
use Rattle.std.proofs.lemmas.Bool.Decides.{nat_tests}
use Rattle.std.proofs.lemmas.List.Elements.{All-weaker}
use Rattle.std.proofs.lemmas.List.Sums.{AllPass-from_list_all}
use Rattle.std.proofs.lemmas.Slice.Eq.{bytes_eq-Decides}
use Rattle.std.proofs.lemmas.Str.{IsUtf8-from_is_utf8}
use Rattle.std.specs.Prelude.{⊤, ◌==◌, MatchOption, bytes_eq, codes, nat_le, nat_lt, not}
use Rattle.std.specs.List.{AllByRecursion, list_all}
use Rattle.std.specs.Str.{is_utf8}
use Rattle.std.specs.Option.{option_map_or}
use Rattle.mot_journal.specs.declared.layout.Layout.{Layout}
use Rattle.mot_journal.specs.declared.record.Record.{Record}
use Rattle.mot_journal.specs.declared.record.Action.{Action}
use Rattle.mot_journal.specs.declared.record.Action.TheVariants.{Nothing, Set, Remove}
use Rattle.mot_journal.specs.Slot.{is_sound, is_sound_action, longest_name}
use Rattle.mot_journal.specs.Image.{catalogue_of, DiskRecords, Standing, records_of, stands_for}
use Rattle.mot_journal.specs.Image.{area_of, rest_of}
use Rattle.mot_numbers.specs.Refusal.{◌>>=◌}
use Rattle.mot_journal.specs.Catalogue.{Placed, Catalogue, new_catalogue, catalogue_after}
use Rattle.mot_journal.specs.Catalogue.{are_all_apart, body_in_area, carousel_in}
use Rattle.mot_journal.specs.Gaps.{AreBeside, standing_of}
use Rattle.mot_numbers.specs.declared.refusal.Refusal.{Refusal}
use Rattle.mot_numbers.specs.declared.geometry.Geometry.{Geometry}
use Rattle.mot_numbers.specs.Geometry.{is_valid, is_within, is_packet_length}
use Rattle.mot_objects.specs.Carousel.{Object, are_names_distinct, IsSound}
use Rattle.mot_objects.specs.Ids.{is_distinct}
use Rattle.mot_objects.specs.Name.{IsMime, IsName, is_mime, is_name}
use Rattle.mot_objects.specs.Stands.{object_of}
use Rattle.mot_carousel.specs.Gap.{is_beside}
use Rattle.mot_repository.specs.Records.{records_of_objects, records_of_catalogue}
use Rattle.mot_repository.specs.Inner.Following.{StandingsAreSound}
use Rattle.mot_repository.specs.Inner.Whole.{placed_names, IsGood, IsSoundPlaced, IsWhole}
use Rattle.mot_repository.proofs.Folding.{is_step, good_step, good_new, fold_keeps, SetHas}
use Rattle.mot_repository.proofs.Folding.{after_each}
use Rattle.mot_repository.proofs.Reading.{by_recursion, IsRead, records_read}
use Rattle.mot_journal.proofs.Laws.{longest_most}
use Rattle.mot_repository.specs.Inner.Fold.{HasShortId}

set-has : (g : Geometry) (layout : Layout) (a : Action) → is_sound_action g layout a ≡ true
    → HasShortId a → SetHas (IsSoundPlaced g layout) a
set-has g layout Nothing is short = tt
set-has g layout (Remove tid) is short = tt
set-has g layout (Set tid version content start size name mime) is short = (is, short)

-- a record without a fault of fields or of the list leaves a catalogue whole
pub whole-step : (g : Geometry) (layout : Layout) (c next : Catalogue) (r : Record)
    → IsRead g layout r → catalogue_after g.objects c r ≡ Some next
    → IsWhole g layout c → IsWhole g layout next
whole-step g layout c next r read e is =
    let step = is_step g.objects c r next e in
    let h = and_parts (nat_lt 0 r.directory && nat_lt 0 r.cursor)
    (is_sound_action g layout r.action) read.sound in
    let k = and_parts (nat_lt 0 r.directory) (nat_lt 0 r.cursor) h.0 in
    let each = after_each (IsSoundPlaced g layout) g.objects c.objects step.objects r.action
    step.after (set-has g layout r.action h.1 read.object) is.each in
    let same : Catalogue → Type 0 = IsWhole g layout in
    subst same step.is (record {
      good = subst (IsGood g.objects) (sym step.is) (good_step g.objects c r next e is.good);
      directory = (ltb-true 0 r.directory k.0, read.directory);
      cursor = (ltb-true 0 r.cursor k.1, read.cursor);
      each = each;
    })

-- records without a fault of fields or of the list make a whole catalogue
pub whole_fold : (g : Geometry) (layout : Layout) (records : List Record) (c : Catalogue)
    → AllByRecursion (IsRead g layout) records
    → catalogue_of g.objects records ≡ Ok c → IsWhole g layout c
whole_fold g layout records c read e =
    fold_keeps g.objects (IsWhole g layout) (IsRead g layout)
    (λ d next r q f is. whole-step g layout d next r q f is)
    0 new_catalogue c records read e
    (record {
      good = good_new g.objects;
      directory = (omega arith, omega arith);
      cursor =
          (omega arith, omega arith);
      each = tt;
    })

-- ---- what that says

name-is : (longest : ℕ) (bytes : List ℕ) → longest ≤ 255 → is_name longest bytes ≡ true
    → IsName bytes
name-is longest bytes most e =
    let h = and_parts (is_within 1 longest (length bytes) && is_utf8 bytes)
    (list_all (λ b. nat_lt 32 b && not (b == 127)) bytes) e in
    let k = and_parts (is_within 1 longest (length bytes)) (is_utf8 bytes) h.0 in
    let within = and_parts (nat_le 1 (length bytes)) (nat_le (length bytes) longest) k.0 in
    let least = leb-true (length bytes) longest within.1 in
    record {
      some = leb-true 1 (length bytes) within.0;
      short = omega (arith, least, most);
      text = IsUtf8-from_is_utf8 bytes k.1;
      printed = AllPass-from_list_all (λ b. nat_lt 32 b && not (b == 127)) bytes h.1;
    }

mime-is : (mime : Option (List ℕ)) → option_map_or is_mime mime true ≡ true
    → MatchOption mime ⊤ IsMime
mime-is None e = tt
mime-is (Some bytes) e =
    let h = and_parts (is_within 1 64 (length bytes) && list_all (is_within 0x21 0x7E) bytes)
    (not (bytes_eq bytes (codes "-"))) e in
    let k = and_parts (is_within 1 64 (length bytes)) (list_all (is_within 0x21 0x7E) bytes) h.0 in
    let within = and_parts (nat_le 1 (length bytes)) (nat_le (length bytes) 64) k.0 in
    record {
      some = leb-true 1 (length bytes) within.0;
      short = leb-true (length bytes) 64 within.1;
      printed = All-weaker (λ b. is_within 0x21 0x7E b ≡ true)
          (λ b. (nat_lt 32 b && nat_lt b 127) ≡ true)
          (λ b i. grind (arith, nat_tests)) bytes
          (AllPass-from_list_all (is_within 0x21 0x7E) bytes k.1);
      named = λ is. let wrong : bytes_eq bytes (codes "-") ≡ true =
          (bytes_eq-Decides bytes (45 ∷ [])).1 is in
          let other = not-true (bytes_eq bytes (codes "-")) h.1 in cc;
    }

-- the fields of an object without a fault of them
pub record IsPlacedIn (g : Geometry) (p : Placed) : Type 0 where
  -- its id is a number of two bytes, and not 0
  pub id : (1 ≤ p.object.tid) × (p.object.tid ≤ 65535)
  -- its content's numbers are in their ranges
  pub content : (p.object.content.content_type ≤ 63) × (p.object.content.subtype ≤ 511)
  -- its name keeps the rule of names
  pub name : IsName p.object.name
  -- its MIME type, if it has one, keeps the rule of MIME types
  pub mime : MatchOption p.object.mime ⊤ IsMime
  -- its body has at least one byte
  pub some : 1 ≤ p.object.length
  -- its body is not longer than the longest
  pub short : p.object.length ≤ 262144
  -- its body lies in the data area
  pub within : p.start + p.object.length ≤ g.area

-- an object without a fault of fields keeps the rules, and lies in the data area
pub placed_in : (g : Geometry) (layout : Layout) (p : Placed) → IsSoundPlaced g layout p
    → IsPlacedIn g p
placed_in g layout p is =
    let o = p.object in
    let b1 = nat_lt 0 o.tid in
    let b2 = nat_le o.content.content_type 63 in
    let b3 = nat_le o.content.subtype 511 in
    let b4 = is_within 1 262144 o.length in
    let b5 = nat_le (p.start + o.length) g.area in
    let b6 = is_name (longest_name layout) o.name in
    let h6 = and_parts (b1 && b2 && b3 && b4 && b5 && b6) (option_map_or is_mime o.mime true)
    is.0 in
    let h5 = and_parts (b1 && b2 && b3 && b4 && b5) b6 h6.0 in
    let h4 = and_parts (b1 && b2 && b3 && b4) b5 h5.0 in
    let h3 = and_parts (b1 && b2 && b3) b4 h4.0 in
    let h2 = and_parts (b1 && b2) b3 h3.0 in
    let h1 = and_parts b1 b2 h2.0 in
    let size = and_parts (nat_le 1 o.length) (nat_le o.length 262144) h3.1 in
    record {
      id = (ltb-true 0 o.tid h1.0, is.1);
      content = (leb-true o.content.content_type 63 h1.1, leb-true o.content.subtype 511 h2.1);
      name = name-is (longest_name layout) o.name (longest_most layout) h5.1;
      mime = mime-is o.mime h6.1;
      some = leb-true 1 o.length size.0;
      short = leb-true o.length 262144 size.1;
      within = leb-true (p.start + o.length) g.area h4.1;
    }

-- a valid geometry has at most 250 objects
pub few_objects : (g : Geometry) → is_valid g ≡ true → g.objects ≤ 250
few_objects g valid =
    let b1 = is_within 1 250 g.objects in
    let b2 = is_within 1 268435456 g.area in
    let b3 = is_within 64 8189 g.segment in
    let b4 = is_within 1 1023 g.address in
    let h4 = and_parts (b1 && b2 && b3 && b4) (is_packet_length g.packet) valid in
    let h3 = and_parts (b1 && b2 && b3) b4 h4.0 in
    let h2 = and_parts (b1 && b2) b3 h3.0 in
    let h1 = and_parts b1 b2 h2.0 in
    leb-true g.objects 250 (and_parts (nat_le 1 g.objects) (nat_le g.objects 250) h1.0).1

module _ (area : List ℕ) where
  abbrev wholes : List Placed → List Object
  wholes objects = map (λ (p : Placed). object_of p.object (body_in_area area p)) objects

  whole-names : (objects : List Placed)
      → map (λ (o : Object). o.name) (wholes objects) ≡ placed_names objects
  whole-names [] = refl
  whole-names (p ∷ objects) = ap (λ l. p.object.name ∷ l) (whole-names objects)

  whole-ids : (objects : List Placed)
      → map (λ (o : Object). o.tid) (wholes objects) ≡ map (λ (p : Placed). p.object.tid) objects
  whole-ids [] = refl
  whole-ids (p ∷ objects) = ap (λ l. p.object.tid ∷ l) (whole-ids objects)

  whole-length : (objects : List Placed) → length (wholes objects) ≡ length objects
  whole-length [] = refl
  whole-length (p ∷ objects) = ap suc (whole-length objects)

  ids-range : (g : Geometry) (layout : Layout) (objects : List Placed)
      → AllByRecursion (IsSoundPlaced g layout) objects
      → AllByRecursion (λ id. (1 ≤ id) × (id ≤ 65535))
      (map (λ (o : Object). o.tid) (wholes objects))
  ids-range g layout [] a = tt
  ids-range g layout (p ∷ objects) a =
      ((placed_in g layout p a.0).id, ids-range g layout objects a.1)

  -- a whole catalogue makes a sound carousel, whatever the data area has
  pub sound_carousel : (g : Geometry) (layout : Layout) (c : Catalogue) → is_valid g ≡ true
      → IsWhole g layout c → IsSound (carousel_in area c)
  sound_carousel g layout c valid is =
      let few = few_objects g valid in
      let at_most = is.good.few in
      let h = and_parts (is_distinct (c.directory ∷ map (λ (p : Placed). p.object.tid) c.objects))
      (are_all_apart c.objects) is.good.consistent in
      record {
        names = ap are_names_distinct (whole-names c.objects) ∙ is.good.names;
        ids = ap (λ l. is_distinct (c.directory ∷ l)) (whole-ids c.objects) ∙ h.0;
        range = (is.directory, ids-range g layout c.objects is.each);
        cursor = is.cursor;
        few = omega (arith, few, at_most, whole-length c.objects);
      }

extents-within : (g : Geometry) (layout : Layout) (objects : List Placed)
    → AllByRecursion (IsSoundPlaced g layout) objects
    → AllByRecursion (λ (e : ℕ × ℕ). (1 ≤ e.1) × (e.0 + e.1 ≤ g.area))
    (map (λ (p : Placed). (p.start, p.object.length)) objects)
extents-within g layout [] a = tt
extents-within g layout (p ∷ objects) a = let is = placed_in g layout p a.0 in
    ((is.some, is.within), extents-within g layout objects a.1)

-- ---- the law

-- an image's records, and their fold
pub record IsFolded (image : List ℕ) (s : Standing) : Type 0 where
  -- the records of the image, and where they stand
  pub journal_in_half : DiskRecords
  -- the catalogue that they make
  pub catalogue : Catalogue
  -- the image has these records
  pub read : records_of image ≡ Ok journal_in_half
  -- the records fold to this catalogue
  pub fold : catalogue_of journal_in_half.geometry.objects journal_in_half.records ≡ Ok catalogue
  -- the catalogue, with the image's data area, is the standing
  pub is : standing_of journal_in_half.geometry catalogue image ≡ s

fold-cases : (image : List ℕ) (s : Standing) (j : DiskRecords) (o : Result Catalogue Refusal)
    → records_of image ≡ Ok j
    → catalogue_of j.geometry.objects j.records ≡ o
    → ◌>>=◌ o (λ c. Ok (standing_of j.geometry c image)) ≡ Ok s → IsFolded image s
fold-cases image s j (Ok c) read fold e =
    let same : standing_of j.geometry c image ≡ s = cc in
    record { journal_in_half = j; catalogue = c; read = read; fold = fold; is = same }
fold-cases image s j (Err refusal) read fold e = cc

record-cases : (image : List ℕ) (s : Standing) (o : Result DiskRecords Refusal)
    → records_of image ≡ o
    → ◌>>=◌ o (λ j. ◌>>=◌ (catalogue_of j.geometry.objects j.records)
    (λ c. Ok (standing_of j.geometry c image))) ≡ Ok s → IsFolded image s
record-cases image s (Ok j) read e =
    fold-cases image s j (catalogue_of j.geometry.objects j.records) read refl e
record-cases image s (Err refusal) read e = cc

-- what an image stands for is the fold of its records, with its data area
pub is_folded : (image : List ℕ) (s : Standing) → stands_for image ≡ Ok s → IsFolded image s
unfolding stands_for
is_folded image s e = record-cases image s (records_of image) refl e

abbrev Sound : Standing → Type 0
Sound s = IsSound s.carousel × (length s.carousel.objects ≤ s.geometry.objects)
    × AllByRecursion (λ (e : ℕ × ℕ). (1 ≤ e.1) × (e.0 + e.1 ≤ s.geometry.area)) s.extents

-- the bytes after its data area are those of the image
pub standings_rest : (image : List ℕ) (s : Standing) → stands_for image ≡ Ok s
    → s.rest ≡ rest_of s.geometry image
standings_rest image s stands =
    let f = is_folded image s stands in
    sym (ap (λ (t : Standing). t.rest) f.is)
    ∙ ap (λ (t : Standing). rest_of t.geometry image) f.is

-- what an image of bytes stands for is sound, and its bodies lie in the data area
pub keeps : StandingsAreSound
keeps image s bytes stands =
    let f = is_folded image s stands in
    let g = f.journal_in_half.geometry in
    let layout = f.journal_in_half.layout in
    let area = area_of g image in
    let j = records_read image f.journal_in_half (by_recursion (λ b. b < 256) image bytes) f.read in
    let is = whole_fold g layout f.journal_in_half.records f.catalogue j.read f.fold in
    let few = is.good.few in
    subst Sound f.is (
      sound_carousel area g layout f.catalogue j.valid is,
      omega (arith, few, whole-length area f.catalogue.objects),
      extents-within g layout f.catalogue.objects is.each,
    )

-- ---- what a write and a rewrite ask for

-- where these objects lie
abbrev pub extents-in : List Placed → List (ℕ × ℕ)
extents-in objects = map (λ (p : Placed). (p.start, p.object.length)) objects

-- a free range of the data area lies beside each body
pub lie_beside : (g : Geometry) (layout : Layout) (from n : ℕ) (objects : List Placed)
    → AllByRecursion (IsSoundPlaced g layout) objects
    → list_all (is_beside from n) (map (λ (p : Placed). (p.start, p.object.length)) objects) ≡ true
    → AreBeside g from n objects
lie_beside g layout from n [] a free = tt
lie_beside g layout from n (p ∷ objects) a free =
    let h = and_parts (is_beside from n (p.start, p.object.length))
    (list_all (is_beside from n) (extents-in objects)) free in (
      record {
        within = (placed_in g layout p a.0).within;
        beside = ⊎_elim (λ low. inr (leb-true (from + n) p.start low))
            (λ high. inl (leb-true (p.start + p.object.length) from high))
            (or_cases (nat_le (from + n) p.start) (nat_le (p.start + p.object.length) from) h.0);
      },
      lie_beside g layout from n objects a.1 h.1,
    )

records_of_objects-sound : (g : Geometry) (layout : Layout) (c : Catalogue) (objects : List Placed)
    → 1 ≤ c.directory → 1 ≤ c.cursor
    → AllByRecursion (IsSoundPlaced g layout) objects
    → AllByRecursion (λ r. is_sound g layout r ≡ true) (records_of_objects c objects)
records_of_objects-sound g layout c [] d k a = tt
records_of_objects-sound g layout c (p ∷ objects) d k a = (
  and_from _ _ (and_from _ _ (lt-ltb 0 c.directory d) (lt-ltb 0 c.cursor k)) a.0.0,
  records_of_objects-sound g layout c objects d k a.1,
)

records_of_objects-length : (c : Catalogue) (objects : List Placed)
    → length (records_of_objects c objects) ≡ length objects
records_of_objects-length c [] = refl
records_of_objects-length c (p ∷ objects) = ap suc (records_of_objects-length c objects)

-- what the records of a rewrite are: some, without faults, and no more than the limit, or one
pub record IsRewriting (g : Geometry) (layout : Layout) (limit : ℕ) (given : List Record) : Type
    0 where
  -- there is at least one record
  pub some : 0 < length given
  -- there are at most as many as objects, and one more
  pub few : length given ≤ limit + 1
  -- no record has a fault of fields
  pub sound : AllByRecursion (λ r. is_sound g layout r ≡ true) given

rewriting-cases : (g : Geometry) (layout : Layout) (period directory cursor : ℕ)
    (objects : List Placed)
    → let c : Catalogue = record
    { period = period; directory = directory; cursor = cursor; objects = objects } in
    IsWhole g layout c → IsRewriting g layout g.objects (records_of_catalogue c)
rewriting-cases g layout period directory cursor [] is = record {
  some = omega arith;
  few = omega arith;
  sound = (
    and_from _ _ (and_from _ _ (lt-ltb 0 directory is.directory.0)
        (lt-ltb 0 cursor is.cursor.0)) refl,
    tt,
  );
}
rewriting-cases g layout period directory cursor (p ∷ objects) is =
    let c : Catalogue = record
    { period = period; directory = directory; cursor = cursor; objects = p ∷ objects } in
    let at_most = is.good.few in
    record {
      some = omega arith;
      few = omega (arith, at_most, records_of_objects-length c objects);
      sound = records_of_objects-sound g layout c (p ∷ objects) is.directory.0 is.cursor.0 is.each;
    }

-- the records of a whole catalogue are some, few and without faults
pub is_rewriting : (g : Geometry) (layout : Layout) (c : Catalogue) → IsWhole g layout c
    → IsRewriting g layout g.objects (records_of_catalogue c)
is_rewriting g layout c is = rewriting-cases g layout c.period c.directory c.cursor c.objects is
