-- The records of a copy have no fault, and a disk that has them and its bodies in a row stands for
-- the same carousel.
use Rattle.std.proofs.Common.{◌≡◌, ℕ, zero, suc, ◌+◌, ◌-◌, ◌<◌, ◌≤◌, Bool, true, ◌&&◌, List, []}
use Rattle.std.proofs.Common.{◌∷◌, ◌++◌, length, map, take, drop, get_or, slice_range, Option, Ok}
use Rattle.std.proofs.Common.{Result, refl, sym, ap, ◌∙◌, subst, arith, add-zero}
use Rattle.std.proofs.lemmas.Bool.{and_parts, and_from, le-leb, lt-ltb}
use Rattle.std.proofs.lemmas.List.{drop-take, drop-drop, length-take-le, length-drop, take-take}
use Rattle.std.proofs.lemmas.List.{length-map}
use Rattle.std.proofs.lemmas.List.Sums.{sum_by-cons}
use Rattle.std.proofs.Math.Seq.{take-append_seam, drop-append_seam}
use Rattle.std.specs.Prelude.{◌||◌, nat_le, nat_lt, unwrap_or}
use Rattle.std.specs.List.{AllByRecursion, list_all, zip}
use Rattle.std.specs.Option.{option_map_or}
use Rattle.std.proofs.lemmas.List.Elements.{All-from_recursion}
use Rattle.disk_model.specs.Disk.{State, IsHonestDisk}
use Rattle.mot_journal.specs.declared.layout.Layout.{Layout}
use Rattle.mot_journal.specs.declared.layout.Layout.TheVariants.{One, Two}
use Rattle.mot_journal.specs.declared.record.Record.{Record}
use Rattle.mot_journal.specs.Catalogue.{Placed, Catalogue, are_apart, are_all_apart, extents_of}
use Rattle.mot_journal.specs.Gaps.{standing_of}
use Rattle.mot_journal.specs.Image.{catalogue_of, Standing, records_of, stands_for, area_of}
use Rattle.mot_journal.specs.Image.{rest_of}
use Rattle.mot_journal.specs.Journal.{with_records}
use Rattle.mot_journal.specs.Slot.{is_sound, longest_name}
use Rattle.mot_journal.proofs.Laws.{stands_by_parts}
use Rattle.mot_numbers.specs.declared.geometry.Geometry.{Geometry}
use Rattle.mot_numbers.specs.declared.refusal.Refusal.{Refusal}
use Rattle.mot_numbers.specs.Geometry.{area_start, is_within}
use Rattle.mot_objects.specs.declared.object.Object.{Object}
use Rattle.mot_objects.specs.Carousel as whole
use Rattle.mot_objects.specs.Carousel.{are_names_distinct}
use Rattle.mot_objects.specs.Ids.{is_distinct}
use Rattle.mot_objects.specs.Name.{is_mime, is_name}
use Rattle.mot_objects.specs.Stands.{object_of}
use Rattle.mot_carousel.proofs.Laws.{head, tail}
use Rattle.mot_repository.specs.Copy.{copied_ids, is_segment_resized, packed_from, copy_of}
use Rattle.mot_repository.specs.Copy.{bytes_in_row, packed_objects, packed_catalogue}
use Rattle.mot_repository.specs.Copy.{bytes_of_extents, ids_of_copy, renumbered, AreOfCopy}
use Rattle.mot_repository.specs.OnDisk.{ArePaired}
use Rattle.mot_repository.specs.Inner.Extents.{with_extent, objects_in, catalogue_in}
use Rattle.mot_repository.specs.Inner.Extents.{bytes_of_bodies}
use Rattle.mot_repository.specs.Inner.Fold.{HaveLengths}
use Rattle.mot_repository.specs.Records.{records_of_objects, records_of_catalogue}
use Rattle.mot_repository.specs.Inner.Prepared.{IsId}
use Rattle.mot_repository.specs.Inner.Whole.{placed_names, placed_tids, IsSoundPlaced, IsWhole}
use Rattle.mot_repository.specs.Repository.{RepositoryView, HasStanding}
use Rattle.mot_repository.proofs.Layouts.{longer_name}
use Rattle.mot_repository.proofs.Preparing.{kept_standing, same-standing, wholes, area-long}
use Rattle.mot_repository.proofs.Renumbered.{numbered, renumbered-length, renumbered-names}
use Rattle.mot_repository.proofs.Renumbered.{renumbered-tids, AreIdsOf, are_ids, copied_ids-count}
use Rattle.mot_repository.proofs.Rewriting.{fold-all, record_for}
use Rattle.mot_repository.proofs.Soundness.{is_rewriting, placed_in}
use Rattle.mot_repository.proofs.Extents.{extents-objects_in}
use Rattle.mot_repository.proofs.Bodies.{area-part}

-- ---- bodies in a row

bytes-cons : (o : Object) (os : List Object)
    → bytes_of_bodies (o ∷ os) ≡ o.length + bytes_of_bodies os
bytes-cons o os = sum_by-cons (λ (q : Object). q.length) o os

-- the bodies have as many bytes as their extents
pub bytes-same : (os : List Object) (es : List (ℕ × ℕ)) → HaveLengths os es
    → bytes_of_extents es ≡ bytes_of_bodies os
bytes-same [] [] same = refl
bytes-same [] (e ∷ es) same = cc
bytes-same (o ∷ os) [] same = cc
bytes-same (o ∷ os) (e ∷ es) same =
    let rest = bytes-same os es (tail same) in
    let size = head same in
    let first = sum_by-cons (λ (x : ℕ × ℕ). x.1) e es in
    omega (arith, rest, size, first, bytes-cons o os)

-- one object more
pub packed-next : (c : Catalogue) (start : ℕ) (os : List Object) (k : ℕ) (o : Object)
    → k < length os → o ≡ get_or os k o
    → records_of_objects c (packed_objects start (take k os))
    ++ record_for c (record { object = o; start = start + bytes_of_bodies (take k os) }) ∷ []
    ≡ records_of_objects c (packed_objects start (take (suc k) os))
packed-next c start [] k o lt at = absurd (omega (arith, lt))
packed-next c start (p ∷ os) zero o lt at =
    let made : Object → ℕ → List Record = λ q n.
    record_for c (record { object = q; start = n }) ∷ [] in
    ap (λ q. made q (start + bytes_of_bodies [])) at ∙ ap (made p) (add-zero start)
packed-next c start (p ∷ os) (suc k) o lt at =
    let far : start + bytes_of_bodies (p ∷ take k os)
    ≡ start + p.length + bytes_of_bodies (take k os) = omega (arith, bytes-cons p (take k os)) in
    let made : ℕ → List Record = λ n.
    record_for c (record { object = p; start = start })
    ∷ (records_of_objects c (packed_objects (start + p.length) (take k os))
    ++ record_for c (record { object = o; start = n }) ∷ []) in
    ap made far
    ∙ ap (λ l. record_for c (record { object = p; start = start }) ∷ l)
    (packed-next c (start + p.length) os k o (omega (arith, lt)) at)

packed-names : (start : ℕ) (os : List Object)
    → placed_names (packed_objects start os) ≡ map (λ (o : Object). o.name) os
packed-names start [] = refl
packed-names start (o ∷ os) = ap (λ l. o.name ∷ l) (packed-names (start + o.length) os)

packed-tids : (start : ℕ) (os : List Object)
    → placed_tids (packed_objects start os) ≡ map (λ (o : Object). o.tid) os
packed-tids start [] = refl
packed-tids start (o ∷ os) = ap (λ l. o.tid ∷ l) (packed-tids (start + o.length) os)

packed-length : (start : ℕ) (os : List Object) → length (packed_objects start os) ≡ length os
packed-length start [] = refl
packed-length start (o ∷ os) = ap suc (packed-length (start + o.length) os)

kept-names : (os : List Object) (es : List (ℕ × ℕ)) → HaveLengths os es
    → placed_names (objects_in os es) ≡ map (λ (o : Object). o.name) os
kept-names [] es same = refl
kept-names (o ∷ os) [] same = cc
kept-names (o ∷ os) (e ∷ es) same = ap (λ l. o.name ∷ l) (kept-names os es (tail same))

kept-tids : (os : List Object) (es : List (ℕ × ℕ)) → HaveLengths os es
    → placed_tids (objects_in os es) ≡ map (λ (o : Object). o.tid) os
kept-tids [] es same = refl
kept-tids (o ∷ os) [] same = cc
kept-tids (o ∷ os) (e ∷ es) same = ap (λ l. o.tid ∷ l) (kept-tids os es (tail same))

packed-extents : (start : ℕ) (ids : List ℕ) (os : List Object) (es : List (ℕ × ℕ))
    → length ids ≡ length os → HaveLengths os es
    → map (λ (p : Placed). (p.start, p.object.length)) (packed_objects start (renumbered ids os))
    ≡ packed_from start es
packed-extents start [] [] [] count same = refl
packed-extents start [] [] (e ∷ es) count same = cc
packed-extents start [] (o ∷ os) es count same = absurd (omega (arith, count))
packed-extents start (id ∷ ids) [] es count same = absurd (omega (arith, count))
packed-extents start (id ∷ ids) (o ∷ os) [] count same = cc
packed-extents start (id ∷ ids) (o ∷ os) (e ∷ es) count same =
    let size : o.length ≡ e.1 = sym (head same) in
    ap (λ l. (start, o.length) ∷ l)
    (packed-extents (start + o.length) ids os es (omega (arith, count)) (tail same))
    ∙ ap (λ n. (start, n) ∷ packed_from (start + n) es) size

-- a body that ends where the others begin meets none of them
beyond : (p : Placed) (start : ℕ) (os : List Object) → p.start + p.object.length ≤ start
    → list_all (are_apart p) (packed_objects start os) ≡ true
beyond p start [] le = refl
beyond p start (o ∷ os) le =
    and_from _ _
    (ap (λ b. b || nat_le (start + o.length) p.start)
    (le-leb (p.start + p.object.length) start le))
    (beyond p (start + o.length) os (omega (arith, le)))

packed-apart : (start : ℕ) (os : List Object) → are_all_apart (packed_objects start os) ≡ true
packed-apart start [] = refl
packed-apart start (o ∷ os) =
    and_from _ _
    (beyond (record { object = o; start = start }) (start + o.length) os (omega arith))
    (packed-apart (start + o.length) os)

-- ---- no fault of fields

long-name : (layout : Layout) (name : List ℕ) → is_name (longest_name layout) name ≡ true
    → is_name 255 name ≡ true
long-name One name is = longer_name name is
long-name Two name is = is

moved : (g0 g : Geometry) (layout : Layout) (o : Object) (e : ℕ × ℕ) (start id : ℕ) → IsId id
    → e.1 ≡ o.length → start + o.length ≤ g.area → IsSoundPlaced g0 layout (with_extent o e)
    → IsSoundPlaced g Two (record { object = numbered id o; start = start })
moved g0 g layout o e start id range size fits is =
    let b1 = nat_lt 0 o.tid in
    let b2 = nat_le o.content.content_type 63 in
    let b3 = nat_le o.content.subtype 511 in
    let b4 : ℕ → Bool = λ n. is_within 1 262144 n in
    let b5 = nat_le (e.0 + e.1) g0.area in
    let b6 = is_name (longest_name layout) o.name in
    let h6 = and_parts (b1 && b2 && b3 && b4 e.1 && b5 && b6) (option_map_or is_mime o.mime true)
    is.0 in
    let h5 = and_parts (b1 && b2 && b3 && b4 e.1 && b5) b6 h6.0 in
    let h4 = and_parts (b1 && b2 && b3 && b4 e.1) b5 h5.0 in
    let h3 = and_parts (b1 && b2 && b3) (b4 e.1) h4.0 in
    let h2 = and_parts (b1 && b2) b3 h3.0 in
    let h1 = and_parts b1 b2 h2.0 in
    let here : b4 o.length ≡ true = sym (ap b4 size) ∙ h3.1 in
    let kind = and_from _ _ (and_from _ _ (lt-ltb 0 id range.0) h1.1) h2.1 in (
      and_from _ _
          (and_from _ _
          (and_from _ _ (and_from _ _ kind here) (le-leb (start + o.length) g.area fits))
          (long-name layout o.name h5.1)) h6.1,
      range.1,
    )

all-moved : (g0 g : Geometry) (layout : Layout) (start : ℕ) (ids : List ℕ) (os : List Object)
    (es : List (ℕ × ℕ)) → length ids ≡ length os → AllByRecursion IsId ids → HaveLengths os es
    → start + bytes_of_bodies os ≤ g.area
    → AllByRecursion (IsSoundPlaced g0 layout) (objects_in os es)
    → AllByRecursion (IsSoundPlaced g Two) (packed_objects start (renumbered ids os))
all-moved g0 g layout start [] os es count range same fits a = tt
all-moved g0 g layout start (id ∷ ids) [] es count range same fits a = tt
all-moved g0 g layout start (id ∷ ids) (o ∷ os) [] count range same fits a = cc
all-moved g0 g layout start (id ∷ ids) (o ∷ os) (e ∷ es) count range same fits a =
    let sum = bytes-cons o os in (
      moved g0 g layout o e start id range.0 (head same) (omega (arith, fits, sum)) a.0,
      all-moved g0 g layout (start + o.length) ids os es (omega (arith, count)) range.1 (tail same)
          (omega (arith, fits, sum)) a.1,
    )

-- the ids that are kept are ids
kept-range : (g : Geometry) (layout : Layout) (os : List Object) (es : List (ℕ × ℕ))
    → HaveLengths os es → AllByRecursion (IsSoundPlaced g layout) (objects_in os es)
    → AllByRecursion IsId (map (λ (o : Object). o.tid) os)
kept-range g layout [] es same a = tt
kept-range g layout (o ∷ os) [] same a = cc
kept-range g layout (o ∷ os) (e ∷ es) same a = (
  (placed_in g layout (with_extent o e) a.0).id,
  kept-range g layout os es (tail same) a.1,
)

-- ---- the records

module _ (view : RepositoryView) (g : Geometry) (after : Option ℕ)
    (is : IsWhole view.journal.geometry view.journal.layout (catalogue_in view))
    (paired : ArePaired view.carousel view.extents)
    (last : IsId (unwrap_or after view.carousel.cursor))
    (small : length view.carousel.objects.items ≤ 250)
    (few : length view.carousel.objects.items ≤ g.objects)
    (room : bytes_of_bodies view.carousel.objects.items ≤ g.area) where
  abbrev objects : List Object
  objects = view.carousel.objects.items

  abbrev tids : List ℕ
  tids = map (λ (o : Object). o.tid) objects

  abbrev ids : List ℕ × ℕ
  ids = ids_of_copy view g after

  of-copy : AreIdsOf tids ids
  of-copy =
      let g0 = view.journal.geometry in
      let h = and_parts (is_distinct (view.carousel.directory ∷ placed_tids (objects_in objects
      view.extents))) (are_all_apart (objects_in objects view.extents)) is.good.consistent in
      let count = length-map objects (λ (o : Object). o.tid) in
      are_ids after view.carousel.directory view.carousel.cursor tids last
      (omega (arith, small, count))
      (is.directory, kept-range g0 view.journal.layout objects view.extents paired is.each)
      (sym (ap (λ l. is_distinct (view.carousel.directory ∷ l))
      (kept-tids objects view.extents paired)) ∙ h.0)
      (is_segment_resized g0 g)

  count : length ids.0 ≡ length objects
  count = of-copy.count ∙ length-map objects (λ (o : Object). o.tid)

  copied-whole : IsWhole g Two (packed_catalogue view.carousel ids)
  copied-whole = record {
    good = record {
      consistent = and_from _ _
          (ap (λ l. is_distinct (ids.1 ∷ l))
          (packed-tids 0 (renumbered ids.0 objects) ∙ renumbered-tids ids.0 objects count)
          ∙ of-copy.distinct)
          (packed-apart 0 (renumbered ids.0 objects));
      names = ap are_names_distinct (packed-names 0 (renumbered ids.0 objects)
          ∙ renumbered-names ids.0 objects count)
          ∙ sym (ap are_names_distinct (kept-names objects view.extents paired))
          ∙ is.good.names;
      few =
          let n = packed-length 0 (renumbered ids.0 objects) in
          let m = renumbered-length ids.0 objects count in omega (arith, n, m, few);
    };
    directory = of-copy.range.0;
    cursor = of-copy.range.0;
    each = all-moved view.journal.geometry g view.journal.layout 0 ids.0 objects view.extents count
        of-copy.range.1 paired (omega (arith, room)) is.each;
  }

  -- the records of the copy are what a disk can be made with
  pub are_of_copy : (records : List Record)
      → records ≡ records_of_catalogue (packed_catalogue view.carousel (ids_of_copy view g after))
      → AreOfCopy view g after records
  are_of_copy records same =
      let c = packed_catalogue view.carousel (ids_of_copy view g after) in
      let rewriting = is_rewriting g Two c copied-whole in
      let most = rewriting.few in
      let Meant : List Record → Type 0 = AreOfCopy view g after in
      subst Meant (sym same) (record {
        some = rewriting.some;
        few = omega (arith, most);
        sound = All-from_recursion (λ r. is_sound g Two r ≡ true) (records_of_catalogue c)
            rewriting.sound;
        fold = fold-all g.objects c.period c.directory c.cursor c.objects copied-whole.good;
        objects = few;
        room = let sum = bytes-same objects view.extents paired in omega (arith, room, sum);
      })

-- ---- what a disk with them and its bodies in a row stands for

-- a list that begins with one, and another behind it
row-parts : (n m : ℕ) (xs ys zs : List ℕ) → length ys ≡ n → take (n + m) xs ≡ ys ++ zs
    → (take n xs ≡ ys) × (take m (drop n xs) ≡ zs)
row-parts n m xs ys zs size same =
    let first : take n (take (n + m) xs) ≡ take n xs = take-take n (n + m) xs (omega arith) in (
      sym first ∙ ap (take n) same
          ∙ sym (ap (λ k. take k (ys ++ zs)) size) ∙ take-append_seam ys zs,
      sym (drop-take n m xs) ∙ ap (drop n) same
          ∙ sym (ap (λ k. drop k (ys ++ zs)) size) ∙ drop-append_seam ys zs,
    )

-- objects with their bodies, with these ids
abbrev with_ids : List ℕ → List whole.Object → List whole.Object
with_ids ids objects = map (λ (p : ℕ × whole.Object). record p.1 { tid = p.0 }) (zip ids objects)

module _ (g0 : Geometry) (image : List ℕ) (long : g0.area ≤ length (area_of g0 image))
    (area : List ℕ) where
  abbrev ends : List (ℕ × ℕ) → Type 0
  ends es = AllByRecursion (λ (e : ℕ × ℕ). e.0 + e.1 ≤ g0.area) es

  copied-bodies : (start : ℕ) (ids : List ℕ) (os : List Object) (es : List (ℕ × ℕ))
      → length ids ≡ length os → HaveLengths os es → ends es
      → take (bytes_of_bodies os) (drop start area) ≡ bytes_in_row g0 es image
      → wholes area (packed_objects start (renumbered ids os))
      ≡ with_ids ids (wholes (area_of g0 image) (objects_in os es))
  copied-bodies start [] os es count same within row = refl
  copied-bodies start (id ∷ ids) [] es count same within row = absurd (omega (arith, count))
  copied-bodies start (id ∷ ids) (o ∷ os) [] count same within row = cc
  copied-bodies start (id ∷ ids) (o ∷ os) (e ∷ es) count same within row =
      let from : ℕ = area_start g0 + e.0 in
      let body : List ℕ = slice_range image from (from + e.1) in
      let here : slice_range (area_of g0 image) e.0 (e.0 + e.1) ≡ body =
      area-part g0 image e.0 e.1 in
      let fits = within.0 in
      let rest = length-drop e.0 (area_of g0 image) in
      let long_enough : e.0 + e.1 - e.0 ≡ e.1 = omega arith in
      let size : length body ≡ o.length =
      ap length (sym here)
      ∙ length-take-le (e.0 + e.1 - e.0) (drop e.0 (area_of g0 image))
      (omega (arith, fits, long, rest)) ∙ long_enough ∙ head same in
      let parts = row-parts o.length (bytes_of_bodies os) (drop start area) body
      (bytes_in_row g0 es image) size
      (sym (ap (λ n. take n (drop start area)) (bytes-cons o os)) ∙ row) in
      let more = copied-bodies (start + o.length) ids os es (omega (arith, count)) (tail same)
      within.1 (sym (ap (take (bytes_of_bodies os)) (drop-drop o.length start area)) ∙ parts.1) in
      let taken : start + o.length - start ≡ o.length = omega arith in
      let there : slice_range area start (start + o.length)
      ≡ slice_range (area_of g0 image) e.0 (e.0 + e.1) =
      ap (λ n. take n (drop start area)) taken ∙ parts.0 ∙ sym here in
      let q = numbered id o in
      ap (λ b. object_of q b ∷ wholes area (packed_objects (start + o.length) (renumbered ids os)))
      there
      ∙ ap (λ l. object_of q (slice_range (area_of g0 image) e.0 (e.0 + e.1)) ∷ l) more

ends-of : (g : Geometry) (layout : Layout) (os : List Object) (es : List (ℕ × ℕ))
    → HaveLengths os es → AllByRecursion (IsSoundPlaced g layout) (objects_in os es)
    → AllByRecursion (λ (e : ℕ × ℕ). e.0 + e.1 ≤ g.area) es
ends-of g layout [] [] same a = tt
ends-of g layout [] (e ∷ es) same a = cc
ends-of g layout (o ∷ os) [] same a = cc
ends-of g layout (o ∷ os) (e ∷ es) same a = (
  (placed_in g layout (with_extent o e) a.0).within,
  ends-of g layout os es (tail same) a.1,
)

whole-tids : (area : List ℕ) (os : List Object) (es : List (ℕ × ℕ)) → HaveLengths os es
    → map (λ (o : whole.Object). o.tid) (wholes area (objects_in os es))
    ≡ map (λ (o : Object). o.tid) os
whole-tids area [] es same = refl
whole-tids area (o ∷ os) [] same = cc
whole-tids area (o ∷ os) (e ∷ es) same = ap (λ l. o.tid ∷ l) (whole-tids area os es (tail same))

abbrev made : Geometry → ℕ → ℕ → List whole.Object → List (ℕ × ℕ) → List ℕ → Standing
made g period id objects extents rest = record {
  geometry = g;
  carousel = record { period = period; directory = id; cursor = id; objects = objects };
  extents = extents;
  rest = rest;
}

-- An image that has the records of a copy, and the bodies of an open repository in a row at the
-- beginning of its data area, stands for the copy of what the repository's disk stands for.
pub copy_stands : (view : RepositoryView) (s : Standing) (state : State) → IsHonestDisk state
    → HasStanding view s state → (g : Geometry) (after : Option ℕ) (records : List Record)
    → AreOfCopy view g after records → (image : List ℕ)
    → records_of image ≡ Ok (record { geometry = g; half = 0; layout = Two; records = records })
    → take (bytes_of_extents view.extents) (area_of g image)
    ≡ bytes_in_row view.journal.geometry view.extents state.bytes
    → stands_for image ≡ Ok (copy_of g after s (rest_of g image))
copy_stands view s state sound has g after records of image read row =
    let g0 = view.journal.geometry in
    let layout = view.journal.layout in
    let os = view.carousel.objects.items in
    let es = view.extents in
    let j = with_records view.journal has.records in
    let k = kept_standing view s state sound has in
    let is = k.1 in
    let c = catalogue_in view in
    let fold0 : catalogue_of g0.objects has.records ≡ Ok c = is.fold ∙ ap Ok (sym is.is) in
    let here = stands_by_parts g0 j c state.bytes refl has.read fold0 in
    let standing : standing_of g0 c state.bytes ≡ s =
    same-standing (standing_of g0 c state.bytes) s (sym here ∙ has.stands) in
    let kept : IsWhole g0 layout c = subst (IsWhole g0 layout) (sym is.is) is.whole in
    let area = area_of g0 state.bytes in
    let resized = is_segment_resized g0 g in
    let ids_of : List ℕ → List ℕ × ℕ = λ tids.
    copied_ids after resized view.carousel.directory view.carousel.cursor tids in
    let tids = map (λ (o : Object). o.tid) os in
    let ids = ids_of tids in
    let count = copied_ids-count after resized view.carousel.directory view.carousel.cursor tids
    ∙ length-map os (λ (o : Object). o.tid) in
    let bodies = copied-bodies g0 state.bytes (area-long state.bytes j has.read) (area_of g image)
    0 ids.0 os es count is.paired (ends-of g0 layout os es is.paired kept.each)
    (sym (ap (λ n. take n (area_of g image)) (bytes-same os es is.paired)) ∙ row) in
    let rest = rest_of g image in
    let old = wholes area (objects_in os es) in
    let extents = packed-extents 0 ids.0 os es count is.paired
    ∙ ap (packed_from 0) (sym (extents-objects_in os es is.paired)) in
    let copy = packed_catalogue view.carousel ids in
    let period = view.carousel.period in
    let same : standing_of g copy image ≡ copy_of g after (standing_of g0 c state.bytes) rest =
    ap (λ l. made g period ids.1 l (extents_of copy) rest) bodies
    ∙ ap (λ l. made g period ids.1 (with_ids ids.0 old) l rest) extents
    ∙ ap (λ l. made g period (ids_of l).1 (with_ids (ids_of l).0 old)
    (packed_from 0 (extents_of c)) rest) (sym (whole-tids area os es is.paired)) in
    let made_of : Standing → Result Standing Refusal = λ t. Ok t in
    stands_by_parts g (record { geometry = g; half = 0; layout = Two; records = records })
    copy image refl read of.fold
    ∙ ap made_of same
    ∙ ap (λ t. made_of (copy_of g after t rest)) standing
