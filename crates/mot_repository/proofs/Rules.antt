-- What an image stands for keeps the rules of objects.
use Rattle.std.proofs.Common.{◌≡◌, ℕ, ◌+◌, ◌-◌, ◌<◌, ◌≤◌, List, [], ◌∷◌, length, drop, map, Ok}
use Rattle.std.proofs.Common.{subst, arith}
use Rattle.std.proofs.lemmas.List.{length-take, length-drop}
use Rattle.std.proofs.lemmas.List.Elements.{All-drop, All-take}
use Rattle.std.specs.List.{AllByRecursion}
use Rattle.std.specs.Prelude.{All}
use Rattle.mot_journal.proofs.Laws.{geometry_read}
use Rattle.mot_journal.specs.Image.{catalogue_of, Standing, area_of, stands_for}
use Rattle.mot_journal.specs.Catalogue.{Catalogue, Placed, body_in_area, new_catalogue}
use Rattle.mot_journal.specs.declared.layout.Layout.{Layout}
use Rattle.mot_journal.specs.declared.record.Record.{Record}
use Rattle.mot_numbers.specs.Geometry.{area_start, length_of}
use Rattle.mot_numbers.specs.declared.geometry.Geometry.{Geometry}
use Rattle.mot_objects.specs.Carousel.{AllKeepRules, KeepsRules}
use Rattle.mot_objects.specs.Stands.{object_of}
use Rattle.mot_repository.proofs.Folding.{fold_keeps, is_step}
use Rattle.mot_repository.proofs.Reading.{by_recursion, geometry_is, records_read}
use Rattle.mot_repository.proofs.Soundness.{is_folded, placed_in, whole_fold}
use Rattle.mot_repository.specs.Inner.Whole.{IsSoundPlaced}

area-length : (g : Geometry) (image : List ℕ) → length_of g ≤ length image
    → g.area ≤ length (area_of g image)
area-length g image long =
    omega (
      arith,
      long,
      length-drop (area_start g) image,
    )

area-bytes : (g : Geometry) (image : List ℕ) → All (λ b. b < 256) image
    → All (λ b. b < 256) (area_of g image)
area-bytes g image bytes =
    All-drop (λ b. b < 256) (area_start g) image bytes

module _ (g : Geometry) (layout : Layout) (area : List ℕ) (long : g.area ≤ length area)
    (bytes : All (λ b. b < 256) area) where
  body-length : (p : Placed) → p.start + p.object.length ≤ g.area
      → length (body_in_area area p) ≡ p.object.length
  body-length p within =
      omega (
        arith,
        long,
        within,
        length-take (p.start + p.object.length - p.start) (drop p.start area),
        length-drop p.start area,
      )

  object-keeps : (p : Placed) → IsSoundPlaced g layout p
      → KeepsRules (object_of p.object (body_in_area area p))
  object-keeps p sound =
      let is = placed_in g layout p sound in
      let size = body-length p is.within in
      let some = is.some in
      let short = is.short in
      record {
        name = is.name;
        content = is.content;
        mime = is.mime;
        size = (omega (arith, size, some), omega (arith, size, short));
        bytes = All-take (λ b. b < 256) (p.start + p.object.length - p.start) (drop p.start area)
            (All-drop (λ b. b < 256) p.start area bytes);
      }

  objects-keep : (objects : List Placed) → AllByRecursion (IsSoundPlaced g layout) objects
      → AllByRecursion KeepsRules
      (map (λ (p : Placed). object_of p.object (body_in_area area p)) objects)
  objects-keep [] all = tt
  objects-keep (p ∷ objects) all = (object-keeps p all.0, objects-keep objects all.1)

abbrev HasShortPeriod : Catalogue → Type 0
HasShortPeriod c = c.period ≤ 16777215

period-keeps : (limit : ℕ) (records : List Record) (c : Catalogue)
    → AllByRecursion (λ (r : Record). r.period ≤ 16777215) records
    → catalogue_of limit records ≡ Ok c
    → HasShortPeriod c
period-keeps limit records c each e =
    fold_keeps limit HasShortPeriod (λ (r : Record). r.period ≤ 16777215)
    (λ d next r q f is. subst HasShortPeriod (is_step limit d r next f).is q)
    0 new_catalogue c records each e (omega arith)

-- what an image of bytes stands for keeps the rules of objects and of the period
pub rules_kept : (image : List ℕ) (s : Standing) → All (λ b. b < 256) image
    → stands_for image ≡ Ok s
    → AllKeepRules s.carousel
rules_kept image s bytes stands =
    let f = is_folded image s stands in
    let g = f.journal_in_half.geometry in
    let layout = f.journal_in_half.layout in
    let read = records_read image f.journal_in_half (by_recursion (λ b. b < 256) image bytes)
    f.read in
    let is = whole_fold g layout f.journal_in_half.records f.catalogue read.read f.fold in
    let long = (geometry_is image g (geometry_read image f.journal_in_half f.read)).1 in
    subst (λ (t : Standing). AllKeepRules t.carousel) f.is (record {
      objects = objects-keep g layout (area_of g image) (area-length g image long)
          (area-bytes g image bytes)
          f.catalogue.objects is.each;
      period = period-keeps g.objects f.journal_in_half.records f.catalogue read.periods f.fold;
    })
