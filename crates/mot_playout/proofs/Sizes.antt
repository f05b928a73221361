-- What an image stands for has extents that are as long as the bodies.
use Rattle.std.proofs.Common.{◌≡◌, ℕ, ◌+◌, ◌-◌, ◌≤◌, Bool, true, false, List, [], ◌∷◌, length, map}
use Rattle.std.proofs.Common.{drop, Option, Some, None, Result, Ok, Err, refl, sym, ap, ◌∙◌}
use Rattle.std.proofs.Common.{subst, arith}
use Rattle.std.proofs.lemmas.Bool.{leb-true}
use Rattle.std.proofs.lemmas.List.{length-drop, length-take}
use Rattle.std.specs.List.{AllByRecursion}
use Rattle.std.specs.Prelude.{◌<◌, ◌&&◌, All, nat_le, if◌then◌else◌}
use Rattle.mot_journal.specs.Image.{catalogue_of}
use Rattle.mot_numbers.specs.Refusal.{◌>>=◌ as result_then}
use Rattle.mot_journal.specs.Catalogue.{Catalogue, Placed, body_in_area, carousel_in}
use Rattle.mot_journal.specs.Catalogue.{extents_of}
use Rattle.mot_journal.specs.Geometry.{columns, geometry_in, geometry_of, has_magic}
use Rattle.mot_journal.specs.Image.{DiskRecords, Standing, area_of, records_of, rest_of, stands_for}
use Rattle.mot_journal.proofs.Laws.{geometry_read}
use Rattle.mot_numbers.specs.declared.geometry.Geometry.{Geometry}
use Rattle.mot_numbers.specs.declared.refusal.Refusal.{Refusal}
use Rattle.mot_numbers.specs.Geometry.{area_start, is_valid, length_of}
use Rattle.mot_numbers.specs.Reading.{◌>>=◌}
use Rattle.mot_objects.specs.Carousel.{Object}
use Rattle.mot_objects.specs.Stands.{object_of}
use Rattle.mot_repository.proofs.Laws.{standings-are_sound}
use Rattle.mot_playout.proofs.Room.{AreAsLong}

-- ---- an image is as long as its geometry says

long-if : (a : Bool) (x g : Geometry) (image : List ℕ)
    → (if a && nat_le (length_of x) (length image) then Some x else None) ≡ Some g
    → length_of g ≤ length image
long-if false x g image e = cc
long-if true x g image e = by (nat_le (length_of x) (length image)) refl e
  where
    by : (b : Bool) → nat_le (length_of x) (length image) ≡ b
        → (if b then Some x else None) ≡ Some g → length_of g ≤ length image
    by true fits is =
        let same : x ≡ g = cc in
        subst (λ (y : Geometry). length_of y ≤ length image) same
        (leb-true (length_of x) (length image) fits)
    by false fits is = cc

long-cases : (image : List ℕ) (g : Geometry) (o : Option Geometry)
    → (o >>= λ x. if has_magic image && is_valid x && nat_le (length_of x) (length image) then
    Some x else None) ≡ Some g → length_of g ≤ length image
long-cases image g None e = cc
long-cases image g (Some x) e = long-if (has_magic image && is_valid x) x g image e

long_image : (image : List ℕ) (g : Geometry) → geometry_of image ≡ Some g
    → length_of g ≤ length image
unfolding geometry_of
long_image image g e =
    long-cases image g (geometry_in (columns (8 ∷ 1 ∷ 7 ∷ 2 ∷ 2 ∷ 2 ∷ 2 ∷ 4 ∷ []) image)) e

-- ---- its bodies are as long as their extents

abbrev wholes : List ℕ → List Placed → List Object
wholes area objects = map (λ (p : Placed). object_of p.object (body_in_area area p)) objects

abbrev extents-in : List Placed → List (ℕ × ℕ)
extents-in objects = map (λ (p : Placed). (p.start, p.object.length)) objects

body-long : (g : Geometry) (image : List ℕ) (p : Placed) → length_of g ≤ length image
    → p.start + p.object.length ≤ g.area
    → p.object.length ≡ length (body_in_area (area_of g image) p)
body-long g image p long within =
    let rest : List ℕ = drop (area_start g) image in
    omega (
      arith,
      long,
      within,
      length-drop (area_start g) image,
      length-drop p.start rest,
      length-take (p.start + p.object.length - p.start) (drop p.start rest),
    )

all-long : (g : Geometry) (image : List ℕ) (objects : List Placed) → length_of g ≤ length image
    → AllByRecursion (λ (e : ℕ × ℕ). (1 ≤ e.1) × (e.0 + e.1 ≤ g.area)) (extents-in objects)
    → AreAsLong (extents-in objects) (wholes (area_of g image) objects)
all-long g image [] long within = refl
all-long g image (p ∷ objects) long within =
    ap (λ (n : ℕ). n ∷ map (λ (e : ℕ × ℕ). e.1) (extents-in objects))
    (body-long g image p long within.0.1)
    ∙ ap (λ (l : List ℕ). length (body_in_area (area_of g image) p) ∷ l)
    (all-long g image objects long within.1)

-- ---- what an image stands for

abbrev standing_by : Geometry → Catalogue → List ℕ → Standing
standing_by g c image = record {
  geometry = g;
  carousel = carousel_in (area_of g image) c;
  extents = extents_of c;
  rest = rest_of g image;
}

abbrev IsLong : Standing → Type 0
IsLong s = AreAsLong s.extents s.carousel.objects

abbrev IsWithin : Standing → Type 0
IsWithin s =
    AllByRecursion (λ (e : ℕ × ℕ). (1 ≤ e.1) × (e.0 + e.1 ≤ s.geometry.area)) s.extents

fold-cases : (image : List ℕ) (s : Standing) (j : DiskRecords) (o : Result Catalogue Refusal)
    → length_of j.geometry ≤ length image → IsWithin s
    → result_then o (λ c. Ok (standing_by j.geometry c image)) ≡ Ok s → IsLong s
fold-cases image s j (Err refusal) long within e = cc
fold-cases image s j (Ok c) long within e =
    let same : standing_by j.geometry c image ≡ s = cc in
    subst IsLong same (all-long j.geometry image c.objects long (subst IsWithin (sym same) within))

record-cases : (image : List ℕ) (s : Standing) (o : Result DiskRecords Refusal)
    → records_of image ≡ o → IsWithin s
    → result_then o (λ j. result_then (catalogue_of j.geometry.objects j.records)
    (λ c. Ok (standing_by j.geometry c image))) ≡ Ok s → IsLong s
record-cases image s (Err refusal) read within e = cc
record-cases image s (Ok j) read within e =
    fold-cases image s j (catalogue_of j.geometry.objects j.records)
    (long_image image j.geometry (geometry_read image j read)) within e

-- the extents of what an image of bytes stands for are as long as its bodies
pub long_standing : (image : List ℕ) (s : Standing) → All (λ b. b < 256) image
    → stands_for image ≡ Ok s → AreAsLong s.extents s.carousel.objects
unfolding stands_for
long_standing image s bytes stands =
    let sound = standings-are_sound image s bytes stands in
    record-cases image s (records_of image) refl sound.2 stands
