-- Where on the disk a body lies, and what is read there.
use Rattle.std.proofs.Common.{◌≡◌, ℕ, zero, suc, ◌+◌, ◌-◌, ◌<◌, ◌≤◌, true, ◌&&◌, List, [], ◌∷◌}
use Rattle.std.proofs.Common.{length, map, take, drop, slice_range, refl, sym, ap, ◌∙◌, subst}
use Rattle.std.proofs.Common.{arith}
use Rattle.std.proofs.lemmas.List.{take-take, drop-take, drop-drop}
use Rattle.std.proofs.lemmas.Bool.{and_parts, leb-true}
use Rattle.std.specs.Prelude.{nat_le}
use Rattle.std.specs.List.{AllByRecursion}
use Rattle.disk_model.specs.Disk.{State, IsHonestDisk}
use Rattle.mot_journal.specs.declared.layout.Layout.{Layout}
use Rattle.mot_journal.specs.Catalogue.{Placed}
use Rattle.mot_journal.specs.Gaps.{standing_of}
use Rattle.mot_journal.specs.Image.{Standing, area_of}
use Rattle.mot_journal.specs.Journal.{with_records}
use Rattle.mot_journal.proofs.Laws.{stands_by_parts}
use Rattle.mot_numbers.specs.declared.geometry.Geometry.{Geometry}
use Rattle.mot_numbers.specs.Geometry.{area_start, is_valid, is_within, is_packet_length}
use Rattle.mot_objects.specs.declared.carousel.Carousel.{Carousel}
use Rattle.mot_objects.specs.declared.object.Object.{Object}
use Rattle.mot_repository.specs.Inner.Extents.{objects_in, catalogue_with}
use Rattle.mot_repository.specs.OnDisk.{ArePaired, extent_at, body_on}
use Rattle.mot_repository.specs.Repository.{RepositoryView, object_body, HasStanding}
use Rattle.mot_repository.specs.Inner.Whole.{IsSoundPlaced, IsWhole}
use Rattle.mot_repository.proofs.Preparing.{kept_standing, same-standing, wholes}
use Rattle.mot_repository.proofs.Soundness.{placed_in, extents-in}

-- a part of a part
pub part_of_part : (xs : List ℕ) (at size from n : ℕ) → from + n ≤ size
    → slice_range (slice_range xs at (at + size)) from (from + n)
    ≡ slice_range xs (at + from) (at + from + n)
part_of_part xs at size from n within =
    let k : ℕ = from + n - from in
    let rest : List ℕ = drop at xs in
    let parts : at + size - at ≡ from + (size - from) = omega (arith, within) in
    let count : k ≡ at + from + n - (at + from) = omega arith in
    ap (λ m. take k (drop from (take m rest))) parts
    ∙ ap (take k) (drop-take from (size - from) rest)
    ∙ take-take k (size - from) (drop from rest) (omega (arith, within))
    ∙ ap (take k) (drop-drop from at xs) ∙ ap (λ m. take m (drop (at + from) xs)) count

-- a part of the data area
pub area-part : (g : Geometry) (image : List ℕ) (from n : ℕ)
    → slice_range (area_of g image) from (from + n)
    ≡ slice_range image (area_start g + from) (area_start g + from + n)
area-part g image from n =
    let at : ℕ = area_start g in
    let k : ℕ = from + n - from in
    let count : k ≡ at + from + n - (at + from) = omega arith in
    ap (take k) (drop-drop from at image) ∙ ap (λ m. take m (drop (at + from) image)) count

body-lies : (g : Geometry) (layout : Layout) (image : List ℕ) (objects : List Placed)
    → AllByRecursion (IsSoundPlaced g layout) objects
    → (place : ℕ) → place < length (extents-in objects)
    → object_body (wholes (area_of g image) objects) place
    ≡ body_on g (extents-in objects) place image
body-lies g layout image [] a place lt = absurd (omega (arith, lt))
body-lies g layout image (p ∷ objects) a zero lt =
    area-part g image p.start p.object.length
body-lies g layout image (p ∷ objects) a (suc place) lt =
    body-lies g layout image objects a.1 place (omega (arith, lt))

-- an object's body lies where its extent says
pub body_held : (view : RepositoryView) (s : Standing) (state : State) → IsHonestDisk state
    → HasStanding view s state
    → (place : ℕ) → place < length view.extents
    → object_body s.carousel.objects place
    ≡ body_on view.journal.geometry view.extents place state.bytes
body_held view s state sound has place lt =
    let k = kept_standing view s state sound has in
    let c = k.0 in
    let is = k.1 in
    let g = view.journal.geometry in
    let image = state.bytes in
    let here = stands_by_parts g (with_records view.journal has.records) c image refl has.read
    is.fold in
    let standing = same-standing (standing_of g c image) s (sym here ∙ has.stands) in
    let few : place < length (extents-in c.objects) =
    subst (λ (l : List (ℕ × ℕ)). place < length l) is.extents lt in
    sym (ap (λ (t : Standing). object_body t.carousel.objects place) standing)
    ∙ body-lies g view.journal.layout image c.objects is.whole.each place few
    ∙ sym (ap (λ (l : List (ℕ × ℕ)). body_on g l place image) is.extents)

extent-lies : (g : Geometry) (layout : Layout) (objects : List Object) (extents : List (ℕ × ℕ))
    → map (λ (e : ℕ × ℕ). e.1) extents ≡ map (λ (o : Object). o.length) objects
    → AllByRecursion (IsSoundPlaced g layout) (objects_in objects extents) → (place : ℕ)
    → place < length extents
    → (extent_at extents place).0 + (extent_at extents place).1 ≤ g.area
extent-lies g layout objects [] paired a place lt = absurd (omega (arith, lt))
extent-lies g layout [] (e ∷ extents) paired a place lt = cc
extent-lies g layout (o ∷ objects) (e ∷ extents) paired a zero lt =
    let placed : Placed = record {
      object = record {
        name = o.name;
        content = o.content;
        mime = o.mime;
        version = o.version;
        tid = o.tid;
        length = e.1;
      };
      start = e.0;
    } in
    (placed_in g layout placed a.0).within
extent-lies g layout (o ∷ objects) (e ∷ extents) paired a (suc place) lt =
    let rest : map (λ (x : ℕ × ℕ). x.1) extents ≡ map (λ (x : Object). x.length) objects = cc in
    extent-lies g layout objects extents rest a.1 place (omega (arith, lt))

-- each body lies in the data area
pub extent_within : (g : Geometry) (layout : Layout) (carousel : Carousel) (extents : List (ℕ × ℕ))
    → IsWhole g layout (catalogue_with carousel extents) → ArePaired carousel extents → (place : ℕ)
    → place < length extents
    → (extent_at extents place).0 + (extent_at extents place).1 ≤ g.area
extent_within g layout carousel extents is paired =
    extent-lies g layout carousel.objects.items extents paired is.each

-- a valid geometry's data area is not large
pub small_area : (g : Geometry) → is_valid g ≡ true → g.area ≤ 268435456
small_area g valid =
    let b1 = is_within 1 250 g.objects in
    let b2 = is_within 1 268435456 g.area in
    let b3 = is_within 64 8189 g.segment in
    let b4 = is_within 1 1023 g.address in
    let h4 = and_parts (b1 && b2 && b3 && b4) (is_packet_length g.packet) valid in
    let h3 = and_parts (b1 && b2 && b3) b4 h4.0 in
    let h2 = and_parts (b1 && b2) b3 h3.0 in
    let h1 = and_parts b1 b2 h2.0 in
    leb-true g.area 268435456
    (and_parts (nat_le 1 g.area) (nat_le g.area 268435456) h1.1).1
