-- The bodies that lie on a disk.
use Rattle.std.proofs.Common.{◌≡◌, ℕ, ◌+◌, ◌<◌, List, [], ◌∷◌, ◌++◌, length, map, take, replicate}
use Rattle.std.proofs.Common.{refl, sym, ap, ◌∙◌, arith, slice_range, length-take, length-append}
use Rattle.std.proofs.Common.{length-drop, drop, ◌-◌, ◌≤◌}
use Rattle.std.proofs.lemmas.List.{get_or-map, length-replicate}
use Rattle.std.proofs.Math.Seq.{take-append_seam}
use Rattle.mot_numbers.specs.Geometry.{area_start}
use Rattle.mot_numbers.specs.declared.geometry.Geometry.{Geometry}
use Rattle.mot_player.specs.Turn.{body_at}
use Rattle.mot_repository.specs.OnDisk.{extent_at, body_on}
use Rattle.mot_playout.specs.Inner.{filled_up, bytes_in, bodies_on}

pub filled_up-length : (n : ℕ) (xs : List ℕ) → length (filled_up n xs) ≡ n
filled_up-length n xs = omega (
  arith,
  length-take n (xs ++ replicate n 0),
  length-append xs (replicate n 0),
  length-replicate {A = ℕ} n 0,
)

-- where there are enough, none is filled in
pub filled_up-whole : (n : ℕ) (xs : List ℕ) → length xs ≡ n → filled_up n xs ≡ xs
filled_up-whole n xs e =
    ap (λ k. take k (xs ++ replicate n 0)) (sym e) ∙ take-append_seam xs (replicate n 0)

-- each has its extent's length, whatever the image
pub bodies_on-lengths : (g : Geometry) (extents : List (ℕ × ℕ)) (image : List ℕ)
    → map length (bodies_on g extents image) ≡ map (λ (e : ℕ × ℕ). e.1) extents
bodies_on-lengths g [] image = refl
bodies_on-lengths g (e ∷ extents) image =
    let start : ℕ = area_start g + e.0 in
    ap (λ n. n ∷ map length (bodies_on g extents image))
    (filled_up-length e.1 (slice_range image start (start + e.1)))
    ∙ ap (λ l. e.1 ∷ l) (bodies_on-lengths g extents image)

-- a body on a disk is the bytes of its extent, filled up to its length
pub body_at-filled : (g : Geometry) (extents : List (ℕ × ℕ)) (place : ℕ) (image : List ℕ)
    → place < length extents
    → body_at (bodies_on g extents image) place
    ≡ filled_up (extent_at extents place).1 (body_on g extents place image)
body_at-filled g extents place image lt = get_or-map (bytes_in g image) extents place (0, 0) [] lt

-- it has its extent's length, whatever the image
pub body_at-length : (g : Geometry) (extents : List (ℕ × ℕ)) (place : ℕ) (image : List ℕ)
    → place < length extents
    → length (body_at (bodies_on g extents image) place) ≡ (extent_at extents place).1
body_at-length g extents place image lt =
    ap length (body_at-filled g extents place image lt)
    ∙ filled_up-length (extent_at extents place).1 (body_on g extents place image)

body_on-length : (g : Geometry) (extents : List (ℕ × ℕ)) (place : ℕ) (image : List ℕ)
    → area_start g + (extent_at extents place).0 + (extent_at extents place).1 ≤ length image
    → length (body_on g extents place image) ≡ (extent_at extents place).1
body_on-length g extents place image fits =
    let start : ℕ = area_start g + (extent_at extents place).0 in
    let n : ℕ = (extent_at extents place).1 in
    omega (
      arith,
      fits,
      length-take (start + n - start) (drop start image),
      length-drop start image,
    )

-- where the image has it whole, it is the bytes of its extent
pub body_at-whole : (g : Geometry) (extents : List (ℕ × ℕ)) (place : ℕ) (image : List ℕ)
    → place < length extents
    → area_start g + (extent_at extents place).0 + (extent_at extents place).1 ≤ length image
    → body_at (bodies_on g extents image) place ≡ body_on g extents place image
body_at-whole g extents place image lt fits =
    body_at-filled g extents place image lt
    ∙ filled_up-whole (extent_at extents place).1 (body_on g extents place image)
    (body_on-length g extents place image fits)
