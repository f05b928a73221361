-- Bodies beside a range of the data area.
use Rattle.std.specs.Prelude.{ℕ, ◌+◌, ◌≤◌, ◌⊎◌, List, [], ◌∷◌}
use Rattle.mot_journal.specs.Catalogue.{Placed, Catalogue, carousel_in, extents_of}
use Rattle.mot_journal.specs.Image.{Standing, area_of, rest_of}
use Rattle.mot_numbers.specs.declared.geometry.Geometry.{Geometry}

-- the body lies in the data area, and before the range or after it
pub record IsBeside (g : Geometry) (from n : ℕ) (p : Placed) : Type 0 where
  pub within : p.start + p.object.length ≤ g.area
  pub beside : (p.start + p.object.length ≤ from) ⊎ (from + n ≤ p.start)

-- so does each object's
abbrev pub AreBeside : Geometry → ℕ → ℕ → List Placed → Type 0
AreBeside g from n [] = Unit {0}
AreBeside g from n (p ∷ objects) = IsBeside g from n p × AreBeside g from n objects

-- what an image stands for, by the fold of its records and its data area
abbrev pub standing_of : Geometry → Catalogue → List ℕ → Standing
standing_of g c image = record {
  geometry = g;
  carousel = carousel_in (area_of g image) c;
  extents = extents_of c;
  rest = rest_of g image;
}
