-- What is left of a turn, and a body's own segments among it.
use Rattle.std.proofs.Common.{◌≡◌, ℕ, ◌+◌, ◌<◌, Bool, true, false, List, [], ◌∷◌, ◌++◌, Option}
use Rattle.std.proofs.Common.{refl, arith}
use Rattle.std.proofs.lemmas.Bool.{and_parts}
use Rattle.std.specs.Prelude.{◌==◌, ◌&&◌, filter, if◌then◌else◌}
use Rattle.mot_groups.specs.Entity.{numbered_segments, own_segments}
use Rattle.mot_groups.specs.Group.{Segment}
use Rattle.mot_numbers.specs.Reading.{is_empty}
use Rattle.mot_player.specs.Place.{Place, UnderWay, directory_segments, left_with, of_bodies}
use Rattle.mot_player.specs.Staying.{HasDirectory}
use Rattle.mot_player.specs.Turn.{Turn}

-- a test behind a wider one
within-cases : (p : Segment → Bool) (x : Segment) (ys zs : List Segment) (b c : Bool) →
    p x ≡ c → (c ≡ true → b ≡ true) → filter p ys ≡ zs →
    filter p (if b then x ∷ ys else ys) ≡ (if c then x ∷ zs else zs)
within-cases p x ys zs b c e w h = grind arith

pub filter-within : (p q : Segment → Bool) → ((s : Segment) → p s ≡ true → q s ≡ true) →
    (xs : List Segment) → filter p (filter q xs) ≡ filter p xs
filter-within p q w [] = refl
filter-within p q w (x ∷ xs) =
    within-cases p x (filter q xs) (filter p xs) (q x) (p x) refl (w x) (filter-within p q w xs)

-- the test of a body's own segments
abbrev pub own : ℕ → Segment → Bool
own id = λ (s : Segment). s.kind == 4 && s.tid == id

pub own-of_bodies : (id : ℕ) (xs : List Segment) → own_segments 4 id (of_bodies xs)
    ≡ own_segments 4 id xs
own-of_bodies id xs = grind (arith, filter-within, and_parts)

pub own-directory : (id tid n : ℕ) (ps : List (List ℕ)) →
    own_segments 4 id (numbered_segments 6 tid n ps) ≡ []
own-directory id tid n [] = refl
own-directory id tid n (p ∷ ps) = own-directory id tid (n + 1) ps

pub some-directory : (turn : Turn) (size : ℕ) → 0 < size → HasDirectory turn →
    is_empty (directory_segments turn size) ≡ false
some-directory turn size some has = grind arith

pub is_empty-append : (xs ys : List Segment) → is_empty xs ≡ false → is_empty (xs ++ ys) ≡ false
is_empty-append xs ys e = grind arith

-- where some wait, those are left
pub left-some : (place : Place) (u : Option UnderWay) → is_empty place.waiting ≡ false →
    left_with place u ≡ place.waiting
left-some place u e = grind arith
