-- How many packets the groups of segments take, and those of them that are of no body.
use Rattle.std.proofs.Common.{◌≡◌, ℕ, ◌+◌, ◌≤◌, List, [], ◌∷◌, ◌++◌, Bool, true, false, refl, sym}
use Rattle.std.proofs.Common.{length, ap, ◌∙◌, arith, eq-eqb}
use Rattle.std.proofs.lemmas.List.Sums.{sum_by-cons}
use Rattle.std.specs.Prelude.{◌==◌, if◌then◌else◌}
use Rattle.std.specs.Int.{div_ceil}
use Rattle.std.specs.List.{AllByRecursion}
use Rattle.mot_groups.specs.Group.{Segment}
use Rattle.mot_player.specs.Place.{directory_segments, of_bodies, packets_of_segments}
use Rattle.mot_player.specs.Turn.{Turn, segments_of_bodies, segments_of_turn}
use Rattle.mot_player.proofs.Laws.{bodies-bodies}

-- how many packets the groups of segments take
unfoldable pub packets_for : ℕ → List Segment → ℕ
packets_for room [] = 0
packets_for room (s ∷ segments) = div_ceil (length s.bytes + 11) room + packets_for room segments

pub packets-are : (room : ℕ) (segments : List Segment) →
    packets_for room segments ≡ packets_of_segments room segments
unfolding packets_for
packets-are room [] = refl
packets-are room (s ∷ segments) =
    ap (λ (n : ℕ). div_ceil (length s.bytes + 11) room + n) (packets-are room segments)
    ∙ sym (sum_by-cons (λ (s : Segment). div_ceil (length s.bytes + 11) room) s segments)

pub packets-append : (room : ℕ) (xs ys : List Segment) →
    packets_for room (xs ++ ys) ≡ packets_for room xs + packets_for room ys
unfolding packets_for
packets-append room [] ys = omega arith
packets-append room (x ∷ xs) ys =
    omega (arith, packets-append room xs ys)

fewer-bodies : (room n k : ℕ) (b : Bool) (x : Segment) (ys : List Segment) →
    packets_for room ys ≤ k → n ≡ div_ceil (length x.bytes + 11) room →
    packets_for room (if b then x ∷ ys else ys) ≤ n + k
unfolding packets_for
fewer-bodies room n k true x ys l e = omega (arith, l, e)
fewer-bodies room n k false x ys l e = omega (arith, l)

pub packets-bodies : (room : ℕ) (xs : List Segment) →
    packets_for room (of_bodies xs) ≤ packets_for room xs
unfolding packets_for
packets-bodies room [] = omega arith
packets-bodies room (x ∷ xs) =
    fewer-bodies room (div_ceil (length x.bytes + 11) room) (packets_for room xs) (x.kind == 4) x
    (of_bodies xs) (packets-bodies room xs) refl

-- of segments, how many packets those take that are of no body
unfoldable pub front_for : ℕ → List Segment → ℕ
front_for room [] = 0
front_for room (s ∷ segments) =
    (if s.kind == 4 then 0 else div_ceil (length s.bytes + 11) room) + front_for room segments

pub front-nil : (room : ℕ) → front_for room [] ≡ 0
unfolding front_for
front-nil room = refl

pub front-append : (room : ℕ) (xs ys : List Segment) →
    front_for room (xs ++ ys) ≡ front_for room xs + front_for room ys
unfolding front_for
front-append room [] ys = omega arith
front-append room (x ∷ xs) ys = omega (arith, front-append room xs ys)

-- all are of no body, or of bodies
all-cases : (room n a b : ℕ) (is : Bool) (x : Segment) (ys : List Segment) →
    n ≡ div_ceil (length x.bytes + 11) room → a ≡ b + packets_for room ys →
    n + a ≡ ((if is then 0 else n) + b) + packets_for room (if is then x ∷ ys else ys)
unfolding packets_for
all-cases room n a b true x ys e h = omega (arith, e, h)
all-cases room n a b false x ys e h = omega (arith, h)

pub front-all : (room : ℕ) (xs : List Segment) →
    packets_for room xs ≡ front_for room xs + packets_for room (of_bodies xs)
unfolding packets_for front_for
front-all room [] = refl
front-all room (x ∷ xs) =
    all-cases room (div_ceil (length x.bytes + 11) room) (packets_for room xs) (front_for room xs)
    (x.kind == 4) x (of_bodies xs) refl (front-all room xs)

pub front-none : (room : ℕ) (xs : List Segment) → AllByRecursion (λ (s : Segment). s.kind ≡ 4) xs →
    front_for room xs ≡ 0
unfolding front_for
front-none room [] k = refl
front-none room (x ∷ xs) k =
    omega (
      arith,
      ap (λ (b : Bool). if b then 0 else div_ceil (length x.bytes + 11) room)
          (eq-eqb x.kind 4 k.0),
      front-none room xs k.1,
    )

-- those of bodies are none of them
body-cases : (room : ℕ) (x : Segment) (ys : List Segment) (b : Bool) → (x.kind == 4) ≡ b →
    front_for room ys ≡ 0 → front_for room (if b then x ∷ ys else ys) ≡ 0
unfolding front_for
body-cases room x ys true e none =
    omega (
      arith,
      ap (λ (b : Bool). if b then 0 else div_ceil (length x.bytes + 11) room) e,
      none,
    )
body-cases room x ys false e none = none

pub front-bodies : (room : ℕ) (xs : List Segment) → front_for room (of_bodies xs) ≡ 0
unfolding front_for
front-bodies room [] = refl
front-bodies room (x ∷ xs) =
    body-cases room x (of_bodies xs) (x.kind == 4) refl (front-bodies room xs)

-- of a turn they take no more than the directory
pub front-behind : (room : ℕ) (xs ys : List Segment) →
    AllByRecursion (λ (s : Segment). s.kind ≡ 4) ys →
    front_for room (xs ++ ys) ≤ packets_for room xs
front-behind room xs ys k =
    omega (arith, front-append room xs ys, front-none room ys k, front-all room xs)

pub front-turn : (room size : ℕ) (turn : Turn) →
    front_for room (segments_of_turn turn size) ≤ packets_for room (directory_segments turn size)
front-turn room size turn =
    front-behind room (directory_segments turn size) (segments_of_bodies size turn.bodies)
    (bodies-bodies size turn.bodies)

-- fewer segments, fewer packets
pub front-rest : (room : ℕ) (x : Segment) (xs : List Segment) →
    front_for room xs ≤ front_for room (x ∷ xs)
unfolding front_for
front-rest room x xs = omega arith
