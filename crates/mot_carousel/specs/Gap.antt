-- Where in the data area a new body goes (own rule).
use Rattle.std.specs.Prelude.{◌≡◌, ℕ, zero, suc, ◌+◌, ◌-◌, ◌<◌, ◌≤◌, Bool, ◌||◌, nat_le}
use Rattle.std.specs.Prelude.{if◌then◌else◌, List, Option, Some, None, is_none, MatchOption, sum_by}
use Rattle.std.specs.List.{list_all}

-- n bytes from a start on meet no part of an extent
abbrev pub is_beside : ℕ → ℕ → ℕ × ℕ → Bool
is_beside start n extent = nat_le (start + n) extent.0 || nat_le (extent.0 + extent.1) start

abbrev pub is_free : List (ℕ × ℕ) → ℕ → ℕ → Bool
is_free extents n start = list_all (is_beside start n) extents

-- the first free start of so many from this one on
abbrev pub first_free : ℕ → ℕ → List (ℕ × ℕ) → ℕ → Option ℕ
first_free zero start extents n = None
first_free (suc left) start extents n =
    if is_free extents n start then Some start else first_free left (start + 1) extents n

-- the least start of n bytes that lie in an area of this size and meet no extent
unfoldable pub least_gap : List (ℕ × ℕ) → ℕ → ℕ → Option ℕ
least_gap extents n size = if nat_le n size then first_free (size - n + 1) 0 extents n else None

-- so many bytes lie in an area of this size and meet no extent, and no more do in one piece
pub record IsLongestGap (extents : List (ℕ × ℕ)) (size gap : ℕ) : Type 0 where
  pub fits : is_none (least_gap extents gap size) ≡ Bool.false
  pub longest : (n : ℕ) → gap < n → least_gap extents n size ≡ None

-- the same said of an answer: what a search may be proved against
abbrev pub IsLeastGap : List (ℕ × ℕ) → ℕ → ℕ → Option ℕ → Type 0
IsLeastGap extents n size answer =
    let fits : ℕ → Type 0 = λ start. (start + n ≤ size) × (is_free extents n start ≡ Bool.true) in
    MatchOption answer ((start : ℕ) → fits start → ⊥)
    (λ found. fits found × ((start : ℕ) → fits start → found ≤ start))

-- the same extents in some order: whatever numbers they have, these add up to the same
abbrev pub AreReordered : List (ℕ × ℕ) → List (ℕ × ℕ) → Type 0
AreReordered xs ys = (f : ℕ × ℕ → ℕ) → sum_by f ys ≡ sum_by f xs
