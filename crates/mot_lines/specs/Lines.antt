-- The lines of an input: each ends with 0x0A, and what follows the last 0x0A is one, too, unless it
-- is empty.
use Rattle.std.specs.Prelude.{ℕ, ◌==◌, List, [], ◌∷◌, ◌++◌, ◌≡◌, false, nat_eq, All, ◌+◌, take}
use Rattle.std.specs.List.{slice_split}
use Rattle.mot_groups.specs.Entity.{all_but_last}
use Rattle.mot_lines.specs.declared.line.TheConstants.{MAX_LINE}

-- what stands between line ends; an input with none is one piece
abbrev pub pieces_between : List ℕ → List (List ℕ)
pieces_between input = slice_split (λ b. b == 10) input

-- the last
abbrev pub last_of : List (List ℕ) → List ℕ
last_of [] = []
last_of (x ∷ []) = x
last_of (x ∷ y ∷ zs) = last_of (y ∷ zs)

-- the lines whose end has come
unfoldable pub whole_lines : List ℕ → List (List ℕ)
whole_lines input = all_but_last (pieces_between input)

-- what has come of the next line
unfoldable pub rest_of : List ℕ → List ℕ
rest_of input = last_of (pieces_between input)

abbrev pub unless_empty : List ℕ → List (List ℕ)
unless_empty [] = []
unless_empty (b ∷ bs) = (b ∷ bs) ∷ []

-- all lines
unfoldable pub lines_of : List ℕ → List (List ℕ)
lines_of input = whole_lines input ++ unless_empty (rest_of input)

-- no byte ends a line
abbrev pub HasNoLineEnd : List ℕ → Type 0
HasNoLineEnd bytes = All (λ b. nat_eq b 10 ≡ false) bytes

-- The line in hand.

-- what the hand has of a line: as many of its first bytes as show whether it is too long
abbrev pub bytes_in_hand : List ℕ → List ℕ
bytes_in_hand line = take (MAX_LINE + 1) line
