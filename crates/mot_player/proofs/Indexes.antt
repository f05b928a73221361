-- The index that a group gets is the one that the contents before it give.
use Rattle.std.proofs.Common.{◌≡◌, ℕ, ◌+◌, ◌%◌, ◌<◌, List, [], ◌∷◌, ◌++◌, Bool, Option, Some, None}
use Rattle.std.proofs.Common.{length, arith, append_assoc}
use Rattle.std.proofs.lemmas.List.{map-append}
use Rattle.std.proofs.lemmas.List.Elements.{filter-append}
use Rattle.std.specs.Prelude.{if◌then◌else◌, bytes_eq}
use Rattle.mot_groups.specs.Group.{GroupFields, bytes_of_group}
use Rattle.mot_player.specs.Continuity.{kind_of, group_index, contents, changes}
use Rattle.mot_player.specs.Place.{Last, next_index}

-- what is kept of the last group is its content, and how often the content of its type has changed
abbrev pub IsLast : Option Last → List (List ℕ) → Type 0
IsLast None cs = cs ≡ []
IsLast (Some last) cs =
    (before : List (List ℕ)) × (cs ≡ before ++ last.content ∷ []) × (last.index ≡ changes cs % 16)

changes-more : (before : List (List ℕ)) (c d : List ℕ) →
    changes (before ++ c ∷ d ∷ []) ≡ changes (before ++ c ∷ []) + (if bytes_eq c d then 0 else 1)
changes-more [] c d = omega arith
changes-more (x ∷ []) c d = omega arith
changes-more (x ∷ y ∷ before) c d =
    omega (arith, changes-more (y ∷ before) c d)

one-more : (same : Bool) (last index changed : ℕ) → last ≡ changed % 16 →
    (if same then last else (last + 1) % 16) ≡ (changed + (if same then 0 else 1)) % 16
one-more same last index changed e = grind arith

-- a content with its next index is the last one behind the contents before it
pub IsLast-next : (last : Option Last) (cs : List (List ℕ)) (content : List ℕ) → IsLast last cs →
    IsLast (Some (record { index = next_index last content; content = content }))
    (cs ++ content ∷ [])
IsLast-next last cs content e = grind (arith, append_assoc, changes-more, one-more)

-- the contents of a type of two runs of groups, one after the other
pub contents-append : (kind : ℕ) (groups more : List (List ℕ)) →
    contents kind (groups ++ more) ≡ contents kind groups ++ contents kind more
contents-append kind groups more =
    grind (arith, filter-append, map-append)

-- the type and the index in a group's first two bytes
pub kind_of-group : (g : GroupFields) → g.segment.kind < 16
    → kind_of (bytes_of_group g) ≡ g.segment.kind
unfolding bytes_of_group
kind_of-group g k = omega arith

-- the index in the bytes of a group is the group's
pub group_index-group : (g : GroupFields) → group_index (bytes_of_group g) ≡ g.index
unfolding bytes_of_group
group_index-group g = omega arith

-- a group has at least one byte
pub some_bytes-group : (g : GroupFields) → 0 < length (bytes_of_group g)
unfolding bytes_of_group
some_bytes-group g = omega arith
