-- What is known of all objects of a fold at once.
use Rattle.std.specs.Prelude.{◌≡◌, ◌≤◌, ◌+◌, ◌%◌, ℕ, Bool, true, false, List, All, slice_index_or}
use Rattle.mot_objects.specs.Name.{sum_of}
use Rattle.mot_objects.specs.declared.object.Object.{Object}
use Rattle.mot_repository.specs.declared.opening.bounds.Bounds.{Bounds}

-- the place of a name's flag
abbrev pub flag_of : List ℕ → ℕ
flag_of name = sum_of name % 4096

-- whether a name's flag is on
abbrev pub is_flagged : List Bool → List ℕ → Bool
is_flagged flags name = slice_index_or flags (flag_of name) false

abbrev pub IsFlagged : List Bool → List ℕ → Type 0
IsFlagged flags name = is_flagged flags name ≡ true

-- no object has an id above these bounds
abbrev pub AreIdsWithin : ℕ → List Object → Type 0
AreIdsWithin greatest objects = All (λ (o : Object). o.tid ≤ greatest) objects

-- no extent ends behind the bound
abbrev pub AreEndsWithin : ℕ → List (ℕ × ℕ) → Type 0
AreEndsWithin greatest extents = All (λ (e : ℕ × ℕ). e.0 + e.1 ≤ greatest) extents

-- the flag of each object's name is on
abbrev pub AreNamesFlagged : List Bool → List Object → Type 0
AreNamesFlagged flags objects = All (λ (o : Object). IsFlagged flags o.name) objects

-- the bounds hold of these objects, and of where their bodies lie
pub record AreWithin (bounds : Bounds) (objects : List Object) (extents : List (ℕ × ℕ))
    : Type 0 where
  pub ids : AreIdsWithin bounds.greatest_id objects
  pub ends : AreEndsWithin bounds.greatest_end extents
  pub names : AreNamesFlagged bounds.names objects
