-- The ids that objects and the directory take where all of them take new ones (own rule).
use Rattle.std.specs.Prelude.{◌≡◌, ℕ, zero, suc, ◌≤◌, true, false, List, [], ◌∷◌, ◌++◌}
use Rattle.std.specs.List.{AllByRecursion}
use Rattle.mot_objects.specs.Ids.{contains, is_distinct, next_free_id}

-- Ids for so many objects in order, and then the directory's, where the last was taken before them:
-- going up, each is the next free one, and used from then on.
abbrev pub new_ids : ℕ → ℕ → List ℕ → List ℕ × ℕ
new_ids zero last used = ([], next_free_id last used)
new_ids (suc n) last used =
    let id = next_free_id last used in
    let rest = new_ids n id (used ++ id ∷ []) in
    (id ∷ rest.0, rest.1)

-- ids that differ, of which none was used
pub record AreNewIds (used ids : List ℕ) : Type 0 where
  pub range : AllByRecursion (λ id. (1 ≤ id) × (id ≤ 65535)) ids
  pub unused : AllByRecursion (λ id. contains used id ≡ false) ids
  pub distinct : is_distinct ids ≡ true
