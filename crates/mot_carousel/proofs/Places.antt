-- The place of the first object that passes a test, by recursion.
use Rattle.std.proofs.Common.{◌≡◌, ℕ, suc, ◌+◌, Bool, true, false, cond, List, [], ◌∷◌, Option}
use Rattle.std.proofs.Common.{Some, None, refl, ap, ◌∙◌, arith, inl, inr}
use Rattle.std.specs.Prelude.{option_map, position, ◌⊎◌}
use Rattle.std.specs.List.{position_from}
use Rattle.std.proofs.lemmas.Iterator.Adapters.{position_from-zero}
use Rattle.mot_objects.specs.declared.object.Object.{Object}

abbrev above : ℕ → Option ℕ → Option ℕ
above k None = None
above k (Some i) = Some (k + i)

above-suc : (k : ℕ) (r : Option ℕ) → above (k + 1) r ≡ above k (option_map suc r)
above-suc k None = refl
above-suc k (Some i) = ap Some (omega arith)

above-zero : (r : Option ℕ) → above 0 r ≡ r
above-zero None = refl
above-zero (Some i) = ap Some (omega arith)

place-cases : (t : Bool) (k : ℕ) (r : Option ℕ)
    → cond t (Some k) (above (k + 1) r) ≡ above k (cond t (Some 0) (option_map suc r))
place-cases true k r = ap Some (omega arith)
place-cases false k r = above-suc k r

-- nothing found in a list: not its first, and nothing in the rest
pub nowhere-cases : (t : Bool) (r : Option ℕ) → cond t (Some 0) (option_map suc r) ≡ None
    → (t ≡ false) × (r ≡ None)
nowhere-cases true r e = cc
nowhere-cases false None e = (refl, refl)
nowhere-cases false (Some i) e = cc

module _ (test : Object → Bool) where
  -- the place of the first object that passes
  abbrev pub place_where : List Object → Option ℕ
  place_where [] = None
  place_where (o ∷ os) = cond (test o) (Some 0) (option_map suc (place_where os))

  place-from : (k : ℕ) (os : List Object) → position_from test k os ≡ above k (place_where os)
  place-from k [] = refl
  place-from k (o ∷ os) =
      ap (cond (test o) (Some k)) (place-from (k + 1) os) ∙ place-cases (test o) k (place_where os)

  -- that is its position
  pub position-place_where : (os : List Object) → position test os ≡ place_where os
  position-place_where os =
      position_from-zero test os ∙ place-from 0 os ∙ above-zero (place_where os)

  -- the first object passes and is at 0, or one is found in the rest, one further on
  abbrev pub LocatedWhere : Object → List Object → ℕ → Type 0
  LocatedWhere o os i = ((test o ≡ true) × (i ≡ 0))
      ⊎ ((j : ℕ) × (test o ≡ false) × (i ≡ suc j) × (place_where os ≡ Some j))

  located-cases : (o : Object) (os : List Object) (i : ℕ) (t : Bool) (r : Option ℕ) → test o ≡ t
      → place_where os ≡ r → cond t (Some 0) (option_map suc r) ≡ Some i → LocatedWhere o os i
  located-cases o os i true r p q e = inl (p, cc)
  located-cases o os i false None p q e = cc
  located-cases o os i false (Some j) p q e = inr (j, p, cc, q)

  -- what is found is the first object, or found in the rest
  pub located_where : (o : Object) (os : List Object) (i : ℕ) → place_where (o ∷ os) ≡ Some i
      → LocatedWhere o os i
  located_where o os i e = located-cases o os i (test o) (place_where os) refl refl e
