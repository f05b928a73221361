-- Ids that are taken one after the other are new ones, and as many as are asked for.
use Rattle.std.proofs.Common.{◌≡◌, ℕ, zero, suc, ◌+◌, ◌<◌, ◌≤◌, false, not, List, [], ◌∷◌}
use Rattle.std.proofs.Common.{◌++◌, length, refl, sym, ap, ◌∙◌, arith, length-append, append_assoc}
use Rattle.std.proofs.lemmas.Bool.{and_parts, and_from, or_parts, or_from, not-true, not_from_false}
use Rattle.std.proofs.lemmas.Bool.{ne_eqb, eqb-false}
use Rattle.std.proofs.lemmas.List.Folds.{list_any-append}
use Rattle.std.specs.Prelude.{nat_eq, ◌||◌}
use Rattle.std.specs.List.{AllByRecursion}
use Rattle.mot_carousel.specs.NewIds.{new_ids, AreNewIds}
use Rattle.mot_objects.specs.Ids.{contains, is_distinct, next_free_id}
use Rattle.mot_objects.proofs.Laws.{next_free_id-nearest}

-- an id that is neither among the used nor one more
split : (used : List ℕ) (id x : ℕ) → contains (used ++ id ∷ []) x ≡ false
    → (contains used x ≡ false) × (nat_eq x id ≡ false)
split used id x e =
    let parts = or_parts (contains used x) (nat_eq x id || false)
    (sym (list_any-append (nat_eq x) used (id ∷ [])) ∙ e) in
    (parts.0, (or_parts (nat_eq x id) false parts.1).0)

nat_eq-other : (x y : ℕ) → nat_eq x y ≡ false → nat_eq y x ≡ false
nat_eq-other x y e = ne_eqb y x (λ f. eqb-false x y e (sym f))

-- where none of them is used nor one more, none is used, and the one is not among them
others : (used : List ℕ) (id : ℕ) (xs : List ℕ)
    → AllByRecursion (λ x. contains (used ++ id ∷ []) x ≡ false) xs
    → AllByRecursion (λ x. contains used x ≡ false) xs × (contains xs id ≡ false)
others used id [] a = (tt, refl)
others used id (x ∷ xs) a =
    let here = split used id x a.0 in
    let rest = others used id xs a.1 in (
      (here.0, rest.0),
      or_from (nat_eq id x) (contains xs id) (nat_eq-other x id here.1) rest.1,
    )

pub new_ids-count : (n last : ℕ) (used : List ℕ) → length (new_ids n last used).0 ≡ n
new_ids-count zero last used = refl
new_ids-count (suc n) last used =
    let id = next_free_id last used in ap suc (new_ids-count n id (used ++ id ∷ []))

-- if fewer ids are used, and taken, than there are, the directory's and the objects' are new
pub new_ids-new : (n last : ℕ) (used : List ℕ) → 1 ≤ last → last ≤ 65535
    → length used + n < 65535
    → AreNewIds used ((new_ids n last used).1 ∷ (new_ids n last used).0)
new_ids-new zero last used low high few =
    let nearest = next_free_id-nearest last used low high (omega (arith, few)) in record {
      range = (nearest.in_range, tt);
      unused = (nearest.free, tt);
      distinct = refl;
    }
new_ids-new (suc n) last used low high few =
    let id = next_free_id last used in
    let nearest = next_free_id-nearest last used low high (omega (arith, few)) in
    let more = length-append used (id ∷ []) in
    let ids = new_ids n id (used ++ id ∷ []) in
    let rest = new_ids-new n id (used ++ id ∷ []) nearest.in_range.0 nearest.in_range.1
    (omega (arith, few, more)) in
    let apart = others used id (ids.1 ∷ ids.0) rest.unused in
    let other = or_parts (nat_eq id ids.1) (contains ids.0 id) apart.1 in
    let last_one = split used id ids.1 rest.unused.0 in
    let differ = and_parts (not (contains ids.0 ids.1)) (is_distinct ids.0) rest.distinct in
    record {
      range = (rest.range.0, (nearest.in_range, rest.range.1));
      unused = (apart.0.0, (nearest.free, apart.0.1));
      distinct = and_from _ _
          (not_from_false _ (or_from (nat_eq ids.1 id) (contains ids.0 ids.1) last_one.1
          (not-true _ differ.0)))
          (and_from _ _ (not_from_false _ other.1) differ.1);
    }

-- one id more is taken
pub new_ids-step : (n m last id : ℕ) (used ids : List ℕ) → n ≡ suc m → id ≡ next_free_id last used
    → (ids ++ (new_ids n last used).0
    ≡ (ids ++ id ∷ []) ++ (new_ids m id (used ++ id ∷ [])).0)
    × ((new_ids n last used).1 ≡ (new_ids m id (used ++ id ∷ [])).1)
new_ids-step n m last id used ids count is =
    let next = next_free_id last used in
    let rest : ℕ → List ℕ × ℕ = λ i. new_ids m i (used ++ i ∷ []) in (
      ap (λ k. ids ++ (new_ids k last used).0) count
          ∙ sym (append_assoc ids (next ∷ []) (rest next).0)
          ∙ ap (λ i. (ids ++ i ∷ []) ++ (rest i).0) (sym is),
      ap (λ k. (new_ids k last used).1) count ∙ ap (λ i. (rest i).1) (sym is),
    )
