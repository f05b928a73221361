-- The next free id is the nearest one.
use Rattle.std.proofs.Common.{◌≡◌, ℕ, suc, zero, ◌+◌, ◌-◌, ◌%◌, ◌<◌, ◌≤◌, List, [], ◌∷◌, Bool, true}
use Rattle.std.proofs.Common.{false, ◌||◌, refl, length, ap, ◌∙◌, sym, arith, inl, inr}
use Rattle.std.proofs.lemmas.Bool.{eqb-true, false≢true, ne_eqb, cases_lt}
use Rattle.std.proofs.lemmas.Map.Made.{length-le_from_is_member}
use Rattle.std.specs.Cmp.{nat_eq_equiv}
use Rattle.std.specs.Prelude.{nat_eq}
use Rattle.std.specs.List.{list_any, IsDistinct, AllByRecursion}
use Rattle.mot_objects.specs.Ids.{contains, id_after, first_unused, next_free_id, distance_above}
use Rattle.mot_objects.specs.Ids.{IsNearestFree}

-- the id k places after one
abbrev nth : ℕ → ℕ → ℕ
nth id k = (id + k + 65534) % 65535 + 1

nth-zero : (id : ℕ) → 0 < id → id < 65536 → nth id 0 ≡ id
nth-zero id p q = omega arith

record Found (n id : ℕ) (used : List ℕ) : Type 0 where
  -- how many ids the search has passed
  pub place : ℕ
  -- it passes at most as many as it may
  pub within : place ≤ n
  -- the search ends at the id that lies so far on
  pub is : first_unused n id used ≡ nth id place
  -- each id that it passed is used
  pub before : (k : ℕ) → k < place → contains used (nth id k) ≡ true
  -- where it passed fewer than it may, the id is not used
  pub free : place < n → contains used (nth id place) ≡ false

nth-step : (id k : ℕ) → nth (id_after id) k ≡ nth id (suc k)
nth-step id k = omega arith

found-used : (n id : ℕ) (used : List ℕ) → 0 < id → id < 65536 → contains used id ≡ true
    → Found n (id_after id) used → Found (suc n) id used
found-used n id used p q h rest = record {
  place = suc rest.place;
  within = omega (arith, rest.within);
  is = rw h (rest.is ∙ nth-step id rest.place);
  before = before;
  free = λ k. ap (contains used) (sym (nth-step id rest.place)) ∙ rest.free (omega arith);
}
  where
    before : (k : ℕ) → k < suc rest.place → contains used (nth id k) ≡ true
    before zero l = ap (contains used) (nth-zero id p q) ∙ h
    before (suc k) l = ap (contains used) (sym (nth-step id k)) ∙ rest.before k (omega arith)

found-free : (n id : ℕ) (used : List ℕ) → 0 < id → id < 65536 → contains used id ≡ false
    → Found (suc n) id used
found-free n id used p q h = record {
  place = 0;
  within = omega arith;
  is = rw h (sym (nth-zero id p q));
  before = λ k l. absurd (omega arith);
  free = λ l. ap (contains used) (nth-zero id p q) ∙ h;
}

found-cases : (n id : ℕ) (used : List ℕ) → 0 < id → id < 65536 → Found n (id_after id) used
    → (b : Bool) → contains used id ≡ b → Found (suc n) id used
found-cases n id used p q rest true h = found-used n id used p q h rest
found-cases n id used p q rest false h = found-free n id used p q h

found : (n id : ℕ) (used : List ℕ) → 0 < id → id < 65536 → Found n id used
found zero id used p q =
    record {
      place = 0;
      within = omega arith;
      is = sym (nth-zero id p q);
      before = λ k h.
          absurd (omega arith);
      free = λ h. absurd (omega arith);
    }
found (suc n) id used p q =
    found-cases n id used p q (found n (id_after id) used (omega arith) (omega arith))
    (contains used id) refl

-- the n ids from place a on
abbrev run : ℕ → ℕ → ℕ → List ℕ
run id a zero = []
run id a (suc n) = nth id a ∷ run id (suc a) n

length-run : (id a n : ℕ) → length (run id a n) ≡ n
length-run id a zero = refl
length-run id a (suc n) = ap suc (length-run id (suc a) n)

run-apart : (id a b n : ℕ) → a < b → b + n ≤ a + 65535
    → AllByRecursion (λ y. nat_eq (nth id a) y ≡ false) (run id b n)
run-apart id a b zero p q = tt
run-apart id a b (suc n) p q = (
  ne_eqb (nth id a) (nth id b) (omega arith),
  run-apart id a (suc b) n (omega arith) (omega arith),
)

run-distinct : (id a n : ℕ) → n ≤ 65535 → IsDistinct nat_eq (run id a n)
unfolding IsDistinct
run-distinct id a zero p = tt
run-distinct id a (suc n) p =
    (run-apart id a (suc a) n (omega arith) (omega arith), run-distinct id (suc a) n (omega arith))

member-cases : (id a q : ℕ) (used : List ℕ) → contains used (nth id a) ≡ true → (b c : Bool)
    → nat_eq q (nth id a) ≡ b → (b || c) ≡ true → (c ≡ true → contains used q ≡ true)
    → contains used q ≡ true
member-cases id a q used here true c h e rest = ap (contains used) (eqb-true q (nth id a) h) ∙ here
member-cases id a q used here false c h e rest = rest e

run-member : (id a n q : ℕ) (used : List ℕ)
    → ((k : ℕ) → k < a + n → contains used (nth id k) ≡ true)
    → list_any (nat_eq q) (run id a n) ≡ true → contains used q ≡ true
run-member id a zero q used all e = absurd (false≢true e)
run-member id a (suc n) q used all e =
    member-cases id a q used (all a (omega arith)) (nat_eq q (nth id a))
    (list_any (nat_eq q) (run id (suc a) n)) refl e
    (run-member id (suc a) n q used (λ k l. all k (omega arith)))

-- one more id than are used can't all be used
one-is-free : (id n : ℕ) (used : List ℕ) → n < 65535 → length used ≤ n
    → ((k : ℕ) → k < suc n → contains used (nth id k) ≡ true) → ⊥
one-is-free id n used p q all =
    let bound : length (run id 0 (suc n)) ≤ length used =
    length-le_from_is_member nat_eq_equiv (run id 0 (suc n)) used
    (run-distinct id 0 (suc n) (omega arith))
    (λ x e. run-member id 0 (suc n) x used (λ k l. all k (omega arith)) e) in
    omega (arith, length-run id 0 (suc n))

nth-distance : (cursor id : ℕ) → 0 < cursor → cursor < 65536 → 0 < id → id < 65536
    → nth (id_after cursor) ((id + 65534 - cursor) % 65535) ≡ id
nth-distance cursor id p q r s = omega arith

distance-nth : (cursor k : ℕ) → 0 < cursor → cursor < 65536 → k < 65535
    → (nth (id_after cursor) k + 65534 - cursor) % 65535 ≡ k
distance-nth cursor k p q r = omega arith

place-free : (x : ℕ) (used : List ℕ) (f : Found (length used) x used) → length used < 65535
    → (b : Bool) → contains used (nth x f.place) ≡ b → contains used (nth x f.place) ≡ false
place-free x used f l false h = h
place-free x used f l true h =
    absurd (one-is-free x f.place used (omega (arith, f.within)) (omega (arith, f.within, late))
    upto)
  where
    late : length used ≤ f.place
    late = elim (cases_lt f.place (length used))
        [ inl p ↦ absurd (false≢true (sym (f.free p) ∙ h)) | inr p ↦ p ]

    upto : (k : ℕ) → k < suc f.place → contains used (nth x k) ≡ true
    upto k p = elim (cases_lt k f.place)
        [ inl q ↦ f.before k q | inr q ↦ ap (λ i. contains used (nth x i)) (omega arith) ∙ h ]

nearest_at_place : (cursor : ℕ) (used : List ℕ) → 0 < cursor → cursor < 65536 → length used < 65535
    → (f : Found (length used) (id_after cursor) used) →
    IsNearestFree cursor used (nth (id_after cursor) f.place)
nearest_at_place cursor used p q l f = record {
  in_range = (omega arith, omega arith);
  free = place-free (id_after cursor) used f l (contains used (nth (id_after cursor) f.place)) refl;
  nearest = λ other r s h.
      rw (distance-nth cursor f.place p q (omega (arith, f.within)))
      (no_nearer other (omega arith) (omega arith) h);
}
  where
    no_nearer : (other : ℕ) → 0 < other → other < 65536 → contains used other ≡ false
        → f.place ≤ distance_above cursor other
    no_nearer other r s h =
        elim (cases_lt (distance_above cursor other) f.place) [
          | inl k ↦ absurd (false≢true
              (sym h ∙ ap (contains used) (sym (nth-distance cursor other p q r s))
              ∙ f.before (distance_above cursor other) k))
          | inr k ↦ k
        ]

-- with fewer ids used than there are, the next free one is the nearest above the cursor
pub next_free_id-nearest : (cursor : ℕ) (used : List ℕ) → 1 ≤ cursor → cursor ≤ 65535
    → length used < 65535 → IsNearestFree cursor used (next_free_id cursor used)
unfolding next_free_id
next_free_id-nearest cursor used p q l =
    let f : Found (length used) (id_after cursor) used =
    found (length used) (id_after cursor) used (omega arith) (omega arith) in
    rw f.is (nearest_at_place cursor used (omega arith) (omega arith) l f)
