-- How much of the data area is taken where there is no gap for a body, and what a disk of commands
-- keeps of its bodies.
use Rattle.std.proofs.Common.{◌≡◌, ℕ, zero, suc, ◌+◌, ◌-◌, ◌≤◌, ◌<◌, Bool, true, false, cond, List}
use Rattle.std.proofs.Common.{[], ◌∷◌, ◌++◌, length, map, Option, Some, None}
use Rattle.std.proofs.Common.{refl, sym, ap, ◌∙◌, subst, arith, length-append}
use Rattle.std.proofs.lemmas.Bool.{le-leb, leb-false, leb-true}
use Rattle.std.proofs.lemmas.Iterator.Adapters.{position_from-zero}
use Rattle.std.specs.List.{flat_map, position_from}
use Rattle.std.specs.Option.{option_map_or}
use Rattle.std.specs.Prelude.{◌&&◌, ◌||◌, bytes_eq, nat_le, if◌then◌else◌, option_map, position}
use Rattle.std.specs.Prelude.{remove}
use Rattle.std.specs.Prelude.{slice_set}
use Rattle.mot_objects.specs.Carousel.{Object, has_name, objects_with, objects_without}
use Rattle.mot_carousel.specs.Gap.{first_free, is_beside, is_free, least_gap}

-- ---- no gap

-- so many bytes in front of each, and behind them
abbrev pub total : ℕ → List (ℕ × ℕ) → ℕ
total n [] = n
total n (e ∷ extents) = n + e.1 + total n extents

none-by : (left start n k : ℕ) (extents : List (ℕ × ℕ)) → start ≤ k → (b : Bool)
    → is_free extents n start ≡ b
    → (if b then Some start else first_free left (start + 1) extents n) ≡ None
    → (first_free left (start + 1) extents n ≡ None → start + 1 ≤ k
    → is_free extents n k ≡ false) → is_free extents n k ≡ false
none-by left start n k extents low true e isnt rest = cc
none-by left start n k extents low false e isnt rest = here-or (nat_le k start) refl
  where
    here-or : (b : Bool) → nat_le k start ≡ b → is_free extents n k ≡ false
    here-or true f =
        let most = leb-true k start f in
        let same : k ≡ start = omega (arith, low, most) in
        subst (λ j. is_free extents n j ≡ false) (sym same) e
    here-or false f = let more = leb-false k start f in rest isnt (omega (arith, more))

none-free : (left start n : ℕ) (extents : List (ℕ × ℕ)) → first_free left start extents n ≡ None
    → (k : ℕ) → start ≤ k → k < start + left → is_free extents n k ≡ false
none-free zero start n extents none k low high = absurd (no-place start k low high)
  where
    no-place : (start k : ℕ) → start ≤ k → k < start + 0 → ⊥
    no-place start k low high = omega (arith, low, high)
none-free (suc left) start n extents none k low high =
    none-by left start n k extents low (is_free extents n start) refl none (λ rest more.
    none-free left (start + 1) n extents rest k more (omega (arith, high)))

-- where there is no least gap, no start is free
none_free : (extents : List (ℕ × ℕ)) (n size : ℕ) → least_gap extents n size ≡ None → (k : ℕ)
    → k + n ≤ size → is_free extents n k ≡ false
unfolding least_gap
none_free extents n size none k fits =
    let yes : nat_le n size ≡ true = le-leb n size (omega (arith, fits)) in
    let all : first_free (size - n + 1) 0 extents n ≡ None =
    sym (ap (λ b. if b then first_free (size - n + 1) 0 extents n else None) yes) ∙ none in
    none-free (size - n + 1) 0 n extents all k (omega arith) (omega (arith, fits))

-- an extent that is in the way
record InTheWay (n start : ℕ) (extents : List (ℕ × ℕ)) : Type 0 where
  pub before : List (ℕ × ℕ)
  pub it : ℕ × ℕ
  pub behind : List (ℕ × ℕ)
  pub split : extents ≡ before ++ it ∷ behind
  pub meets : is_beside start n it ≡ false

way-by : (n start : ℕ) (x : ℕ × ℕ) (extents : List (ℕ × ℕ)) (b : Bool)
    → is_beside start n x ≡ b → (b && is_free extents n start) ≡ false
    → (is_free extents n start ≡ false → InTheWay n start extents)
    → InTheWay n start (x ∷ extents)
way-by n start x extents false is e others =
    record { before = []; it = x; behind = extents; split = refl; meets = is }
way-by n start x extents true is e others =
    let rest = others e in
    record {
      before = x ∷ rest.before;
      it = rest.it;
      behind = rest.behind;
      split = ap (λ (l : List (ℕ × ℕ)). x ∷ l) rest.split;
      meets = rest.meets;
    }

in_the_way : (n start : ℕ) (extents : List (ℕ × ℕ)) → is_free extents n start ≡ false
    → InTheWay n start extents
in_the_way n start [] e = cc
in_the_way n start (x ∷ extents) e =
    way-by n start x extents (is_beside start n x) refl e (in_the_way n start extents)

met-by : (b c d : Bool) → (b && c) ≡ false → (c ≡ false → d ≡ false) → (b && d) ≡ false
met-by true c d e rest = rest e
met-by false c d e rest = refl

-- one that is not in the way may go
still-met : (n k : ℕ) (before : List (ℕ × ℕ)) (it : ℕ × ℕ) (behind : List (ℕ × ℕ))
    → is_beside k n it ≡ true → is_free (before ++ it ∷ behind) n k ≡ false
    → is_free (before ++ behind) n k ≡ false
still-met n k [] it behind is e =
    sym (ap (λ b. b && is_free behind n k) is) ∙ e
still-met n k (x ∷ before) it behind is e =
    met-by (is_beside k n x) (is_free (before ++ it ∷ behind) n k)
    (is_free (before ++ behind) n k) e (still-met n k before it behind is)

total-split : (n : ℕ) (before : List (ℕ × ℕ)) (it : ℕ × ℕ) (behind : List (ℕ × ℕ))
    → total n (before ++ it ∷ behind) ≡ n + it.1 + total n (before ++ behind)
total-split n [] it behind = refl
total-split n (x ∷ before) it behind = omega (arith, total-split n before it behind)

length-split : (before : List (ℕ × ℕ)) (it : ℕ × ℕ) (behind : List (ℕ × ℕ))
    → length (before ++ it ∷ behind) ≡ suc (length (before ++ behind))
length-split [] it behind = refl
length-split (x ∷ before) it behind = ap suc (length-split before it behind)

past : (k n : ℕ) (it : ℕ × ℕ) → it.0 + it.1 ≤ k → is_beside k n it ≡ true
past k n it le = by (nat_le (k + n) it.0) (le-leb (it.0 + it.1) k le)
  where
    by : (a : Bool) → nat_le (it.0 + it.1) k ≡ true → (a || nat_le (it.0 + it.1) k) ≡ true
    by true e = refl
    by false e = e

met : (k n : ℕ) (it : ℕ × ℕ) → is_beside k n it ≡ false → (it.0 < k + n) × (k < it.0 + it.1)
met k n it e = by (nat_le (k + n) it.0) (nat_le (it.0 + it.1) k) refl refl e
  where
    by : (a b : Bool) → nat_le (k + n) it.0 ≡ a → nat_le (it.0 + it.1) k ≡ b
        → (a || b) ≡ false → (it.0 < k + n) × (k < it.0 + it.1)
    by true b x y e = cc
    by false true x y e = cc
    by false false x y e = (leb-false (k + n) it.0 x, leb-false (it.0 + it.1) k y)

at_least : (n : ℕ) (extents : List (ℕ × ℕ)) → n ≤ total n extents
at_least n [] = omega arith
at_least n (x ∷ extents) = omega (arith, at_least n extents)

abbrev IsCrowded : ℕ → ℕ → ℕ → List (ℕ × ℕ) → Type 0
IsCrowded from n size extents =
    (k : ℕ) → from ≤ k → k + n ≤ size → is_free extents n k ≡ false

none-left : (l : List (ℕ × ℕ)) (n from : ℕ) → length l ≡ 0 → is_free l n from ≡ false → ⊥
none-left [] n from z f = cc
none-left (x ∷ l) n from z f = cc

crowded-none : (from n size : ℕ) (extents : List (ℕ × ℕ)) → length extents ≡ 0
    → IsCrowded from n size extents → (b : Bool) → nat_le (from + n) size ≡ b
    → size < from + total n extents
crowded-none from n size extents long none true e =
    let fits = leb-true (from + n) size e in
    absurd (none-left extents n from long (none from (omega arith) fits))
crowded-none from n size extents long none false e =
    let short = leb-false (from + n) size e in
    let some = at_least n extents in omega (arith, short, some)

crowded-more : (c from n size : ℕ) (extents : List (ℕ × ℕ)) → length extents ≡ suc c
    → IsCrowded from n size extents
    → ((next : ℕ) (others : List (ℕ × ℕ)) → length others ≡ c → IsCrowded next n size others
    → size < next + total n others) → (b : Bool) → nat_le (from + n) size ≡ b
    → size < from + total n extents
crowded-more c from n size extents long none rest false e =
    let short = leb-false (from + n) size e in
    let some = at_least n extents in omega (arith, short, some)
crowded-more c from n size extents long none rest true e =
    let fits = leb-true (from + n) size e in
    let way = in_the_way n from extents (none from (omega arith) fits) in
    let meets = met from n way.it way.meets in
    let low = meets.0 in
    let high = meets.1 in
    let next : ℕ = way.it.0 + way.it.1 in
    let many : length (way.before ++ way.behind) ≡ c =
    omega (arith, long, ap length way.split, length-split way.before way.it way.behind) in
    let left : size < next + total n (way.before ++ way.behind) =
    rest next (way.before ++ way.behind) many (λ k past_it fit.
    still-met n k way.before way.it way.behind (past k n way.it past_it)
    (subst (λ l. is_free l n k ≡ false) way.split
    (none k (omega (arith, past_it, high)) fit))) in
    let all : total n extents ≡ n + way.it.1 + total n (way.before ++ way.behind) =
    ap (total n) way.split ∙ total-split n way.before way.it way.behind in
    omega (arith, left, all, low)

-- from a place on, with no free start
crowded : (count from n size : ℕ) (extents : List (ℕ × ℕ)) → length extents ≡ count
    → IsCrowded from n size extents → size < from + total n extents
crowded zero from n size extents long none =
    crowded-none from n size extents long none (nat_le (from + n) size) refl
crowded (suc c) from n size extents long none =
    crowded-more c from n size extents long none
    (λ next others many free. crowded c next n size others many free)
    (nat_le (from + n) size) refl

-- where there is no gap, the area is full, with a body's bytes in front of each extent
pub full : (extents : List (ℕ × ℕ)) (n size : ℕ) → least_gap extents n size ≡ None
    → size < total n extents
full extents n size none =
    let most = crowded (length extents) 0 n size extents refl (λ k low fits.
    none_free extents n size none k fits) in omega (arith, most)

-- ---- the extents are as long as the bodies

abbrev lengths : List (ℕ × ℕ) → List ℕ
lengths extents = map (λ (e : ℕ × ℕ). e.1) extents

abbrev sizes : List Object → List ℕ
sizes objects = map (λ (o : Object). length o.body) objects

-- each extent has the length of its object's body
abbrev pub AreAsLong : List (ℕ × ℕ) → List Object → Type 0
AreAsLong extents objects = lengths extents ≡ sizes objects

first-of : {x y : ℕ} {xs ys : List ℕ} → x ∷ xs ≡ y ∷ ys → x ≡ y
first-of e = cc

rest-of : {x y : ℕ} {xs ys : List ℕ} → x ∷ xs ≡ y ∷ ys → xs ≡ ys
rest-of e = cc

pub total-long : (body : List ℕ) (extents : List (ℕ × ℕ)) (objects : List Object)
    → AreAsLong extents objects
    → total (length body) extents
    ≡ length (flat_map (λ (o : Object). body ++ o.body) objects ++ body)
total-long body [] [] same = refl
total-long body [] (o ∷ objects) same = absurd (none same)
  where
    none : [] ≡ length o.body ∷ sizes objects → ⊥
    none e = cc
total-long body (e ∷ extents) [] same = absurd (none same)
  where
    none : e.1 ∷ lengths extents ≡ [] → ⊥
    none e = cc
total-long body (e ∷ extents) (o ∷ objects) same =
    let here : e.1 ≡ length o.body = first-of same in
    let there = total-long body extents objects (rest-of same) in
    let others : List ℕ = flat_map (λ (p : Object). body ++ p.body) objects in
    omega (
      arith,
      here,
      there,
      length-append body o.body,
      length-append (body ++ o.body) others,
      length-append ((body ++ o.body) ++ others) body,
      length-append others body,
    )

-- one object more
pub long-put : (extents : List (ℕ × ℕ)) (objects : List Object) (e : ℕ × ℕ) (o : Object)
    → AreAsLong extents objects → e.1 ≡ length o.body
    → AreAsLong (extents ++ e ∷ []) (objects ++ o ∷ [])
long-put [] [] e o same is = ap (λ (n : ℕ). n ∷ []) is
long-put [] (p ∷ objects) e o same is = absurd (none same)
  where
    none : [] ≡ length p.body ∷ sizes objects → ⊥
    none e = cc
long-put (x ∷ extents) [] e o same is = absurd (none same)
  where
    none : x.1 ∷ lengths extents ≡ [] → ⊥
    none e = cc
long-put (x ∷ extents) (p ∷ objects) e o same is =
    ap (λ (n : ℕ). n ∷ lengths (extents ++ e ∷ [])) (first-of same)
    ∙ ap (λ (l : List ℕ). length p.body ∷ l) (long-put extents objects e o (rest-of same) is)

-- what a list with one changed is, told of the place of its name
record Changed (name : List ℕ) (x : ℕ × ℕ) (extents : List (ℕ × ℕ)) (objects : List Object)
    (next : List Object) : Type 0 where
  pub at : ℕ
  pub found : (k : ℕ) → position_from (λ n. bytes_eq n name) k
      (map (λ (o : Object). o.name) objects) ≡ Some (at + k)
  pub long : AreAsLong (slice_set extents at x) next

record Removed (name : List ℕ) (extents : List (ℕ × ℕ)) (objects : List Object)
    (next : List Object) : Type 0 where
  pub at : ℕ
  pub found : (k : ℕ) → position_from (λ n. bytes_eq n name) k
      (map (λ (o : Object). o.name) objects) ≡ Some (at + k)
  pub long : AreAsLong (remove extents at) next

some-list : (x y : List Object) → Some x ≡ Some y → x ≡ y
some-list x y e = cc

no-list : (y : List Object) → ◌≡◌ {A = Option (List Object)} None (Some y) → ⊥
no-list y e = cc

from-zero : (k : ℕ) → k ≡ 0 + k
from-zero k = omega arith

none-long : (o : Object) (objects : List Object) → AreAsLong [] (o ∷ objects) → ⊥
none-long o objects e = cc

changed : (name : List ℕ) (f : Object → Object) (x : ℕ × ℕ)
    → ((o : Object) → length (f o).body ≡ x.1)
    → (extents : List (ℕ × ℕ)) (objects next : List Object) → AreAsLong extents objects
    → objects_with name f objects ≡ Some next → Changed name x extents objects next
changed name f x size extents [] next same e = absurd (no-list next e)
changed name f x size [] (o ∷ objects) next same e = absurd (none-long o objects same)
changed name f x size (y ∷ extents) (o ∷ objects) next same e =
    by (has_name name o) refl e
    (λ rest r. changed name f x size extents objects rest (rest-of same) r)
  where
    after : bytes_eq o.name name ≡ false → (r : Option (List Object))
        → ((rest : List Object) → r ≡ Some rest → Changed name x extents objects rest)
        → option_map (λ (l : List Object). o ∷ l) r ≡ Some next
        → Changed name x (y ∷ extents) (o ∷ objects) next
    after is None rest e = absurd (no-list next e)
    after is (Some l) rest e =
        let r = rest l refl in record {
          at = suc r.at;
          found = λ k. ap (λ b. cond b (Some k) (position_from (λ n. bytes_eq n name) (k + 1)
              (map (λ (p : Object). p.name) objects))) is ∙ r.found (k + 1)
              ∙ ap Some (moved r.at k);
          long = subst (λ n. AreAsLong (y ∷ slice_set extents r.at x) n)
              (some-list (o ∷ l) next e)
              (ap (λ (n : ℕ). n ∷ lengths (slice_set extents r.at x)) (first-of same)
              ∙ ap (λ (l : List ℕ). length o.body ∷ l) r.long);
        }
      where
        moved : (i k : ℕ) → i + (k + 1) ≡ suc i + k
        moved i k = omega arith

    by : (b : Bool) → bytes_eq o.name name ≡ b
        → (if b then Some (f o ∷ objects)
        else option_map (λ (l : List Object). o ∷ l) (objects_with name f objects)) ≡ Some next
        → ((rest : List Object) → objects_with name f objects ≡ Some rest
        → Changed name x extents objects rest)
        → Changed name x (y ∷ extents) (o ∷ objects) next
    by true is e rec = record {
      at = 0;
      found = λ k. ap (λ b. cond b (Some k) (position_from (λ n. bytes_eq n name) (k + 1)
          (map (λ (p : Object). p.name) objects))) is ∙ ap Some (from-zero k);
      long = subst (λ n. AreAsLong (x ∷ extents) n) (some-list (f o ∷ objects) next e)
          (ap (λ (n : ℕ). n ∷ lengths extents) (sym (size o))
          ∙ ap (λ (l : List ℕ). length (f o).body ∷ l) (rest-of same));
    }
    by false is e rec = after is (objects_with name f objects) rec e

removed : (name : List ℕ) (extents : List (ℕ × ℕ)) (objects next : List Object)
    → AreAsLong extents objects → objects_without name objects ≡ Some next
    → Removed name extents objects next
removed name extents [] next same e = absurd (no-list next e)
removed name [] (o ∷ objects) next same e = absurd (none-long o objects same)
removed name (y ∷ extents) (o ∷ objects) next same e =
    by (has_name name o) refl e
    (λ rest r. removed name extents objects rest (rest-of same) r)
  where
    after : bytes_eq o.name name ≡ false → (r : Option (List Object))
        → ((rest : List Object) → r ≡ Some rest → Removed name extents objects rest)
        → option_map (λ (l : List Object). o ∷ l) r ≡ Some next
        → Removed name (y ∷ extents) (o ∷ objects) next
    after is None rest e = absurd (no-list next e)
    after is (Some l) rest e =
        let r = rest l refl in record {
          at = suc r.at;
          found = λ k. ap (λ b. cond b (Some k) (position_from (λ n. bytes_eq n name) (k + 1)
              (map (λ (p : Object). p.name) objects))) is ∙ r.found (k + 1)
              ∙ ap Some (moved r.at k);
          long = subst (λ n. AreAsLong (y ∷ remove extents r.at) n)
              (some-list (o ∷ l) next e)
              (ap (λ (n : ℕ). n ∷ lengths (remove extents r.at)) (first-of same)
              ∙ ap (λ (l : List ℕ). length o.body ∷ l) r.long);
        }
      where
        moved : (i k : ℕ) → i + (k + 1) ≡ suc i + k
        moved i k = omega arith

    by : (b : Bool) → bytes_eq o.name name ≡ b
        → (if b then Some objects
        else option_map (λ (l : List Object). o ∷ l) (objects_without name objects)) ≡ Some next
        → ((rest : List Object) → objects_without name objects ≡ Some rest
        → Removed name extents objects rest)
        → Removed name (y ∷ extents) (o ∷ objects) next
    by true is e rec = record {
      at = 0;
      found = λ k. ap (λ b. cond b (Some k) (position_from (λ n. bytes_eq n name) (k + 1)
          (map (λ (p : Object). p.name) objects))) is ∙ ap Some (from-zero k);
      long = subst (λ n. AreAsLong extents n) (some-list objects next e) (rest-of same);
    }
    by false is e rec = after is (objects_without name objects) rec e

-- so of the extents that stand beside the names
pub long-with : (name : List ℕ) (f : Object → Object) (x : ℕ × ℕ)
    → ((o : Object) → length (f o).body ≡ x.1)
    → (extents : List (ℕ × ℕ)) (objects next : List Object) → AreAsLong extents objects
    → objects_with name f objects ≡ Some next
    → AreAsLong (option_map_or (λ i. slice_set extents i x)
    (position (λ n. bytes_eq n name) (map (λ (o : Object). o.name) objects)) extents) next
long-with name f x size extents objects next same e =
    let is = changed name f x size extents objects next same e in
    let there = position_from-zero (λ n. bytes_eq n name)
    (map (λ (o : Object). o.name) objects) ∙ is.found 0 ∙ ap Some (at_zero is.at) in
    subst (λ p. AreAsLong (option_map_or (λ i. slice_set extents i x) p extents) next) (sym there)
    is.long
  where
    at_zero : (n : ℕ) → n + 0 ≡ n
    at_zero n = omega arith

pub long-without : (name : List ℕ) (extents : List (ℕ × ℕ)) (objects next : List Object)
    → AreAsLong extents objects → objects_without name objects ≡ Some next
    → AreAsLong (option_map_or (remove extents)
    (position (λ n. bytes_eq n name) (map (λ (o : Object). o.name) objects)) extents) next
long-without name extents objects next same e =
    let is = removed name extents objects next same e in
    let there = position_from-zero (λ n. bytes_eq n name)
    (map (λ (o : Object). o.name) objects) ∙ is.found 0 ∙ ap Some (at_zero is.at) in
    subst (λ p. AreAsLong (option_map_or (remove extents) p extents) next) (sym there) is.long
  where
    at_zero : (n : ℕ) → n + 0 ≡ n
    at_zero n = omega arith
