-- A turn that is followed: the code finds the change that was made, and goes on by it.
use Rattle.std.proofs.Common.{◌≡◌, ℕ, suc, ◌+◌, ◌<◌, true, false, List, [], ◌∷◌, ◌++◌, length, refl}
use Rattle.std.proofs.Common.{sym, ap, ◌∙◌, arith, eq-eqb, subst, Some, map, nat_eq}
use Rattle.std.proofs.lemmas.Bool.{and_parts, eqb-false, ne_eqb, not-true, or_parts}
use Rattle.std.proofs.lemmas.List.{length-map, map-append}
use Rattle.std.specs.List.{AllByRecursion}
use Rattle.std.specs.Prelude.{◌==◌, not}
use Rattle.mot_objects.specs.Ids.{contains, is_distinct}
use Rattle.mot_player.specs.Course.{Entity}
use Rattle.mot_player.specs.Inner.Difference.{are_alike, difference_from, is_same}
use Rattle.mot_player.specs.PlayerView.{BodyPlan}
use Rattle.mot_player.specs.Turn.{IsOneChange, put, replaced, same, withdrawn}
use Rattle.mot_player.specs.Place.{Same, Put, Replaced, Withdrawn, change_between}
use Rattle.mot_player.specs.declared.difference.Difference.{Difference}
use Rattle.mot_player.specs.declared.difference.Difference.TheVariants.{Nothing, Added, Changed}
use Rattle.mot_player.specs.declared.difference.Difference.TheVariants.{Removed}
use Rattle.mot_player.proofs.Differences.{other-length}
use Rattle.mot_player.proofs.FollowedCourse.{GoesOn, goes_on-put, goes_on-replaced, goes_on-same}
use Rattle.mot_player.proofs.FollowedCourse.{goes_on-withdrawn}
use Rattle.mot_player.proofs.Renewed.{AreOthers, IsGoing}

-- what a turn plans of a body
abbrev pub plan_of_pair : ℕ × List ℕ → BodyPlan
plan_of_pair b = record { tid = b.0; length = length b.1 }

abbrev pub plans : List (ℕ × List ℕ) → List BodyPlan
plans bodies = map plan_of_pair bodies

-- the same plans have no difference
same-plan : (b : BodyPlan) → is_same b b ≡ true
same-plan b = rw (eq-eqb b.tid b.tid refl, eq-eqb b.length b.length refl) refl

all-same : (bs : List BodyPlan) → are_alike bs bs ≡ true
all-same [] = refl
all-same (b ∷ bs) = rw (same-plan b, all-same bs) refl

other-plan : (a b : BodyPlan) → (a.tid == b.tid) ≡ false → is_same a b ≡ false
other-plan a b e = rw e refl

difference-same : (n : ℕ) (bs : List BodyPlan) → difference_from n bs bs ≡ Some Nothing
difference-same n [] = refl
difference-same n (b ∷ bs) = rw (same-plan b) (difference-same (n + 1) bs)

difference-put : (n : ℕ) (bs : List BodyPlan) (f : BodyPlan) →
    difference_from n bs (bs ++ f ∷ []) ≡ Some Added
difference-put n [] f = refl
difference-put n (b ∷ bs) f = rw (same-plan b) (difference-put (n + 1) bs f)

difference-replaced : (n : ℕ) (before after : List BodyPlan) (g f : BodyPlan) →
    (g.tid == f.tid) ≡ false →
    difference_from n (before ++ g ∷ after) (before ++ f ∷ after)
    ≡ Some (Changed (n + length before))
difference-replaced n [] after g f e =
    let none : n ≡ n + 0 = omega arith in
    rw (
      other-plan g f e,
      other-length after (f ∷ after) (λ l. absurd (omega (arith, l))),
      all-same after,
    ) (ap (λ (m : ℕ). Some (Changed m)) none)
difference-replaced n (b ∷ before) after g f e =
    grind (arith, difference-replaced (n + 1) before after g f e)

difference-withdrawn : (n : ℕ) (before after : List BodyPlan) (g : BodyPlan) →
    AllByRecursion (λ (b : BodyPlan). (g.tid == b.tid) ≡ false) after →
    difference_from n (before ++ g ∷ after) (before ++ after)
    ≡ Some (Removed (n + length before))
difference-withdrawn n [] [] g o =
    let none : n ≡ n + 0 = omega arith in ap (λ (m : ℕ). Some (Removed m)) none
difference-withdrawn n [] (a ∷ after) g o =
    let none : n ≡ n + 0 = omega arith in
    rw (other-plan g a o.0, all-same (a ∷ after)) (ap (λ (m : ℕ). Some (Removed m)) none)
difference-withdrawn n (b ∷ before) after g o =
    grind (arith, difference-withdrawn (n + 1) before after g o)

-- and the definitions find the same change
pub between-same : (bs : List (ℕ × List ℕ)) → change_between bs bs ≡ Same
between-same [] = refl
between-same (b ∷ bs) = rw (eq-eqb b.0 b.0 refl) (between-same bs)

pub between-put : (bs : List (ℕ × List ℕ)) (f : ℕ × List ℕ) →
    change_between bs (bs ++ f ∷ []) ≡ Put f
between-put [] f = refl
between-put (b ∷ bs) f = rw (eq-eqb b.0 b.0 refl) (between-put bs f)

pub between-replaced : (before after : List (ℕ × List ℕ)) (g f : ℕ × List ℕ) →
    (g.0 == f.0) ≡ false →
    change_between (before ++ g ∷ after) (before ++ f ∷ after) ≡ Replaced g.0 f
between-replaced [] after g f e = rw (e, eq-eqb (length after) (length after) refl) refl
between-replaced (b ∷ before) after g f e =
    rw (eq-eqb b.0 b.0 refl) (between-replaced before after g f e)

pub between-withdrawn : (before after : List (ℕ × List ℕ)) (g : ℕ × List ℕ) → AreOthers g.0 after →
    change_between (before ++ g ∷ after) (before ++ after) ≡ Withdrawn g.0
between-withdrawn [] [] g o = refl
between-withdrawn [] (a ∷ after) g o =
    let other : (g.0 == a.0) ≡ false =
    ne_eqb g.0 a.0 (λ e. absurd (eqb-false a.0 g.0 o.0 (sym e))) in
    rw (
      other,
      ne_eqb (suc (length after)) (length after) (λ l. absurd (omega (arith, l))),
    ) refl
between-withdrawn (b ∷ before) after g o =
    rw (eq-eqb b.0 b.0 refl) (between-withdrawn before after g o)

-- ids that stand once
abbrev pub ids : List (ℕ × List ℕ) → List ℕ
ids bodies = map (λ (b : ℕ × List ℕ). b.0) bodies

others-behind : (id : ℕ) (bodies : List (ℕ × List ℕ)) → contains (ids bodies) id ≡ false →
    AreOthers id bodies
others-behind id [] e = tt
others-behind id (b ∷ bodies) e =
    let parts = or_parts (nat_eq id b.0) (contains (ids bodies) id) e in (
      ne_eqb b.0 id (λ h. absurd (eqb-false id b.0 parts.0 (sym h))),
      others-behind id bodies parts.1,
    )

pub other-inside : (id : ℕ) (before after : List (ℕ × List ℕ)) (g : ℕ × List ℕ) →
    contains (ids (before ++ g ∷ after)) id ≡ false → (id == g.0) ≡ false
other-inside id [] after g e = (or_parts (nat_eq id g.0) (contains (ids after) id) e).0
other-inside id (b ∷ before) after g e =
    grind (arith, other-inside id before after g (or_parts (nat_eq id b.0) (contains (ids (before ++ g ∷ after)) id) e).1)

pub others-both : (before after : List (ℕ × List ℕ)) (g : ℕ × List ℕ) →
    is_distinct (ids (before ++ g ∷ after)) ≡ true → AreOthers g.0 before × AreOthers g.0 after
others-both [] after g e =
    let parts = and_parts (not (contains (ids after) g.0)) (is_distinct (ids after)) e in
    (tt, others-behind g.0 after (not-true (contains (ids after) g.0) parts.0))
others-both (b ∷ before) after g e =
    let all : List ℕ = ids (before ++ g ∷ after) in
    let parts = and_parts (not (contains all b.0)) (is_distinct all) e in
    let rest = others-both before after g parts.1 in
    ((other-inside b.0 before after g (not-true (contains all b.0) parts.0), rest.0), rest.1)

-- none of the bodies is empty
abbrev pub AreSome : List (ℕ × List ℕ) → Type 0
AreSome bodies = AllByRecursion (λ (b : ℕ × List ℕ). 0 < length b.1) bodies

pub some-inside : (before after : List (ℕ × List ℕ)) (g : ℕ × List ℕ) →
    AreSome (before ++ g ∷ after) → 0 < length g.1
some-inside [] after g all = all.0
some-inside (b ∷ before) after g all = some-inside before after g all.1

going : (before after : List (ℕ × List ℕ)) (g : ℕ × List ℕ) →
    is_distinct (ids (before ++ g ∷ after)) ≡ true → AreSome (before ++ g ∷ after) →
    IsGoing before after g
going before after g e all =
    let others = others-both before after g e in
    record { before_it = others.0; behind_it = others.1; some = some-inside before after g all }

-- What the code finds of two turns' bodies, and goes on by.
pub record IsFound (size : ℕ) (old new : Entity) (olds news : List (ℕ × List ℕ)) : Type 0 where
  pub difference : Difference
  pub found : difference_from 1 (plans olds) (plans news) ≡ Some difference
  pub goes_on : GoesOn size old new olds news (length olds + 1) difference
      (change_between olds news)

found-same : (size : ℕ) (old new : Entity) (bodies : List (ℕ × List ℕ)) →
    IsFound size old new bodies bodies
found-same size old new bodies = record {
  difference = Nothing;
  found = difference-same 1 (plans bodies);
  goes_on = subst (GoesOn size old new bodies bodies (length bodies + 1) Nothing)
      (sym (between-same bodies)) (goes_on-same size old new bodies);
}

found-put : (size : ℕ) (old new : Entity) (olds : List (ℕ × List ℕ)) (f : ℕ × List ℕ) →
    IsFound size old new olds (olds ++ f ∷ [])
found-put size old new olds f = record {
  difference = Added;
  found = ap (difference_from 1 (plans olds)) (map-append plan_of_pair olds (f ∷ []))
      ∙ difference-put 1 (plans olds) (plan_of_pair f);
  goes_on = subst (GoesOn size old new olds (olds ++ f ∷ []) (length olds + 1) Added)
      (sym (between-put olds f)) (goes_on-put size old new olds f);
}

plans-length : (bodies : List (ℕ × List ℕ)) → length (plans bodies) ≡ length bodies
plans-length bodies = length-map bodies plan_of_pair

found-replaced : (size : ℕ) (old new : Entity) (before after : List (ℕ × List ℕ))
    (g f : ℕ × List ℕ) → 0 < size → (g.0 == f.0) ≡ false → IsGoing before after g →
    IsFound size old new (before ++ g ∷ after) (before ++ f ∷ after)
found-replaced size old new before after g f some e is = record {
  difference = Changed (1 + length before);
  found = ap (λ (bs : List BodyPlan). difference_from 1 bs (plans (before ++ f ∷ after)))
      (map-append plan_of_pair before (g ∷ after))
      ∙ ap (difference_from 1 (plans before ++ plans (g ∷ after)))
      (map-append plan_of_pair before (f ∷ after))
      ∙ difference-replaced 1 (plans before) (plans after) (plan_of_pair g) (plan_of_pair f) e
      ∙ ap (λ (n : ℕ). Some (Changed (1 + n))) (plans-length before);
  goes_on = subst (GoesOn size old new (before ++ g ∷ after) (before ++ f ∷ after)
      (length (before ++ g ∷ after) + 1) (Changed (1 + length before)))
      (sym (between-replaced before after g f e))
      (goes_on-replaced size old new before after g f some is);
}

other-plans : (g : ℕ × List ℕ) (after : List (ℕ × List ℕ)) → AreOthers g.0 after →
    AllByRecursion (λ (b : BodyPlan). (g.0 == b.tid) ≡ false) (plans after)
other-plans g [] o = tt
other-plans g (a ∷ after) o = grind (arith, other-plans g after o.1)

found-withdrawn : (size : ℕ) (old new : Entity) (before after : List (ℕ × List ℕ))
    (g : ℕ × List ℕ) → 0 < size → IsGoing before after g →
    IsFound size old new (before ++ g ∷ after) (before ++ after)
found-withdrawn size old new before after g some is = record {
  difference = Removed (1 + length before);
  found = ap (λ (bs : List BodyPlan). difference_from 1 bs (plans (before ++ after)))
      (map-append plan_of_pair before (g ∷ after))
      ∙ ap (difference_from 1 (plans before ++ plans (g ∷ after)))
      (map-append plan_of_pair before after)
      ∙ difference-withdrawn 1 (plans before) (plans after) (plan_of_pair g)
      (other-plans g after is.behind_it)
      ∙ ap (λ (n : ℕ). Some (Removed (1 + n))) (plans-length before);
  goes_on = subst (GoesOn size old new (before ++ g ∷ after) (before ++ after)
      (length (before ++ g ∷ after) + 1) (Removed (1 + length before)))
      (sym (between-withdrawn before after g is.behind_it))
      (goes_on-withdrawn size old new before after g some is);
}

-- one change of the bodies is found
pub found-one : (size : ℕ) (old new : Entity) (olds news : List (ℕ × List ℕ)) → 0 < size →
    is_distinct (ids olds) ≡ true → AreSome olds → IsOneChange olds news →
    IsFound size old new olds news
found-one size old new olds news some e all (same h) =
    subst (IsFound size old new olds) (sym h) (found-same size old new olds)
found-one size old new olds news some e all (put f h) =
    subst (IsFound size old new olds) (sym h) (found-put size old new olds f)
found-one size old new olds news some e all (replaced before after g f h i o) =
    let is : IsGoing before after g =
    going before after g (ap (λ (bs : List (ℕ × List ℕ)). is_distinct (ids bs)) (sym h) ∙ e)
    (subst AreSome h all) in
    subst (λ (bs : List (ℕ × List ℕ)). IsFound size old new bs news) (sym h)
    (subst (IsFound size old new (before ++ g ∷ after)) (sym i)
    (found-replaced size old new before after g f some o is))
found-one size old new olds news some e all (withdrawn before after g h i) =
    let is : IsGoing before after g =
    going before after g (ap (λ (bs : List (ℕ × List ℕ)). is_distinct (ids bs)) (sym h) ∙ e)
    (subst AreSome h all) in
    subst (λ (bs : List (ℕ × List ℕ)). IsFound size old new bs news) (sym h)
    (subst (IsFound size old new (before ++ g ∷ after)) (sym i)
    (found-withdrawn size old new before after g some is))
