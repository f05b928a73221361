-- What the code finds that changed of a turn's bodies.
use Rattle.std.proofs.Common.{◌≡◌, ℕ, suc, zero, ◌+◌, ◌<◌, List, [], ◌∷◌, length, drop, refl, sym}
use Rattle.std.proofs.Common.{ap, ◌∙◌, arith, Bool, true, false, Option, Some, None, nat_eq}
use Rattle.std.proofs.lemmas.List.{length-map}
use Rattle.std.specs.Prelude.{◌&&◌, if◌then◌else◌}
use Rattle.mot_player.specs.Inner.Difference.{added, alike, are_alike, difference_from}
use Rattle.mot_player.specs.Inner.Difference.{difference_here, is_same, plan_of_body, plans_of}
use Rattle.mot_player.specs.PlayerView.{BodyPlan}
use Rattle.mot_player.specs.declared.difference.Difference.{Difference}
use Rattle.mot_player.specs.declared.difference.Difference.TheVariants.{Changed, Removed}
use Rattle.mot_player.specs.declared.planned_body.PlannedBody.{PlannedBody}

pub alike-none : (os : List BodyPlan) → alike os [] ≡ 0
alike-none [] = refl
alike-none (o ∷ os) = refl

-- all of the bodies are alike where as many begin alike as there are
all-cases : (o n : BodyPlan) (os ns : List BodyPlan) (b : Bool) →
    nat_eq (alike os ns) (length os) ≡ are_alike os ns →
    nat_eq (if b then suc (alike os ns) else 0) (suc (length os)) ≡ (b && are_alike os ns)
all-cases o n os ns b h = grind arith

pub all-alike : (os ns : List BodyPlan) → length os ≡ length ns →
    nat_eq (alike os ns) (length os) ≡ are_alike os ns
all-alike [] [] e = refl
all-alike [] (n ∷ ns) e = absurd (omega (arith, e))
all-alike (o ∷ os) [] e = absurd (omega (arith, e))
all-alike (o ∷ os) (n ∷ ns) e =
    all-cases o n os ns (is_same o n) (all-alike os ns (omega (arith, e)))

other-cases : (b c : Bool) → c ≡ false → (b && c) ≡ false
other-cases b c e = grind arith

pub other-length : (os ns : List BodyPlan) → (length os ≡ length ns → ⊥) → are_alike os ns ≡ false
other-length [] [] e = absurd (e refl)
other-length [] (n ∷ ns) e = refl
other-length (o ∷ os) [] e = refl
other-length (o ∷ os) (n ∷ ns) e =
    other-cases (is_same o n) (are_alike os ns) (other-length os ns (λ h. e (ap suc h)))

-- behind the bodies that are alike the first differ
ends-cases : (o n : BodyPlan) (os ns : List BodyPlan) (b : Bool) → is_same o n ≡ b →
    alike (drop (alike os ns) os) (drop (alike os ns) ns) ≡ 0 →
    alike (drop (if b then suc (alike os ns) else 0) (o ∷ os))
    (drop (if b then suc (alike os ns) else 0) (n ∷ ns)) ≡ 0
ends-cases o n os ns b e h = grind arith

alike-ends : (os ns : List BodyPlan) → alike (drop (alike os ns) os) (drop (alike os ns) ns) ≡ 0
alike-ends [] ns = refl
alike-ends (o ∷ os) [] = refl
alike-ends (o ∷ os) (n ∷ ns) = ends-cases o n os ns (is_same o n) refl (alike-ends os ns)

abbrev from-behind : ℕ → ℕ → List BodyPlan → List BodyPlan → Option Difference
from-behind n at os ns = difference_from (n + at) (drop at os) (drop at ns)

none-behind : (n : ℕ) (os ns : List BodyPlan) → difference_from n os ns ≡ from-behind n 0 os ns
none-behind n os ns = grind arith

behind-cases : (n : ℕ) (o m : BodyPlan) (os ns : List BodyPlan) (b : Bool) → is_same o m ≡ b →
    difference_from (n + 1) os ns ≡ from-behind (n + 1) (alike os ns) os ns →
    difference_from n (o ∷ os) (m ∷ ns)
    ≡ from-behind n (if b then suc (alike os ns) else 0) (o ∷ os) (m ∷ ns)
behind-cases n o m os ns b e h = grind arith

from-alike : (n : ℕ) (os ns : List BodyPlan) →
    difference_from n os ns ≡ from-behind n (alike os ns) os ns
from-alike n [] ns = none-behind n [] ns
from-alike n (o ∷ os) [] = none-behind n (o ∷ os) []
from-alike n (o ∷ os) (m ∷ ns) =
    behind-cases n o m os ns (is_same o m) refl (from-alike (n + 1) os ns)

-- where no body is left of the old ones, and where one is
none-left : (n : ℕ) (os ns : List BodyPlan) → length os ≡ 0 →
    added (length ns) ≡ difference_from n os ns
none-left n [] ns e = refl
none-left n (o ∷ os) ns e = absurd (omega (arith, e))

one-left : (n : ℕ) (os ns : List BodyPlan) → 0 < length os → alike os ns ≡ 0 →
    difference_here n (drop 1 os) ns ≡ difference_from n os ns
one-left n os ns l e = grind arith

map-drop : (n : ℕ) (bs : List PlannedBody) → plans_of (drop n bs) ≡ drop n (plans_of bs)
map-drop zero bs = refl
map-drop (suc n) [] = refl
map-drop (suc n) (b ∷ bs) = map-drop n bs

pub length-plans_of : (bs : List PlannedBody) → length (plans_of bs) ≡ length bs
length-plans_of bs = length-map bs plan_of_body

from-at : (olds news : List PlannedBody) (at : ℕ) → at ≡ alike (plans_of olds) (plans_of news) →
    difference_from (at + 1) (plans_of (drop at olds)) (plans_of (drop at news))
    ≡ difference_from 1 (plans_of olds) (plans_of news)
from-at olds news at e = grind (arith, map-drop, from-alike)

ends-at : (olds news : List PlannedBody) (at : ℕ) → at ≡ alike (plans_of olds) (plans_of news) →
    alike (plans_of (drop at olds)) (plans_of (drop at news)) ≡ 0
ends-at olds news at e =
    rw (map-drop at olds, map-drop at news, e) (alike-ends (plans_of olds) (plans_of news))

pub between-none : (olds news : List PlannedBody) (at : ℕ) →
    at ≡ alike (plans_of olds) (plans_of news) → length (drop at olds) ≡ 0 →
    added (length (drop at news)) ≡ difference_from 1 (plans_of olds) (plans_of news)
between-none olds news at e none =
    ap added (sym (length-plans_of (drop at news)))
    ∙ none-left (at + 1) (plans_of (drop at olds)) (plans_of (drop at news))
    (length-plans_of (drop at olds) ∙ none)
    ∙ from-at olds news at e

pub between-some : (olds news : List PlannedBody) (at : ℕ) →
    at ≡ alike (plans_of olds) (plans_of news) → 0 < length (drop at olds) →
    difference_here (at + 1) (plans_of (drop 1 (drop at olds))) (plans_of (drop at news))
    ≡ difference_from 1 (plans_of olds) (plans_of news)
between-some olds news at e some =
    ap (λ (os : List BodyPlan). difference_here (at + 1) os (plans_of (drop at news)))
    (map-drop 1 (drop at olds))
    ∙ one-left (at + 1) (plans_of (drop at olds)) (plans_of (drop at news))
    (omega (arith, length-plans_of (drop at olds), some)) (ends-at olds news at e)
    ∙ from-at olds news at e

pub removed-here : (n : ℕ) (os ns : List BodyPlan) → are_alike os ns ≡ true →
    difference_here n os ns ≡ Some (Removed n)
removed-here n os ns e = grind arith

pub changed-here : (n : ℕ) (os : List BodyPlan) (news : List PlannedBody) → 0 < length news →
    are_alike os (plans_of news) ≡ false → are_alike os (plans_of (drop 1 news)) ≡ true →
    difference_here n os (plans_of news) ≡ Some (Changed n)
changed-here n os news l e f = grind arith

pub none-here : (n : ℕ) (os : List BodyPlan) (news : List PlannedBody) →
    are_alike os (plans_of news) ≡ false →
    (0 < length news → are_alike os (plans_of (drop 1 news)) ≡ false) →
    difference_here n os (plans_of news) ≡ None
none-here n os news e f = grind arith

-- the test of equal bodies
pub same-test : (os ns olds news : List PlannedBody) (t : Bool) → os ≡ olds → ns ≡ news →
    t ≡ are_alike (plans_of os) (plans_of ns) → are_alike (plans_of olds) (plans_of news) ≡ t
same-test os ns olds news t e f h = grind arith
