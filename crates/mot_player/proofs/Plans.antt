-- What is planned of a carousel's bodies is its turn, with them.
use Rattle.std.proofs.Common.{◌≡◌, ℕ, suc, zero, ◌<◌, ◌≤◌, List, [], ◌∷◌, refl, ap, ◌∙◌, length}
use Rattle.std.proofs.Common.{map, drop, arith, All, get_or}
use Rattle.std.proofs.lemmas.List.Elements.{All-nil}
use Rattle.std.specs.Prelude.{slice_index}
use Rattle.std.specs.List.{AllByRecursion}
use Rattle.mot_objects.specs.declared.object.Object.{Object}
use Rattle.mot_objects.specs.Stands.{objects_of}
use Rattle.mot_player.specs.declared.planned_body.PlannedBody.{PlannedBody}
use Rattle.mot_player.specs.PlayerView.{AreBodiesFor, BodyPlan, TurnPlan, turn_with, with_bodies}
use Rattle.mot_player.specs.Inner.Entities.{IsPlannable}
use Rattle.mot_player.specs.Turn.{IsPlayable, IsSendable, bodies_with_ids}

abbrev pub body_plan : PlannedBody → BodyPlan
body_plan b = record { tid = b.tid; length = b.length }

-- the lengths of a plan are those of the planned bodies
pub lengths-plans : (bodies : List PlannedBody) →
    map (λ (b : BodyPlan). b.length) (map body_plan bodies)
    ≡ map (λ (b : PlannedBody). b.length) bodies
lengths-plans [] = refl
lengths-plans (b ∷ bodies) = ap (λ l. b.length ∷ l) (lengths-plans bodies)

tids-plans : (bodies : List PlannedBody) →
    map (λ (b : BodyPlan). b.tid) (map body_plan bodies) ≡ map (λ (b : PlannedBody). b.tid) bodies
tids-plans [] = refl
tids-plans (b ∷ bodies) = ap (λ l. b.tid ∷ l) (tids-plans bodies)

-- a plan is of as many bodies as were planned
pub length-plans : (bodies : List PlannedBody) → length (map body_plan bodies) ≡ length bodies
length-plans [] = refl
length-plans (b ∷ bodies) = ap suc (length-plans bodies)

-- a plan with the objects' ids is of as many bodies as objects
pub same_count : (planned : List PlannedBody) (objects : List Object) →
    map (λ (b : PlannedBody). b.tid) planned ≡ map (λ (o : Object). o.tid) objects →
    length (map body_plan planned) ≡ length objects
same_count [] [] e = refl
same_count [] (o ∷ objects) e = absurd (omega (arith, ap length e))
same_count (b ∷ planned) [] e = absurd (omega (arith, ap length e))
same_count (b ∷ planned) (o ∷ objects) e = ap suc (same_count planned objects (ap (drop 1) e))

-- each planned body has from 1 to 262,144 bytes
pub are_sized : (bodies : List PlannedBody) →
    AllByRecursion (λ (b : BodyPlan). (1 ≤ b.length) × (b.length ≤ 262144)) (map body_plan bodies)
are_sized [] = tt
are_sized (b ∷ bodies) = (b.sized, are_sized bodies)

cons_eq : (x y : ℕ × List ℕ) (xs ys : List (ℕ × List ℕ)) → x ≡ y → xs ≡ ys → x ∷ xs ≡ y ∷ ys
cons_eq x y xs ys p q = cc

with_bodies-objects : (plans : List BodyPlan) (objects : List Object) (bodies : List (List ℕ)) →
    map (λ (b : BodyPlan). b.tid) plans ≡ map (λ (o : Object). o.tid) objects →
    with_bodies plans bodies ≡ bodies_with_ids (objects_of objects bodies)
with_bodies-objects [] [] bodies e = refl
with_bodies-objects [] (o ∷ objects) bodies e = absurd (omega (arith, ap length e))
with_bodies-objects (b ∷ plans) [] bodies e = absurd (omega (arith, ap length e))
with_bodies-objects (b ∷ plans) (o ∷ objects) [] e = refl
with_bodies-objects (b ∷ plans) (o ∷ objects) (body ∷ bodies) e =
    grind (arith, with_bodies-objects plans objects bodies (ap (drop 1) e))

-- a plan with the objects' ids and their bodies is these bodies with the ids
pub with_bodies-planned : (planned : List PlannedBody) (objects : List Object)
    (bodies : List (List ℕ)) →
    map (λ (b : PlannedBody). b.tid) planned ≡ map (λ (o : Object). o.tid) objects →
    with_bodies (map body_plan planned) bodies ≡ bodies_with_ids (objects_of objects bodies)
with_bodies-planned planned objects bodies e =
    with_bodies-objects (map body_plan planned) objects bodies (tids-plans planned ∙ e)

are_sendable : (size : ℕ) (plans : List BodyPlan) (bodies : List (List ℕ)) → 64 ≤ size →
    map length bodies ≡ map (λ (b : BodyPlan). b.length) plans →
    AllByRecursion (λ (b : BodyPlan). (1 ≤ b.length) × (b.length ≤ 262144)) plans →
    All (λ (b : ℕ × List ℕ). IsSendable size b.1) (with_bodies plans bodies)
are_sendable size [] bodies s e h = All-nil (λ (b : ℕ × List ℕ). IsSendable size b.1)
are_sendable size (b ∷ plans) [] s e h = All-nil (λ (b : ℕ × List ℕ). IsSendable size b.1)
are_sendable size (b ∷ plans) (body ∷ bodies) s e h =
    grind (arith, are_sendable size plans bodies s (ap (drop 1) e) h.1)

-- a turn that was planned can be played in segments of 64 bytes or more
pub is_playable : (size : ℕ) (plan : TurnPlan) (bodies : List (List ℕ)) → 64 ≤ size
    → IsPlannable plan →
    AreBodiesFor plan bodies → IsPlayable (turn_with plan bodies) size
is_playable size plan bodies s p e = grind (arith, are_sendable)

-- what is planned of one body
pub planned_length : (bodies : List PlannedBody) (k : ℕ) (b : PlannedBody) → k < length bodies
    → b ≡ get_or bodies k b →
    b.length ≡ slice_index (map (λ (b : BodyPlan). b.length) (map body_plan bodies)) k
planned_length [] k b l e = absurd (omega arith)
planned_length (x ∷ bodies) zero b l e = ap (λ (b : PlannedBody). b.length) e
planned_length (x ∷ bodies) (suc k) b l e = planned_length bodies k b (omega arith) e

-- the id of a planned body is that at its place in the plan
pub planned_tid : (bodies : List PlannedBody) (k : ℕ) (b : PlannedBody) → k < length bodies
    → b ≡ get_or bodies k b →
    b.tid ≡ slice_index (map (λ (b : BodyPlan). b.tid) (map body_plan bodies)) k
planned_tid [] k b l e = absurd (omega arith)
planned_tid (x ∷ bodies) zero b l e = ap (λ (b : PlannedBody). b.tid) e
planned_tid (x ∷ bodies) (suc k) b l e = planned_tid bodies k b (omega arith) e
