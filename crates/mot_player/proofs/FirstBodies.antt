-- The newest bodies of a turn: those that are queued are bodies of it, and few.
use Rattle.std.proofs.Common.{◌≡◌, ◌⊎◌, ℕ, suc, ◌+◌, ◌-◌, ◌*◌, ◌<◌, ◌≤◌, Bool, true, false, List, []}
use Rattle.std.proofs.Common.{◌∷◌, ◌++◌, inl, inr, refl, sym, ap, ◌∙◌, arith, length, map, drop}
use Rattle.std.proofs.lemmas.Bool.{and_parts, ltb-true}
use Rattle.std.proofs.lemmas.List.{append_assoc, length-append}
use Rattle.std.specs.List.{AllByRecursion}
use Rattle.std.specs.Prelude.{◌&&◌, if◌then◌else◌, nat_lt}
use Rattle.mot_groups.specs.Entity.{segments_of}
use Rattle.mot_groups.specs.Group.{Segment}
use Rattle.mot_player.specs.Course.{Entity, entities_of, entity_in, queued, segments_in}
use Rattle.mot_player.specs.Inner.Entities.{IsInside, IsPlannable}
use Rattle.mot_player.specs.Inner.Newest.{first_from, ids_of}
use Rattle.mot_player.specs.PlayerView.{AreBodiesFor, BodyPlan, TurnPlan, turn_with, with_bodies}
use Rattle.mot_player.specs.Start.{first_of, is_new, newest}
use Rattle.mot_player.specs.Turn.{segments_of_bodies}
use Rattle.mot_player.specs.declared.course.Waiting.{Waiting}
use Rattle.mot_player.proofs.FollowedCourse.{entities}
use Rattle.mot_player.proofs.FollowedPlace.{plans-are}
use Rattle.mot_player.proofs.FollowedTurn.{plans}
use Rattle.mot_player.proofs.NextSegment.{entity-some}
use Rattle.mot_player.proofs.Renewed.{one-behind}

abbrev Pair : Type 0
Pair = ℕ × List ℕ

-- ---- what is queued

-- they are bodies of the turn, from their beginning on
abbrev AreInside : TurnPlan → ℕ → List Waiting → Type 0
AreInside plan size = AllByRecursion (λ (w : Waiting). (0 < w.entity) × IsInside plan size w)

pub inside-first : (plan : TurnPlan) (size : ℕ) (test : ℕ → Bool) (most entity : ℕ)
    (bodies : List BodyPlan) → IsPlannable plan → 0 < entity →
    entity + length bodies ≤ length plan.bodies + 1 →
    AreInside plan size (first_from test most entity bodies)
inside-first plan size test most entity [] p some l = tt
inside-first plan size test most entity (b ∷ bodies) p some l =
    cases (test b.tid && nat_lt 0 most)
    (λ n. inside-first plan size test n (entity + 1) bodies p (omega arith) (omega (arith, l)))
  where
    here : entity < length plan.bodies + 1
    here = omega (arith, l)

    none : 0 * size ≡ 0
    none = omega arith

    cases : (b : Bool) → ((n : ℕ) → AreInside plan size (first_from test n (entity + 1) bodies)) →
        AreInside plan size (if b then record { entity = entity; segment = 0 }
        ∷ first_from test (most - 1) (entity + 1) bodies
        else first_from test most (entity + 1) bodies)
    cases true rest = ((some, (here, rw none (entity-some plan entity p here))), rest (most - 1))
    cases false rest = rest most

-- their segments are those of the first bodies
queued-first : (size : ℕ) (d : Entity) (test : ℕ → Bool) (most entity : ℕ)
    (before bodies : List Pair) → entity ≡ suc (length before) →
    queued size (entities d (before ++ bodies)) (first_from test most entity (plans bodies))
    ≡ segments_of_bodies size (first_of test most bodies)
queued-first size d test most entity before [] e = refl
queued-first size d test most entity before (b ∷ bodies) e =
    cases (test b.0 && nat_lt 0 most)
    (λ n. ap (λ (bs : List Pair). queued size (entities d bs)
    (first_from test n (entity + 1) (plans bodies))) (sym (append_assoc before (b ∷ []) bodies))
    ∙ queued-first size d test n (entity + 1) (before ++ b ∷ []) bodies counted)
  where
    all : List Entity
    all = entities d (before ++ b ∷ bodies)

    counted : entity + 1 ≡ suc (length (before ++ b ∷ []))
    counted = omega (arith, e, length-append before (b ∷ []))

    cases : (t : Bool) →
        ((n : ℕ) → queued size all (first_from test n (entity + 1) (plans bodies))
        ≡ segments_of_bodies size (first_of test n bodies)) →
        queued size all (if t then record { entity = entity; segment = 0 }
        ∷ first_from test (most - 1) (entity + 1) (plans bodies)
        else first_from test most (entity + 1) (plans bodies))
        ≡ segments_of_bodies size (if t then b ∷ first_of test (most - 1) bodies
        else first_of test most bodies)
    cases true rest =
        let later : List Segment =
        queued size all (first_from test (most - 1) (entity + 1) (plans bodies)) in
        ap (λ (k : ℕ). drop 0 (segments_in size (entity_in all k)) ++ later) e
        ∙ ap (λ (ss : List Segment). ss ++ later)
        (one-behind size before (b ∷ bodies) (length before) 0 0 (omega arith))
        ∙ ap (λ (ss : List Segment). segments_of 4 b.0 size b.1 ++ ss) (rest (most - 1))
    cases false rest = rest most

ids-are : (bodies : List Pair) → ids_of (plans bodies) ≡ map (λ (b : Pair). b.0) bodies
ids-are [] = refl
ids-are (b ∷ bodies) = ap (λ (ids : List ℕ). b.0 ∷ ids) (ids-are bodies)

-- and so of a turn with its bodies
pub queued-newest : (plan : TurnPlan) (bodies : List (List ℕ)) (size most cursor : ℕ) →
    AreBodiesFor plan bodies →
    queued size (entities_of (turn_with plan bodies))
    (first_from (is_new most cursor (ids_of plan.bodies)) most 1 plan.bodies)
    ≡ segments_of_bodies size (newest most cursor (turn_with plan bodies).bodies)
queued-newest plan bodies size most cursor are =
    let own : List Pair = with_bodies plan.bodies bodies in
    let all : List Entity = entities_of (turn_with plan bodies) in
    ap (λ (ps : List BodyPlan). queued size all
    (first_from (is_new most cursor (ids_of ps)) most 1 ps))
    (sym (plans-are plan.bodies bodies are))
    ∙ ap (λ (ids : List ℕ). queued size all (first_from (is_new most cursor ids) most 1 (plans own)))
    (ids-are own)
    ∙ queued-first size (record { kind = 6; tid = plan.tid; bytes = plan.directory })
    (is_new most cursor (map (λ (b : Pair). b.0) own)) most 1 [] own refl

-- ---- which bodies these are

-- one of some bodies
abbrev pub IsOneOf : List Pair → Pair → Type 0
IsOneOf [] b = ⊥
IsOneOf (x ∷ xs) b = (b ≡ x) ⊎ IsOneOf xs b

first-one : (test : ℕ → Bool) (most : ℕ) (all bodies : List Pair) →
    ((b : Pair) → IsOneOf bodies b → IsOneOf all b) →
    AllByRecursion (IsOneOf all) (first_of test most bodies)
first-one test most all [] within = tt
first-one test most all (b ∷ bodies) within =
    cases (test b.0 && nat_lt 0 most)
    (λ n. first-one test n all bodies (λ c one. within c (inr one)))
  where
    cases : (t : Bool) → ((n : ℕ) → AllByRecursion (IsOneOf all) (first_of test n bodies)) →
        AllByRecursion (IsOneOf all)
        (if t then b ∷ first_of test (most - 1) bodies else first_of test most bodies)
    cases true rest = (within b (inl refl), rest (most - 1))
    cases false rest = rest most

first-few : (test : ℕ → Bool) (most : ℕ) (bodies : List Pair) →
    length (first_of test most bodies) ≤ most
first-few test most [] = omega arith
first-few test most (b ∷ bodies) =
    cases (test b.0 && nat_lt 0 most) refl (λ n. first-few test n bodies)
  where
    cases : (t : Bool) → (test b.0 && nat_lt 0 most) ≡ t →
        ((n : ℕ) → length (first_of test n bodies) ≤ n) →
        length (if t then b ∷ first_of test (most - 1) bodies else first_of test most bodies) ≤ most
    cases true e rest =
        omega (
          arith,
          rest (most - 1),
          ltb-true 0 most (and_parts (test b.0) (nat_lt 0 most) e).1,
        )
    cases false e rest = rest most

-- the newest are bodies of the turn
pub newest-one : (most cursor : ℕ) (bodies : List Pair) →
    AllByRecursion (IsOneOf bodies) (newest most cursor bodies)
newest-one most cursor bodies = grind (arith, first-one)

-- and no more than may be
pub newest-few : (most cursor : ℕ) (bodies : List Pair) →
    length (newest most cursor bodies) ≤ most
newest-few most cursor bodies =
    first-few (is_new most cursor (map (λ (b : Pair). b.0) bodies)) most bodies
