-- Each packet brings the end of the turn nearer, whatever bytes a read gave.
use Rattle.std.proofs.Common.{◌≡◌, ℕ, ◌+◌, ◌-◌, ◌<◌, ◌≤◌, Bool, false, List, [], ◌∷◌, refl, sym, ap}
use Rattle.std.proofs.Common.{◌∙◌, subst, arith, length, length-drop, length-take-le, map, take}
use Rattle.std.proofs.Common.{drop, vec_len}
use Rattle.std.proofs.lemmas.List.{length-replicate}
use Rattle.std.specs.Prelude.{replicate}
use Rattle.mot_player.specs.Inner.Next.{IsNext}
use Rattle.mot_player.specs.Inner.Ready.{HasTaken, place_with}
use Rattle.mot_player.specs.State.{view_of}
use Rattle.mot_player.specs.Laws.{blank_bodies, bytes_due, bytes_left}
use Rattle.mot_player.specs.Course.{course_of}
use Rattle.mot_player.specs.Inner.Course.{passed}
use Rattle.mot_player.specs.PlayerView.{AreBodiesFor, BodyPlan, TurnPlan}
use Rattle.mot_player.specs.Inner.Entities.{entity_bytes, entity_length}
use Rattle.mot_player.specs.declared.part.Part.{Part}
use Rattle.mot_player.specs.declared.state.State.{State}
use Rattle.mot_player.proofs.Answered.{sent_from}
use Rattle.mot_player.proofs.NextSegment.{length-at}

-- a part of an entity has so many bytes
length-part : (plan : TurnPlan) (bodies : List (List ℕ)) (k at len : ℕ) →
    AreBodiesFor plan bodies → k < length plan.bodies + 1 → at + len ≤ entity_length plan k →
    length (take len (drop at (entity_bytes plan bodies k))) ≡ len
length-part plan bodies k at len are l range =
    let bytes : List ℕ = entity_bytes plan bodies k in
    let whole : length bytes ≡ entity_length plan k = length-at plan bodies k are l in
    let left : length (drop at bytes) ≡ length bytes - at = length-drop at bytes in
    length-take-le len (drop at bytes) (omega (arith, whole, left, range))

-- the group of the next part has come
pub taken : (old new : State) (bodies : List (List ℕ)) (p : Part) →
    AreBodiesFor old.turn bodies → IsNext old.turn old.segment_size (course_of old.course) p →
    p.entity < length old.turn.bodies + 1 →
    p.from + p.len ≤ entity_length old.turn p.entity → new.turn ≡ old.turn →
    new.segment_size ≡ old.segment_size →
    course_of new.course ≡ passed (length old.turn.bodies + 1) p (course_of old.course) → vec_len
    new.group ≡ p.len + 11 → HasTaken old new bodies
taken old new bodies p are next inside range same_turn same_size course len =
    grind (arith, length-part)

-- blank bodies have the lengths of the plan
pub blank-lengths : (plans : List BodyPlan) →
    map (length {A = ℕ}) (map (λ (b : BodyPlan). replicate {A = ℕ} b.length 0) plans)
    ≡ map (λ (b : BodyPlan). b.length) plans
blank-lengths [] = refl
blank-lengths (b ∷ plans) =
    grind (arith, blank-lengths plans, length-replicate)

-- blank bodies are bodies for the plan
pub are-blank : (plan : TurnPlan) → AreBodiesFor plan (blank_bodies plan)
are-blank plan = blank-lengths plan.bodies

-- a packet of the group that is under way
pub nearer-under_way : (state : State) (bodies : List (List ℕ)) → (state.sent ≡ 0 → ⊥) →
    state.sent < vec_len state.group → (sent_from state bodies).ends_turn ≡ false →
    bytes_due (sent_from state bodies).place < bytes_due (place_with state bodies)
nearer-under_way state bodies some left goes_on = grind arith

-- the first packet of a group that was begun
pub nearer-begun : (old state : State) (bodies : List (List ℕ)) → old.sent ≡ 0 →
    state.sent ≡ 0 → HasTaken old state bodies → (sent_from state bodies).ends_turn ≡ false →
    bytes_due (sent_from state bodies).place < bytes_due (place_with old bodies)
nearer-begun old state bodies none none_sent taken goes_on = grind arith

-- as it is told of standings: `mid` is the state that sends
pub left-less : (old mid new : State) (ends : Bool) → mid.turn ≡ old.turn →
    new.turn ≡ mid.turn →
    ((bodies : List (List ℕ)) → AreBodiesFor mid.turn bodies →
    ends ≡ (sent_from mid bodies).ends_turn) →
    ((bodies : List (List ℕ)) → place_with new bodies ≡ (sent_from mid bodies).place) →
    ((bodies : List (List ℕ)) → AreBodiesFor old.turn bodies →
    (sent_from mid bodies).ends_turn ≡ false →
    bytes_due (sent_from mid bodies).place < bytes_due (place_with old bodies)) →
    ends ≡ false → bytes_left (view_of new) < bytes_left (view_of old)
left-less old mid new ends kept same ends_is place less goes_on =
    let bodies : List (List ℕ) = blank_bodies old.turn in
    let are : AreBodiesFor old.turn bodies = are-blank old.turn in
    let own : AreBodiesFor mid.turn bodies =
    subst (λ (t : TurnPlan). AreBodiesFor t bodies) (sym kept) are in
    let here : bytes_left (view_of new) ≡ bytes_due (sent_from mid bodies).place =
    ap (λ (t : TurnPlan). bytes_due (place_with new (blank_bodies t))) (same ∙ kept)
    ∙ ap bytes_due (place bodies) in
    let below : bytes_due (sent_from mid bodies).place < bytes_left (view_of old) =
    less bodies are (sym (ends_is bodies own) ∙ goes_on) in
    omega (arith, here, below)
