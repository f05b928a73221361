-- Of what is queued, how many bodies are not begun.
use Rattle.std.proofs.Common.{◌≡◌, ℕ, suc, zero, ◌+◌, ◌*◌, ◌<◌, ◌≤◌, List, []}
use Rattle.std.proofs.Common.{◌∷◌, drop, length, refl, ap, ◌∙◌, arith}
use Rattle.std.proofs.lemmas.Bool.{ne_eqb}
use Rattle.std.proofs.lemmas.Grind.{div_ceil_times}
use Rattle.std.specs.List.{AllByRecursion}
use Rattle.std.specs.Prelude.{◌==◌, if◌then◌else◌}
use Rattle.mot_groups.specs.Entity.{first_pieces, numbered_segments}
use Rattle.mot_player.specs.Course.{Entity, entities_of, entity_in, queued, segments_in}
use Rattle.mot_player.specs.Inner.Course.{entities_not_begun}
use Rattle.mot_player.specs.Inner.Entities.{IsInside, entity_length}
use Rattle.mot_player.specs.Place.{bodies_not_begun}
use Rattle.mot_player.specs.PlayerView.{AreBodiesFor, TurnPlan, turn_with}
use Rattle.mot_player.specs.declared.course.Waiting.{Waiting}
use Rattle.mot_player.proofs.FewEarly.{both-counted, none-later}
use Rattle.mot_player.proofs.NextSegment.{entities-at, entity_at, length-at}

-- behind the first none is a first one
none-behind : (kind tid n k : ℕ) (ps : List (List ℕ)) → 0 < n →
    bodies_not_begun (drop k (numbered_segments kind tid n ps)) ≡ 0
none-behind kind tid n zero ps some = none-later kind tid n ps some
none-behind kind tid n (suc k) [] some = refl
none-behind kind tid n (suc k) (p ∷ ps) some = none-behind kind tid (n + 1) k ps (omega arith)

pub first-counted : (kind tid count size : ℕ) (bytes : List ℕ) → 0 < length bytes →
    length bytes ≤ count * size →
    bodies_not_begun (numbered_segments kind tid 0 (first_pieces count size bytes)) ≡ 1
first-counted kind tid count size bytes some enough = grind (arith, none-later)

behind-counted : (kind tid k : ℕ) (ps : List (List ℕ)) →
    bodies_not_begun (drop (suc k) (numbered_segments kind tid 0 ps)) ≡ 0
behind-counted kind tid k [] = refl
behind-counted kind tid k (p ∷ ps) = none-behind kind tid (0 + 1) k ps (omega arith)

-- of one that is not empty and that is sent from a segment of it on
pub one-counted : (size s : ℕ) (x : Entity) → 0 < size → s * size < length x.bytes →
    bodies_not_begun (drop s (segments_in size x)) ≡ (if s == 0 then 1 else 0)
one-counted size s x some l =
    grind (arith, first-counted, div_ceil_times, behind-counted, ne_eqb)

-- as many as are queued from their beginnings on
pub queued-not_begun : (plan : TurnPlan) (bodies : List (List ℕ)) (size : ℕ) (q : List Waiting) →
    0 < size → AreBodiesFor plan bodies →
    AllByRecursion (λ (w : Waiting). (0 < w.entity) × IsInside plan size w) q →
    bodies_not_begun (queued size (entities_of (turn_with plan bodies)) q) ≡ entities_not_begun q
queued-not_begun plan bodies size [] some are on = refl
queued-not_begun plan bodies size (w ∷ q) some are on =
    let entities : List Entity = entities_of (turn_with plan bodies) in
    let x : Entity = entity_at plan bodies w.entity in
    let long : length x.bytes ≡ entity_length plan w.entity =
    length-at plan bodies w.entity are on.0.1.0 in
    let one : bodies_not_begun (drop w.segment (segments_in size (entity_in entities w.entity)))
    ≡ (if w.segment == 0 then 1 else 0) =
    ap (λ (y : Entity). bodies_not_begun (drop w.segment (segments_in size y)))
    (entities-at plan bodies w.entity (record { kind = 4; tid = 0; bytes = [] }) are on.0.1.0)
    ∙ one-counted size w.segment x some (omega (arith, on.0.1.1, long)) in
    both-counted (drop w.segment (segments_in size (entity_in entities w.entity)))
    (queued size entities q)
    ∙ ap (λ (n : ℕ). n + bodies_not_begun (queued size entities q)) one
    ∙ ap (λ (n : ℕ). (if w.segment == 0 then 1 else 0) + n)
    (queued-not_begun plan bodies size q some are on.1)
