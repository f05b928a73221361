-- The course of a turn: what is due of it, and what waits behind.
use Rattle.std.proofs.Common.{◌≡◌, ℕ, suc, zero, ◌+◌, ◌-◌, ◌*◌, ◌<◌, List, [], ◌∷◌, ◌++◌, length}
use Rattle.std.proofs.Common.{drop, take, refl, sym, ap, ◌∙◌, subst, arith, Bool, true, false}
use Rattle.std.proofs.Common.{Option, Some, None, inl, inr, map, min, add-one}
use Rattle.std.proofs.lemmas.Bool.{cases_lt, eqb-true, eqb-false, lt-ltb, ne_eqb}
use Rattle.std.proofs.lemmas.List.{append_assoc}
use Rattle.std.proofs.lemmas.List.Elements.{filter-append}
use Rattle.std.specs.Prelude.{◌==◌, if◌then◌else◌, flat_map, nat_lt, not, IfSome}
use Rattle.std.specs.List.{AllByRecursion}
use Rattle.mot_groups.specs.Entity.{numbered_segments, pieces, segments_of}
use Rattle.mot_groups.specs.Group.{Segment}
use Rattle.mot_numbers.specs.Reading.{is_empty}
use Rattle.mot_player.specs.Course.{CourseView, Entity, directory_from, entities_of, entity_in}
use Rattle.mot_player.specs.Course.{queued, segments_from, segments_in, waiting_of}
use Rattle.mot_player.specs.Inner.Course.{due_of, due_with, has_ended, has_ended_with, passed}
use Rattle.mot_player.specs.Inner.Course.{heard_course, passed_with, whole_course}
use Rattle.mot_player.specs.PlayerView.{AreBodiesFor, TurnPlan, turn_with}
use Rattle.mot_player.specs.Inner.Entities.{IsInside, IsOnCourse, IsPlannable, IsWithinTurn}
use Rattle.mot_player.specs.Inner.Entities.{entity_bytes, entity_length, entity_tid}
use Rattle.mot_player.specs.Inner.Next.{due_from, segment_of}
use Rattle.mot_player.specs.Place.{directory_segments, of_bodies}
use Rattle.mot_player.specs.Turn.{Turn, segments_of_turn}
use Rattle.mot_player.specs.declared.course.Waiting.{Waiting}
use Rattle.mot_player.specs.declared.part.Part.{Part}
use Rattle.mot_player.proofs.NextSegment.{IsPart, entities-at, entity-some, entity_at, first-at-end}
use Rattle.mot_player.proofs.NextSegment.{from-first, from-part, inside-turn, length-at, segment}
use Rattle.mot_player.proofs.NextSegment.{segment-in, waits-none, within-first, within-next}
use Rattle.mot_player.proofs.Segments.{body_entity, segments-bodies, segments_from-end}

drop-none : (n : ℕ) → drop {A = Segment} n [] ≡ []
drop-none n = grind arith

drop-suc : (xs : List Waiting) (n : ℕ) → n < length xs →
    (w : Waiting) × (drop n xs ≡ w ∷ drop (suc n) xs)
drop-suc [] n l = absurd (omega arith)
drop-suc (x ∷ xs) zero l = (x, refl)
drop-suc (x ∷ xs) (suc n) l = drop-suc xs n (omega arith)

-- before its end a queue has a first
pub drop-cons : (xs : List Waiting) (n : ℕ) → n < length xs →
    (w : Waiting) × (drop n xs ≡ w ∷ drop (n + 1) xs)
drop-cons xs n l =
    let h = drop-suc xs n l in
    (h.0, h.1 ∙ ap (λ (k : ℕ). h.0 ∷ drop k xs) (sym (add-one n)))

-- a part is the segment of its entity that is due
pub record IsPartAt (plan : TurnPlan) (size : ℕ) (w : Waiting) (p : Part) : Type 0 where
  -- its entity
  pub entity : p.entity ≡ w.entity
  -- which of its segments
  pub number : p.number ≡ w.segment
  -- what comes behind it
  pub next_entity : p.next_entity ≡ (if p.is_last then w.entity + 1 else w.entity)
  pub next_segment : p.next_segment ≡ (if p.is_last then 0 else w.segment + 1)
  -- and its bytes
  pub part : IsPart size w.segment (entity_length plan w.entity) p.from p.len p.is_last

pub due-inside : (plan : TurnPlan) (size : ℕ) (c : CourseView) → IsPlannable plan →
    IsOnCourse plan size c → IsInside plan size (due_of (length plan.bodies + 1) c)
due-inside plan size c p on = grind arith

-- an entity's next segment, where it has one
more-inside : (plan : TurnPlan) (size k s at len : ℕ) → IsPlannable plan →
    k < length plan.bodies + 1 → IsPart size s (entity_length plan k) at len false →
    (s + 1) * size < entity_length plan k
more-inside plan size k s at len p l part = grind arith

-- behind a directory comes the first body, or the turn's end
first-body : (plan : TurnPlan) (size : ℕ) → IsPlannable plan → IsWithinTurn plan size 1 0
first-body plan size p = elim (cases_lt 1 (length plan.bodies + 1)) [
  | inl h ↦ (let first : 0 * size ≡ 0 = omega arith in inl (h, rw first (entity-some plan 1 p h)))
  | inr h ↦ inr (omega arith, refl)
]

-- the directory's place behind a part of it
directory-on : (plan : TurnPlan) (size s : ℕ) (p : Part) (last : Bool) → p.is_last ≡ last →
    IsPlannable plan → p.next_segment ≡ (if last then 0 else s + 1) →
    IsPart size s (entity_length plan 0) p.from p.len last →
    IfSome (if last then None else Some p.next_segment)
    (λ (n : ℕ). n * size < length plan.directory)
directory-on plan size s p true e plannable next part = tt
directory-on plan size s p false e plannable next part =
    rw next (more-inside plan size 0 s p.from p.len plannable (omega arith) part)

queue-on : (plan : TurnPlan) (size : ℕ) (w : Waiting) (q : List Waiting) (p : Part) (last : Bool) →
    IsPlannable plan → p.entity ≡ w.entity → p.next_segment ≡ (if last then 0 else w.segment + 1) →
    IsPart size w.segment (entity_length plan w.entity) p.from p.len last →
    AllByRecursion (λ (v : Waiting). (0 < v.entity) × IsInside plan size v) (w ∷ q) →
    AllByRecursion (λ (v : Waiting). (0 < v.entity) × IsInside plan size v)
    (if last then q else record { entity = p.entity; segment = p.next_segment } ∷ q)
queue-on plan size w q p last plannable same next part on = grind (arith, more-inside)

some-next : (last : Bool) (e : ℕ) → 0 < e → 0 < (if last then e + 1 else e)
some-next last e l = grind arith

on-with : (plan : TurnPlan) (size : ℕ) (d : Option ℕ) (q : List Waiting) (e g : ℕ) (t : Bool)
    (p : Part) → (e == length plan.bodies + 1) ≡ t → IsPlannable plan →
    IsOnCourse plan size (record { directory = d; queue = q; entity = e; segment = g }) →
    IsPartAt plan size (due_with (length plan.bodies + 1) d q e g) p →
    IsOnCourse plan size (passed_with (length plan.bodies + 1) p d q e g)
on-with plan size (Some s) q e g t p test plannable on at = record {
  directory = directory-on plan size s p p.is_last refl plannable at.next_segment at.part;
  queue = on.queue;
  body = on.body;
  within = on.within;
}
on-with plan size None (w ∷ q) e g t p test plannable on at = record {
  directory = tt;
  queue = queue-on plan size w q p p.is_last plannable at.entity at.next_segment at.part on.queue;
  body = on.body;
  within = on.within;
}
on-with plan size None [] e g true p test plannable on at =
    let first : IsPartAt plan size (record { entity = 0; segment = 0 }) p =
    subst (λ (b : Bool). IsPartAt plan size
    (if b then record { entity = 0; segment = 0 } else record { entity = e; segment = g }) p)
    test at in
    rw test (record {
      directory = directory-on plan size 0 p p.is_last refl plannable first.next_segment
          first.part;
      queue = tt;
      body = omega arith;
      within = first-body plan size plannable;
    })
on-with plan size None [] e g false p test plannable on at =
    let here : IsPartAt plan size (record { entity = e; segment = g }) p =
    subst (λ (b : Bool). IsPartAt plan size
    (if b then record { entity = 0; segment = 0 } else record { entity = e; segment = g }) p)
    test at in
    let inside = inside-turn plan size e g on.within (eqb-false e (length plan.bodies + 1) test) in
    rw (test, here.next_entity, here.next_segment) (record {
      directory = tt;
      queue = tt;
      body = some-next p.is_last e on.body;
      within = within-next plan size e g p.from p.len p.is_last plannable inside.0 here.part;
    })

-- behind the part that was due, the course is within the turn
pub on-course : (plan : TurnPlan) (size : ℕ) (c : CourseView) (p : Part) → IsPlannable plan →
    IsOnCourse plan size c → IsPartAt plan size (due_of (length plan.bodies + 1) c) p →
    IsOnCourse plan size (passed (length plan.bodies + 1) p c)
on-course plan size c p plannable on at =
    on-with plan size c.directory c.queue c.entity c.segment (c.entity == length plan.bodies + 1) p
    refl plannable on at

-- the first of an entity's segments that are due, and those behind it
abbrev part_segment : TurnPlan → List (List ℕ) → Waiting → Part → Segment
part_segment plan bodies w p =
    segment (if w.entity == 0 then 6 else 4) (entity_tid plan w.entity) w.segment p.is_last
    (take p.len (drop p.from (entity_bytes plan bodies w.entity)))

same-segment : (plan : TurnPlan) (bodies : List (List ℕ)) (size : ℕ) (w : Waiting) (p : Part) →
    IsPartAt plan size w p → segment_of plan bodies p ≡ part_segment plan bodies w p
same-segment plan bodies size w p at = rw (at.entity, at.number) refl

entity-part : (plan : TurnPlan) (bodies : List (List ℕ)) (size : ℕ) (w : Waiting) (p : Part)
    (rest : List Segment) → 0 < size → AreBodiesFor plan bodies → IsInside plan size w →
    IsPartAt plan size w p →
    drop w.segment (segments_in size (entity_at plan bodies w.entity)) ++ rest
    ≡ segment_of plan bodies p
    ∷ (if p.is_last then rest
    else drop (w.segment + 1) (segments_in size (entity_at plan bodies w.entity)) ++ rest)
entity-part plan bodies size w p rest some are inside at =
    let x : Entity = entity_at plan bodies w.entity in
    let own : IsPart size w.segment (length x.bytes) p.from p.len p.is_last =
    subst (λ n. IsPart size w.segment n p.from p.len p.is_last)
    (sym (length-at plan bodies w.entity are inside.0)) at.part in
    segment-in size x w.segment p.from p.len p.is_last some own rest
    ∙ ap (λ (n : ℕ). part_segment plan bodies w p
    ∷ (if p.is_last then rest else drop n (segments_in size x) ++ rest)) (sym (add-one w.segment))
    ∙ ap (λ (s : Segment). s
    ∷ (if p.is_last then rest else drop (w.segment + 1) (segments_in size x) ++ rest))
    (sym (same-segment plan bodies size w p at))

-- what a first segment makes of what is due
due-some : (plan : TurnPlan) (bodies : List (List ℕ)) (size : ℕ) (waiting : List Segment)
    (x : Segment) (xs : List Segment) → waiting ≡ x ∷ xs →
    (if is_empty waiting then segments_of_turn (turn_with plan bodies) size else waiting) ≡ x ∷ xs
due-some plan bodies size waiting x xs e = grind arith

three : (xs ys zs : List Segment) → xs ++ ys ++ zs ≡ xs ++ (ys ++ zs)
three xs ys zs = append_assoc xs ys zs

-- behind a part of the directory
directory-behind : (size : ℕ) (plan : TurnPlan) (bodies : List (List ℕ)) (s next : ℕ) (last : Bool)
    (q b : List Segment) → next ≡ (if last then 0 else s + 1) →
    (if last then q ++ b
    else drop (s + 1) (segments_in size (entity_at plan bodies 0)) ++ (q ++ b))
    ≡ directory_from size (turn_with plan bodies) (if last then None else Some next) ++ q ++ b
directory-behind size plan bodies s next true q b e = refl
directory-behind size plan bodies s next false q b e =
    rw e (sym (three (drop (s + 1) (segments_of 6 plan.tid size plan.directory)) q b))

-- behind a part of a queued body
queue-behind : (size : ℕ) (plan : TurnPlan) (bodies : List (List ℕ)) (w : Waiting)
    (q : List Waiting) (p : Part) (last : Bool) (b : List Segment) → AreBodiesFor plan bodies →
    w.entity < length plan.bodies + 1 → p.entity ≡ w.entity →
    p.next_segment ≡ (if last then 0 else w.segment + 1) →
    (if last then queued size (entities_of (turn_with plan bodies)) q ++ b
    else drop (w.segment + 1) (segments_in size (entity_at plan bodies w.entity))
    ++ (queued size (entities_of (turn_with plan bodies)) q ++ b))
    ≡ queued size (entities_of (turn_with plan bodies))
    (if last then q else record { entity = p.entity; segment = p.next_segment } ∷ q) ++ b
queue-behind size plan bodies w q p true b are l same next = refl
queue-behind size plan bodies w q p false b are l same next =
    let entities : List Entity = entities_of (turn_with plan bodies) in
    rw (same, next)
    (ap (λ (x : Entity). drop (w.segment + 1) (segments_in size x)
    ++ (queued size entities q ++ b))
    (sym (entities-at plan bodies w.entity (record { kind = 4; tid = 0; bytes = [] }) are l))
    ∙ sym (three (drop (w.segment + 1) (segments_in size (entity_in entities w.entity)))
    (queued size entities q) b))

whole-turn : (plan : TurnPlan) (bodies : List (List ℕ)) (size : ℕ) →
    segments_of_turn (turn_with plan bodies) size
    ≡ drop 0 (segments_in size (entity_at plan bodies 0))
    ++ segments_from size (entities_of (turn_with plan bodies)) 1 0
whole-turn plan bodies size =
    let turn = turn_with plan bodies in
    ap (λ (ss : List Segment). segments_of 6 plan.tid size plan.directory ++ ss)
    (sym (segments-bodies size turn.bodies)
    ∙ sym (from-first size (drop 1 (entities_of turn))))

next-with : (plan : TurnPlan) (bodies : List (List ℕ)) (size : ℕ) (d : Option ℕ)
    (q : List Waiting) (e g : ℕ) (t : Bool) (p : Part) → (e == length plan.bodies + 1) ≡ t →
    0 < size → AreBodiesFor plan bodies →
    IsOnCourse plan size (record { directory = d; queue = q; entity = e; segment = g }) →
    IsInside plan size (due_with (length plan.bodies + 1) d q e g) →
    IsPartAt plan size (due_with (length plan.bodies + 1) d q e g) p →
    due_from plan bodies size (record { directory = d; queue = q; entity = e; segment = g })
    ≡ segment_of plan bodies p
    ∷ waiting_of size (turn_with plan bodies) (passed_with (length plan.bodies + 1) p d q e g)
next-with plan bodies size (Some s) q e g t p test some are on inside at =
    let entities : List Entity = entities_of (turn_with plan bodies) in
    let qs : List Segment = queued size entities q in
    let bs : List Segment = segments_from size entities e g in
    let first : List Segment = drop s (segments_of 6 plan.tid size plan.directory) in
    let behind : List Segment = directory_from size (turn_with plan bodies)
    (if p.is_last then None else Some p.next_segment) ++ qs ++ bs in
    due-some plan bodies size (first ++ qs ++ bs) (segment_of plan bodies p) behind
    (three first qs bs
    ∙ entity-part plan bodies size (record { entity = 0; segment = s }) p (qs ++ bs) some are
    inside at
    ∙ ap (λ (ss : List Segment). segment_of plan bodies p ∷ ss)
    (directory-behind size plan bodies s p.next_segment p.is_last qs bs at.next_segment))
next-with plan bodies size None (w ∷ q) e g t p test some are on inside at =
    let entities : List Entity = entities_of (turn_with plan bodies) in
    let qs : List Segment = queued size entities q in
    let bs : List Segment = segments_from size entities e g in
    let first : List Segment = drop w.segment (segments_in size (entity_in entities w.entity)) in
    let behind : List Segment = queued size entities
    (if p.is_last then q else record { entity = p.entity; segment = p.next_segment } ∷ q) ++ bs in
    due-some plan bodies size (first ++ qs ++ bs) (segment_of plan bodies p) behind
    (three first qs bs
    ∙ ap (λ (x : Entity). drop w.segment (segments_in size x) ++ (qs ++ bs))
    (entities-at plan bodies w.entity (record { kind = 4; tid = 0; bytes = [] }) are inside.0)
    ∙ entity-part plan bodies size w p (qs ++ bs) some are inside at
    ∙ ap (λ (ss : List Segment). segment_of plan bodies p ∷ ss)
    (queue-behind size plan bodies w q p p.is_last bs are inside.0 at.entity at.next_segment))
next-with plan bodies size None [] e g true p test some are on inside at =
    let turn = turn_with plan bodies in
    let entities : List Entity = entities_of turn in
    let at_end : e ≡ length plan.bodies + 1 = eqb-true e (length plan.bodies + 1) test in
    let none : segments_from size entities e g ≡ [] =
    ap (segments_from size entities e) (first-at-end plan size e g on.within at_end)
    ∙ segments_from-end plan bodies size e are at_end in
    let w : Waiting = record { entity = 0; segment = 0 } in
    let first : IsPartAt plan size w p =
    subst (λ (b : Bool). IsPartAt plan size
    (if b then w else record { entity = e; segment = g }) p) test at in
    let within : IsInside plan size w =
    subst (λ (b : Bool). IsInside plan size
    (if b then w else record { entity = e; segment = g })) test inside in
    let bs : List Segment = segments_from size entities 1 0 in
    rw test
    (ap (λ (ss : List Segment). if is_empty ss then segments_of_turn turn size else ss) none
    ∙ whole-turn plan bodies size
    ∙ entity-part plan bodies size w p bs some are within first
    ∙ ap (λ (ss : List Segment). segment_of plan bodies p ∷ ss)
    (directory-behind size plan bodies 0 p.next_segment p.is_last [] bs first.next_segment))
next-with plan bodies size None [] e g false p test some are on inside at =
    let entities : List Entity = entities_of (turn_with plan bodies) in
    let w : Waiting = record { entity = e; segment = g } in
    let here : IsPartAt plan size w p =
    subst (λ (b : Bool). IsPartAt plan size
    (if b then record { entity = 0; segment = 0 } else w) p) test at in
    let within : IsInside plan size w =
    subst (λ (b : Bool). IsInside plan size
    (if b then record { entity = 0; segment = 0 } else w)) test inside in
    rw test
    (due-some plan bodies size (segments_from size entities e g) (segment_of plan bodies p)
    (segments_from size entities p.next_entity p.next_segment)
    (from-part plan bodies size e g p.from p.len p.is_last some are within.0 here.part
    ∙ ap (λ (s : Segment). s
    ∷ segments_from size entities (if p.is_last then e + 1 else e) (if p.is_last then 0 else g + 1))
    (sym (same-segment plan bodies size w p here))
    ∙ ap (λ (k : ℕ). segment_of plan bodies p
    ∷ segments_from size entities k (if p.is_last then 0 else g + 1)) (sym here.next_entity)
    ∙ ap (λ (n : ℕ). segment_of plan bodies p ∷ segments_from size entities p.next_entity n)
    (sym here.next_segment)))

-- the part that is due is the first segment to send, and the course behind it has the others
pub course-next : (plan : TurnPlan) (bodies : List (List ℕ)) (size : ℕ) (c : CourseView)
    (p : Part) → 0 < size → AreBodiesFor plan bodies → IsOnCourse plan size c →
    IsInside plan size (due_of (length plan.bodies + 1) c) →
    IsPartAt plan size (due_of (length plan.bodies + 1) c) p →
    due_from plan bodies size c
    ≡ segment_of plan bodies p
    ∷ waiting_of size (turn_with plan bodies) (passed (length plan.bodies + 1) p c)
course-next plan bodies size c p some are on inside at =
    grind (arith, next-with)

-- a segment that is due comes
first-some : (plan : TurnPlan) (bodies : List (List ℕ)) (size : ℕ) (w : Waiting)
    (rest : List Segment) → 0 < size → AreBodiesFor plan bodies → IsInside plan size w →
    is_empty (drop w.segment (segments_in size (entity_at plan bodies w.entity)) ++ rest) ≡ false
first-some plan bodies size w rest some are inside =
    let x : Entity = entity_at plan bodies w.entity in
    let long : length x.bytes ≡ entity_length plan w.entity =
    length-at plan bodies w.entity are inside.0 in
    let at : ℕ = w.segment * size in
    let begins : w.segment * size < length x.bytes = omega (arith, inside.1, long) in
    let len : ℕ = min (length x.bytes - at) size in
    let is_last : Bool = at + len == length x.bytes in
    let p : IsPart size w.segment (length x.bytes) at len is_last = record {
      from = refl;
      begins = begins;
      range = omega arith;
      short = omega arith;
      full = λ h. omega arith;
      last = refl;
    } in
    ap is_empty (segment-in size x w.segment at len is_last some p rest)

ended-with : (plan : TurnPlan) (bodies : List (List ℕ)) (size : ℕ) (d : Option ℕ)
    (q : List Waiting) (e g : ℕ) → 0 < size → AreBodiesFor plan bodies →
    IsOnCourse plan size (record { directory = d; queue = q; entity = e; segment = g }) →
    is_empty (waiting_of size (turn_with plan bodies)
    (record { directory = d; queue = q; entity = e; segment = g }))
    ≡ has_ended_with (length plan.bodies + 1) d q e
ended-with plan bodies size (Some s) q e g some are on =
    let entities : List Entity = entities_of (turn_with plan bodies) in
    let qs : List Segment = queued size entities q in
    let bs : List Segment = segments_from size entities e g in
    ap is_empty (three (drop s (segments_of 6 plan.tid size plan.directory)) qs bs)
    ∙ first-some plan bodies size (record { entity = 0; segment = s }) (qs ++ bs) some are
    (omega arith, on.directory)
ended-with plan bodies size None (w ∷ q) e g some are on =
    let entities : List Entity = entities_of (turn_with plan bodies) in
    let qs : List Segment = queued size entities q in
    let bs : List Segment = segments_from size entities e g in
    ap is_empty (three (drop w.segment (segments_in size (entity_in entities w.entity))) qs bs
    ∙ ap (λ (x : Entity). drop w.segment (segments_in size x) ++ (qs ++ bs))
    (entities-at plan bodies w.entity (record { kind = 4; tid = 0; bytes = [] }) are
    on.queue.0.1.0))
    ∙ first-some plan bodies size w (qs ++ bs) some are on.queue.0.1
ended-with plan bodies size None [] e g some are on =
    waits-none plan bodies size e g some are on.within

not-none : (xs : List Segment) → is_empty xs ≡ false → (length xs == 0) ≡ false
not-none xs e = grind arith

-- segments of a queue wait exactly where an entity is queued
pub queue-early : (plan : TurnPlan) (bodies : List (List ℕ)) (size : ℕ) (q : List Waiting) →
    0 < size → AreBodiesFor plan bodies →
    AllByRecursion (λ (w : Waiting). (0 < w.entity) × IsInside plan size w) q →
    nat_lt 0 (length q)
    ≡ not (length (queued size (entities_of (turn_with plan bodies)) q) == 0)
queue-early plan bodies size [] some are on = refl
queue-early plan bodies size (w ∷ q) some are on =
    let entities : List Entity = entities_of (turn_with plan bodies) in
    let first : List Segment = drop w.segment (segments_in size (entity_in entities w.entity)) in
    let qs : List Segment = queued size entities q in
    lt-ltb 0 (suc (length q)) (omega arith)
    ∙ sym (ap not (not-none (first ++ qs)
    (ap (λ (x : Entity). is_empty (drop w.segment (segments_in size x) ++ qs))
    (entities-at plan bodies w.entity (record { kind = 4; tid = 0; bytes = [] }) are on.0.1.0)
    ∙ first-some plan bodies size w qs some are on.0.1)))

-- of a directory's part
early-directory : (early : ℕ) (p : Part) → p.entity ≡ 0 →
    early ≡ (if (if p.entity == 0 then 6 else 4) == 6 then early else early - 1)
early-directory early p e = rw e refl

early-body : (early next : ℕ) (p : Part) (k : ℕ) → p.entity ≡ k → 0 < k → early ≡ suc next →
    next ≡ (if (if p.entity == 0 then 6 else 4) == 6 then early else early - 1)
early-body early next p k e body one = grind arith

early-behind : (size : ℕ) (plan : TurnPlan) (bodies : List (List ℕ)) (w : Waiting)
    (q : List Waiting) (p : Part) (last : Bool) → AreBodiesFor plan bodies →
    w.entity < length plan.bodies + 1 → p.entity ≡ w.entity →
    p.next_segment ≡ (if last then 0 else w.segment + 1) →
    (if last then queued size (entities_of (turn_with plan bodies)) q
    else drop (w.segment + 1) (segments_in size (entity_at plan bodies w.entity))
    ++ queued size (entities_of (turn_with plan bodies)) q)
    ≡ queued size (entities_of (turn_with plan bodies))
    (if last then q else record { entity = p.entity; segment = p.next_segment } ∷ q)
early-behind size plan bodies w q p last are l same next = grind (arith, entities-at)

-- of a queued body's part
early-queued : (plan : TurnPlan) (bodies : List (List ℕ)) (size : ℕ) (w : Waiting)
    (q : List Waiting) (p : Part) → 0 < size → AreBodiesFor plan bodies → 0 < w.entity →
    IsInside plan size w → IsPartAt plan size w p →
    length (queued size (entities_of (turn_with plan bodies))
    (if p.is_last then q else record { entity = p.entity; segment = p.next_segment } ∷ q))
    ≡ (if (if p.entity == 0 then 6 else 4) == 6
    then length (queued size (entities_of (turn_with plan bodies)) (w ∷ q))
    else length (queued size (entities_of (turn_with plan bodies)) (w ∷ q)) - 1)
early-queued plan bodies size w q p some are body inside at =
    let entities : List Entity = entities_of (turn_with plan bodies) in
    let qs : List Segment = queued size entities q in
    let next : List Waiting =
    if p.is_last then q else record { entity = p.entity; segment = p.next_segment } ∷ q in
    let first : Entity = entity_at plan bodies w.entity in
    let behind : List Segment =
    if p.is_last then qs else drop (w.segment + 1) (segments_in size first) ++ qs in
    let whole : queued size entities (w ∷ q) ≡ segment_of plan bodies p ∷ behind =
    ap (λ (x : Entity). drop w.segment (segments_in size x) ++ qs)
    (entities-at plan bodies w.entity (record { kind = 4; tid = 0; bytes = [] }) are inside.0)
    ∙ entity-part plan bodies size w p qs some are inside at in
    let rest : behind ≡ queued size entities next =
    early-behind size plan bodies w q p p.is_last are inside.0 at.entity at.next_segment in
    let one : length (queued size entities (w ∷ q)) ≡ suc (length (queued size entities next)) =
    ap length whole ∙ ap (λ (ss : List Segment). suc (length ss)) rest in
    early-body (length (queued size entities (w ∷ q))) (length (queued size entities next)) p
    w.entity at.entity body one

early-none : (early : ℕ) (b : Bool) → early ≡ 0 → early ≡ (if b then early else early - 1)
early-none early b e = grind arith

early-with : (plan : TurnPlan) (bodies : List (List ℕ)) (size : ℕ) (d : Option ℕ)
    (q : List Waiting) (e g : ℕ) (t : Bool) (p : Part) → (e == length plan.bodies + 1) ≡ t →
    0 < size → AreBodiesFor plan bodies →
    IsOnCourse plan size (record { directory = d; queue = q; entity = e; segment = g }) →
    IsPartAt plan size (due_with (length plan.bodies + 1) d q e g) p →
    length (queued size (entities_of (turn_with plan bodies))
    (passed_with (length plan.bodies + 1) p d q e g).queue)
    ≡ (if (segment_of plan bodies p).kind == 6
    then length (queued size (entities_of (turn_with plan bodies)) q)
    else length (queued size (entities_of (turn_with plan bodies)) q) - 1)
early-with plan bodies size d q e g t p test some are on at =
    grind (arith, early-directory, early-queued, early-none)

-- how many come early behind the part that is due
pub course-early : (plan : TurnPlan) (bodies : List (List ℕ)) (size : ℕ) (c : CourseView)
    (p : Part) → 0 < size → AreBodiesFor plan bodies → IsOnCourse plan size c →
    IsPartAt plan size (due_of (length plan.bodies + 1) c) p →
    length (queued size (entities_of (turn_with plan bodies))
    (passed (length plan.bodies + 1) p c).queue)
    ≡ (if (segment_of plan bodies p).kind == 6
    then length (queued size (entities_of (turn_with plan bodies)) c.queue)
    else length (queued size (entities_of (turn_with plan bodies)) c.queue) - 1)
course-early plan bodies size c p some are on at =
    grind (arith, early-with)

-- nothing waits exactly where the course has ended
pub course-ended : (plan : TurnPlan) (bodies : List (List ℕ)) (size : ℕ) (c : CourseView) →
    0 < size → AreBodiesFor plan bodies → IsOnCourse plan size c →
    is_empty (waiting_of size (turn_with plan bodies) c) ≡ has_ended (length plan.bodies + 1) c
course-ended plan bodies size c some are on =
    ended-with plan bodies size c.directory c.queue c.entity c.segment some are on

-- the course of a whole turn
pub course-whole : (turn : Turn) (size : ℕ) →
    waiting_of size turn whole_course ≡ segments_of_turn turn size
course-whole turn size =
    three (segments_of 6 turn.tid size turn.directory) []
    (segments_from size (entities_of turn) 1 0)
    ∙ ap (λ (ss : List Segment). segments_of 6 turn.tid size turn.directory ++ ss)
    (from-first size (drop 1 (entities_of turn)) ∙ segments-bodies size turn.bodies)

-- what course a turn begins on, and ends on, is within it
pub on-whole : (plan : TurnPlan) (size : ℕ) → IsPlannable plan → IsOnCourse plan size whole_course
on-whole plan size p = record {
  directory = within-first plan size p;
  queue = tt;
  body = omega arith;
  within = first-body plan size p;
}

heard-queue-cases : (c : CourseView) (b : Bool) →
    (if b then c else record c { directory = Some 0 }).queue ≡ c.queue
heard-queue-cases c b = grind arith

-- a directory that is asked for leaves the queue
pub heard-queue : (count : ℕ) (c : CourseView) → (heard_course count c).queue ≡ c.queue
heard-queue count c = heard-queue-cases c (has_ended count c)

-- of a directory's segments none is a body's, and of a body's each
none-of_directory : (tid n s : ℕ) (ps : List (List ℕ)) →
    of_bodies (drop s (numbered_segments 6 tid n ps)) ≡ []
none-of_directory tid n s [] = ap of_bodies (drop-none s)
none-of_directory tid n zero (p ∷ ps) = none-of_directory tid (n + 1) zero ps
none-of_directory tid n (suc s) (p ∷ ps) = none-of_directory tid (n + 1) s ps

each-of_body : (tid n s : ℕ) (ps : List (List ℕ)) →
    of_bodies (drop s (numbered_segments 4 tid n ps)) ≡ drop s (numbered_segments 4 tid n ps)
each-of_body tid n s [] = ap of_bodies (drop-none s) ∙ sym (drop-none s)
each-of_body tid n zero (p ∷ ps) =
    grind (arith, each-of_body tid (n + 1) zero ps)
each-of_body tid n (suc s) (p ∷ ps) = each-of_body tid (n + 1) s ps

each-append : (xs ys : List Segment) → of_bodies xs ≡ xs → of_bodies ys ≡ ys →
    of_bodies (xs ++ ys) ≡ xs ++ ys
each-append xs ys e f = grind (arith, filter-append)

each-bodies : (size : ℕ) (bodies : List (ℕ × List ℕ)) →
    of_bodies (flat_map (segments_in size) (map body_entity bodies))
    ≡ flat_map (segments_in size) (map body_entity bodies)
each-bodies size [] = refl
each-bodies size (b ∷ bodies) =
    each-append (segments_in size (body_entity b))
    (flat_map (segments_in size) (map body_entity bodies))
    (each-of_body b.0 0 0 (pieces size b.1)) (each-bodies size bodies)

each-from : (size k s : ℕ) (bodies : List (ℕ × List ℕ)) →
    of_bodies (segments_from size (map body_entity bodies) k s)
    ≡ segments_from size (map body_entity bodies) k s
each-from size k s [] = refl
each-from size zero s (b ∷ bodies) =
    each-append (drop s (segments_in size (body_entity b)))
    (flat_map (segments_in size) (map body_entity bodies))
    (each-of_body b.0 0 s (pieces size b.1)) (each-bodies size bodies)
each-from size (suc k) s (b ∷ bodies) = each-from size k s bodies

each-behind : (size k s : ℕ) (turn : Turn) → 0 < k →
    of_bodies (segments_from size (entities_of turn) k s) ≡ segments_from size (entities_of turn) k
    s
each-behind size zero s turn l = absurd (omega (arith, l))
each-behind size (suc k) s turn l = each-from size k s turn.bodies

each-of_kind : (kind tid size s : ℕ) (bytes : List ℕ) → kind ≡ 4 →
    of_bodies (drop s (segments_of kind tid size bytes)) ≡ drop s (segments_of kind tid size bytes)
each-of_kind kind tid size s bytes e = grind (arith, each-of_body)

each-of_entity : (plan : TurnPlan) (bodies : List (List ℕ)) (size s k : ℕ) → 0 < k →
    of_bodies (drop s (segments_in size (entity_at plan bodies k)))
    ≡ drop s (segments_in size (entity_at plan bodies k))
each-of_entity plan bodies size s k l =
    grind (arith, each-of_kind, ne_eqb)

each-queued : (plan : TurnPlan) (bodies : List (List ℕ)) (size : ℕ) (q : List Waiting) →
    AreBodiesFor plan bodies →
    AllByRecursion (λ (w : Waiting). (0 < w.entity) × IsInside plan size w) q →
    of_bodies (queued size (entities_of (turn_with plan bodies)) q)
    ≡ queued size (entities_of (turn_with plan bodies)) q
each-queued plan bodies size [] are on = refl
each-queued plan bodies size (w ∷ q) are on =
    let entities : List Entity = entities_of (turn_with plan bodies) in
    let same : entity_in entities w.entity ≡ entity_at plan bodies w.entity =
    entities-at plan bodies w.entity (record { kind = 4; tid = 0; bytes = [] }) are on.0.1.0 in
    each-append (drop w.segment (segments_in size (entity_in entities w.entity)))
    (queued size entities q)
    (subst (λ (x : Entity). of_bodies (drop w.segment (segments_in size x))
    ≡ drop w.segment (segments_in size x)) (sym same)
    (each-of_entity plan bodies size w.segment w.entity on.0.0))
    (each-queued plan bodies size q are on.1)

none-from : (size : ℕ) (turn : Turn) (d : Option ℕ) → of_bodies (directory_from size turn d) ≡ []
none-from size turn None = refl
none-from size turn (Some s) = none-of_directory turn.tid 0 s (pieces size turn.directory)

-- the bodies' segments that wait
pub bodies-waiting : (plan : TurnPlan) (bodies : List (List ℕ)) (size : ℕ) (c : CourseView) →
    AreBodiesFor plan bodies → IsOnCourse plan size c →
    of_bodies (waiting_of size (turn_with plan bodies) c)
    ≡ queued size (entities_of (turn_with plan bodies)) c.queue
    ++ segments_from size (entities_of (turn_with plan bodies)) c.entity c.segment
bodies-waiting plan bodies size c are on =
    let turn : Turn = turn_with plan bodies in
    let ds : List Segment = directory_from size turn c.directory in
    let qs : List Segment = queued size (entities_of turn) c.queue in
    let bs : List Segment = segments_from size (entities_of turn) c.entity c.segment in
    ap of_bodies (three ds qs bs)
    ∙ filter-append (λ (s : Segment). s.kind == 4) ds (qs ++ bs)
    ∙ ap (λ (ss : List Segment). ss ++ of_bodies (qs ++ bs)) (none-from size turn c.directory)
    ∙ each-append qs bs (each-queued plan bodies size c.queue are on.queue)
    (each-behind size c.entity c.segment turn on.body)

empty-is : (xs : List Segment) → is_empty xs ≡ true → xs ≡ []
empty-is xs e = grind arith

course-heard-cases : (plan : TurnPlan) (bodies : List (List ℕ)) (size : ℕ) (c : CourseView)
    (b : Bool) → AreBodiesFor plan bodies → IsOnCourse plan size c →
    is_empty (waiting_of size (turn_with plan bodies) c) ≡ b →
    waiting_of size (turn_with plan bodies) (if b then c else record c { directory = Some 0 })
    ≡ (if is_empty (waiting_of size (turn_with plan bodies) c) then []
    else directory_segments (turn_with plan bodies) size
    ++ of_bodies (waiting_of size (turn_with plan bodies) c))
course-heard-cases plan bodies size c true are on e =
    let w : List Segment = waiting_of size (turn_with plan bodies) c in
    empty-is w e
    ∙ ap (λ (t : Bool). if t then []
    else directory_segments (turn_with plan bodies) size ++ of_bodies w) (sym e)
course-heard-cases plan bodies size c false are on e =
    let turn : Turn = turn_with plan bodies in
    let w : List Segment = waiting_of size turn c in
    let ds : List Segment = directory_segments turn size in
    let qs : List Segment = queued size (entities_of turn) c.queue in
    let bs : List Segment = segments_from size (entities_of turn) c.entity c.segment in
    three ds qs bs
    ∙ ap (λ (ss : List Segment). ds ++ ss) (sym (bodies-waiting plan bodies size c are on))
    ∙ ap (λ (t : Bool). if t then [] else ds ++ of_bodies w) (sym e)

-- a directory that is asked for, on a course
pub course-heard : (plan : TurnPlan) (bodies : List (List ℕ)) (size : ℕ) (c : CourseView) →
    0 < size → AreBodiesFor plan bodies → IsOnCourse plan size c →
    waiting_of size (turn_with plan bodies) (heard_course (length plan.bodies + 1) c)
    ≡ (if is_empty (waiting_of size (turn_with plan bodies) c) then []
    else directory_segments (turn_with plan bodies) size
    ++ of_bodies (waiting_of size (turn_with plan bodies) c))
course-heard plan bodies size c some are on =
    grind (arith, course-heard-cases, course-ended)
