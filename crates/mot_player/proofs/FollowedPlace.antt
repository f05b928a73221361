-- A place from which a changed turn is followed, and the course that the code takes of it.
use Rattle.std.proofs.Common.{◌≡◌, ℕ, ◌+◌, ◌<◌, ◌≤◌, Bool, true, false, List, [], ◌∷◌, ◌++◌, length}
use Rattle.std.proofs.Common.{refl, sym, ap, ◌∙◌, arith, subst, Option, Some, None, drop, map, take}
use Rattle.std.proofs.Math.Seq.{take-append_seam, drop-append_seam}
use Rattle.std.proofs.lemmas.Bool.{lt-ltb}
use Rattle.std.proofs.lemmas.List.{append_assoc, length-map}
use Rattle.std.specs.List.{AllByRecursion}
use Rattle.std.specs.Prelude.{if◌then◌else◌, nat_lt, unwrap_or}
use Rattle.mot_groups.specs.Group.{Segment}
use Rattle.mot_player.specs.Course.{CourseView, Entity, entities_of, queued, segments_from}
use Rattle.mot_player.specs.Course.{waiting_of}
use Rattle.mot_player.specs.Inner.Course.{followed, fresh_of, has_ended, has_ended_with, is_queued}
use Rattle.mot_player.specs.Inner.Course.{kept_of, left_course, one_more, whole_course}
use Rattle.mot_player.specs.Inner.Difference.{difference_from, difference_in}
use Rattle.mot_player.specs.PlayerView.{AreBodiesFor, BodyPlan, PlayerView, TurnPlan, place_of}
use Rattle.mot_player.specs.PlayerView.{turn_with, with_bodies}
use Rattle.mot_player.specs.Turn.{IsFollowable, Turn}
use Rattle.mot_player.specs.Inner.Entities.{IsInside, IsOnCourse, IsPlannable, IsWithinTurn}
use Rattle.mot_player.specs.Place.{Change, Place, UnderWay, bodies_not_begun, change_between}
use Rattle.mot_player.specs.Place.{directory_segments, goes_early, early_after, early_of, follow}
use Rattle.mot_player.specs.Place.{fresh_segments, left_of, left_with, of_bodies, rest_after}
use Rattle.mot_player.specs.Place.{rest_of, that_stay}
use Rattle.mot_player.specs.declared.course.Waiting.{Waiting}
use Rattle.mot_player.specs.declared.difference.Difference.{Difference}
use Rattle.mot_player.proofs.Followed.{renewed}
use Rattle.mot_player.proofs.FollowedCourse.{GoesOn, IsOfBody}
use Rattle.mot_player.proofs.FollowedTurn.{AreSome, IsFound, found-one, plans}
use Rattle.mot_player.proofs.Moved.{kept-on}
use Rattle.mot_player.proofs.NextSegment.{first-at-end, waits-none}
use Rattle.mot_player.proofs.NotBegun.{queued-not_begun}
use Rattle.mot_player.proofs.Passing.{bodies-waiting, course-ended, course-whole, on-whole}
use Rattle.mot_player.proofs.Segments.{body_entity, length-with_bodies}

-- what a turn plans of its bodies
pub plans-are : (ps : List BodyPlan) (bodies : List (List ℕ)) →
    map length bodies ≡ map (λ (b : BodyPlan). b.length) ps → plans (with_bodies ps bodies) ≡ ps
plans-are [] [] e = refl
plans-are [] (x ∷ bodies) e = absurd (omega (arith, ap length e))
plans-are (p ∷ ps) [] e = absurd (omega (arith, ap length e))
plans-are (p ∷ ps) (x ∷ bodies) e =
    grind (arith, plans-are ps bodies (ap (drop 1) e))

some-bodies : (ps : List BodyPlan) (bodies : List (List ℕ)) →
    map length bodies ≡ map (λ (b : BodyPlan). b.length) ps →
    AllByRecursion (λ (b : BodyPlan). (1 ≤ b.length) × (b.length ≤ 262144)) ps →
    AreSome (with_bodies ps bodies)
some-bodies [] [] e all = tt
some-bodies [] (x ∷ bodies) e all = tt
some-bodies (p ∷ ps) [] e all = tt
some-bodies (p ∷ ps) (x ∷ bodies) e all =
    grind (arith, some-bodies ps bodies (ap (drop 1) e) all.1)

count-bodies : (ps : List BodyPlan) (bodies : List (List ℕ)) →
    map length bodies ≡ map (λ (b : BodyPlan). b.length) ps →
    length (with_bodies ps bodies) ≡ length ps
count-bodies ps bodies e =
    sym (length-map (with_bodies ps bodies) body_entity) ∙ length-with_bodies ps bodies e

-- what is queued are segments of bodies
queued-bodies : (plan : TurnPlan) (size : ℕ) (q : List Waiting) →
    AllByRecursion (λ (w : Waiting). (0 < w.entity) × IsInside plan size w) q →
    AllByRecursion (IsOfBody (length plan.bodies + 1)) q
queued-bodies plan size [] all = tt
queued-bodies plan size (w ∷ q) all =
    ((all.0.0, all.0.1.0), queued-bodies plan size q all.1)

queued-append : (size : ℕ) (es : List Entity) (xs ys : List Waiting) →
    queued size es (xs ++ ys) ≡ queued size es xs ++ queued size es ys
queued-append size es [] ys = refl
queued-append size es (x ∷ xs) ys =
    grind (arith, queued-append size es xs ys, append_assoc)

queued-if : (size : ℕ) (es : List Entity) (q : List Waiting) (ss : List Segment) (b : Bool) →
    queued size es q ≡ ss → queued size es (if b then q else []) ≡ (if b then ss else [])
queued-if size es q ss b e = grind arith

-- What is left of a turn that goes on by this course, where so much is under way.
pub record IsLeft (s : PlayerView) (bodies : List (List ℕ)) (under : Option UnderWay)
    (c : CourseView) : Type 0 where
  pub on : IsOnCourse s.turn s.segment_size c
  pub left : left_with (place_of s bodies) under
      ≡ waiting_of s.segment_size (turn_with s.turn bodies) c
  pub early : (place_of s bodies).early
      ≡ length (queued s.segment_size (entities_of (turn_with s.turn bodies)) c.queue)

none-queued : (count : ℕ) (d : Option ℕ) (q : List Waiting) (e : ℕ) →
    has_ended_with count d q e ≡ true → q ≡ []
none-queued count d q e h = grind arith

left-cases : (s : PlayerView) (bodies : List (List ℕ)) (idle ended : Bool) (u : UnderWay) →
    0 < s.segment_size → AreBodiesFor s.turn bodies → IsPlannable s.turn →
    IsOnCourse s.turn s.segment_size s.course →
    has_ended (length s.turn.bodies + 1) s.course ≡ ended →
    IsLeft s bodies (if idle then None else Some u)
    (if idle then if ended then whole_course else s.course else s.course)
left-cases s bodies false ended u some are plannable on h =
    record { on = on; left = refl; early = refl }
left-cases s bodies true false u some are plannable on h = record {
  on = on;
  left = rw (course-ended s.turn bodies s.segment_size s.course some are on ∙ h) refl;
  early = refl;
}
left-cases s bodies true true u some are plannable on h =
    let turn : Turn = turn_with s.turn bodies in
    record {
      on = on-whole s.turn s.segment_size plannable;
      left = rw (course-ended s.turn bodies s.segment_size s.course some are on ∙ h)
          (sym (course-whole turn s.segment_size));
      early = ap (λ (q : List Waiting). length (queued s.segment_size (entities_of turn) q))
          (none-queued (length s.turn.bodies + 1) s.course.directory s.course.queue s.course.entity
          h);
    }

-- where no group is under way, and nothing waits, the turn is left
pub left-place : (s : PlayerView) (bodies : List (List ℕ)) (idle : Bool) (u : UnderWay) →
    0 < s.segment_size → AreBodiesFor s.turn bodies → IsPlannable s.turn →
    IsOnCourse s.turn s.segment_size s.course →
    IsLeft s bodies (if idle then None else Some u)
    (left_course idle (length s.turn.bodies + 1) s.course)
left-place s bodies idle u some are plannable on =
    left-cases s bodies idle (has_ended (length s.turn.bodies + 1) s.course) u some are plannable on
    refl

-- What a course makes of a turn that is followed, by the difference that the code finds.
pub record IsFollowedOn (s : PlayerView) (new : TurnPlan) (bodies next : List (List ℕ))
    (c : CourseView) : Type 0 where
  pub difference : Difference
  pub found : difference_from 1 s.turn.bodies new.bodies ≡ Some difference
  pub waiting : waiting_of s.segment_size (turn_with new next)
      (followed difference (unwrap_or s.follows 0) (length s.turn.bodies + 1) c)
      ≡ (follow (turn_with new next) (place_of s bodies)).waiting
  pub early : length (queued s.segment_size (entities_of (turn_with new next))
      (followed difference (unwrap_or s.follows 0) (length s.turn.bodies + 1) c).queue)
      ≡ (follow (turn_with new next) (place_of s bodies)).early

within-count : (plan : TurnPlan) (size e s : ℕ) → IsWithinTurn plan size e s →
    e ≤ length plan.bodies + 1
within-count plan size e s h4 = grind arith

pub followed-on : (s : PlayerView) (new : TurnPlan) (bodies next : List (List ℕ))
    (c : CourseView) → 0 < s.segment_size → AreBodiesFor s.turn bodies → AreBodiesFor new next →
    IsPlannable s.turn → IsPlannable new → IsLeft s bodies s.under_way c →
    IsFollowable (turn_with s.turn bodies) (turn_with new next) →
    IsFollowedOn s new bodies next c
unfolding follow
followed-on s new bodies next c some are next_are plannable new_plannable is followable =
    let size : ℕ = s.segment_size in
    let old_turn : Turn = turn_with s.turn bodies in
    let turn : Turn = turn_with new next in
    let place : Place = place_of s bodies in
    let change : Change = change_between old_turn.bodies turn.bodies in
    let fresh : List Segment = fresh_segments size change in
    let one : IsFound size (record { kind = 6; tid = s.turn.tid; bytes = s.turn.directory })
    (record { kind = 6; tid = new.tid; bytes = new.directory }) old_turn.bodies turn.bodies =
    found-one size (record { kind = 6; tid = s.turn.tid; bytes = s.turn.directory })
    (record { kind = 6; tid = new.tid; bytes = new.directory }) old_turn.bodies turn.bodies some
    followable.distinct (some-bodies s.turn.bodies bodies are plannable.bodies)
    followable.change in
    let n : ℕ = length s.turn.bodies + 1 in
    let most : ℕ = unwrap_or s.follows 0 in
    let d : Difference = one.difference in
    let goes_on : GoesOn size (record { kind = 6; tid = s.turn.tid; bytes = s.turn.directory })
    (record { kind = 6; tid = new.tid; bytes = new.directory }) old_turn.bodies turn.bodies n d
    change =
    subst (λ (k : ℕ). GoesOn size (record {
      kind = 6;
      tid = s.turn.tid;
      bytes = s.turn.directory;
    }) (record { kind = 6; tid = new.tid; bytes = new.directory }) old_turn.bodies turn.bodies
    (k + 1) d change) (count-bodies s.turn.bodies bodies are) one.goes_on in
    let soon : List Segment = queued size (entities_of old_turn) c.queue in
    let rest : List Segment = segments_from size (entities_of old_turn) c.entity c.segment in
    let left : of_bodies (left_of place) ≡ soon ++ rest =
    ap of_bodies is.left ∙ bodies-waiting s.turn bodies size c are is.on in
    let early_is : early_of place ≡ soon =
    ap (λ (k : ℕ). take k (of_bodies (left_of place))) is.early ∙ ap (take (length soon)) left
    ∙ take-append_seam soon rest in
    let rest_is : rest_of place ≡ rest =
    ap (λ (k : ℕ). drop k (of_bodies (left_of place))) is.early ∙ ap (drop (length soon)) left
    ∙ drop-append_seam soon rest in
    let found : difference_from 1 s.turn.bodies new.bodies ≡ Some d =
    ap (λ (bs : List BodyPlan). difference_from 1 bs new.bodies)
    (sym (plans-are s.turn.bodies bodies are))
    ∙ ap (difference_from 1 (plans old_turn.bodies))
    (sym (plans-are new.bodies next next_are)) ∙ one.found in
    let stays : queued size (entities_of turn) (kept_of d c.queue)
    ≡ that_stay change (early_of place) =
    goes_on.queue c.queue (queued-bodies s.turn size c.queue is.on.queue)
    ∙ ap (that_stay change) (sym early_is) in
    let early : Bool = is_queued d most c.queue in
    let goes : early ≡ goes_early change place =
    ap (λ (k : ℕ). nat_lt k most)
    (sym (queued-not_begun new next size (kept_of d c.queue) some next_are
    (kept-on s.turn new size new_plannable d c.queue found is.on.queue))
    ∙ ap bodies_not_begun stays) in
    let queue : queued size (entities_of turn) (followed d most n c).queue
    ≡ early_after change place =
    queued-append size (entities_of turn) (kept_of d c.queue)
    (if early then one_more (fresh_of d n) [] else [])
    ∙ ap (λ (ss : List Segment). ss
    ++ queued size (entities_of turn) (if early then one_more (fresh_of d n) [] else [])) stays
    ∙ ap (λ (ss : List Segment). that_stay change (early_of place) ++ ss)
    (queued-if size (entities_of turn) (one_more (fresh_of d n) []) fresh early goes_on.fresh)
    ∙ ap (λ (b : Bool). that_stay change (early_of place) ++ (if b then fresh else [])) goes in
    let behind : segments_from size (entities_of turn) (followed d most n c).entity
    (followed d most n c).segment ≡ renewed change place =
    goes_on.rest early c.entity c.segment is.on.body
    (within-count s.turn size c.entity c.segment is.on.within)
    (first-at-end s.turn size c.entity c.segment is.on.within)
    (waits-none s.turn bodies size c.entity c.segment some are is.on.within)
    ∙ ap (rest_after change early fresh) (sym rest_is)
    ∙ ap (λ (b : Bool). rest_after change b fresh (rest_of place)) goes in
    record {
      difference = d;
      found = found;
      waiting = ap (λ (ss : List Segment). directory_segments turn size ++ ss
          ++ segments_from size (entities_of turn) (followed d most n c).entity
          (followed d most n c).segment)
          queue
          ∙ ap (λ (ss : List Segment). directory_segments turn size ++ early_after change place
          ++ ss) behind;
      early = ap length queue;
    }

-- a player that follows, and has room, finds the difference
pub difference-found : (follows : Bool) (room : ℕ) (c : CourseView) (olds news : List BodyPlan) →
    follows ≡ true → length c.queue < room →
    difference_in follows room c olds news ≡ difference_from 1 olds news
difference-found follows room c olds news e l = rw (e, lt-ltb (length c.queue) room l) refl
