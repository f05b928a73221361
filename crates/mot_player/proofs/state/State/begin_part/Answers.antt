use Rattle.std.proofs.Common.{◌≡◌, ℕ, ◌+◌, ◌<◌, ◌≤◌, List, length, take, drop, length-take-le, ap}
use Rattle.std.proofs.Common.{◌∙◌, sym, subst, arith, refl, vec_len, Some, Vec, Global, rules}
use Rattle.std.proofs.Math.Nat.{le_trans}
use Rattle.mot_groups.specs.Group.{GroupFields, bytes_of_group, group_of, segment_content}
use Rattle.mot_numbers.specs.declared.numbers.TheConstants.{MAX_SEGMENT}
use Rattle.mot_player.specs.Course.{course_of, waiting_of}
use Rattle.mot_player.specs.Inner.Course.{passed}
use Rattle.mot_player.specs.Inner.Next.{IsNext, TakesEarly, segment_of}
use Rattle.mot_player.specs.Inner.Entities.{IsOnCourse, entity_bytes, entity_tid}
use Rattle.mot_player.specs.Inner.Ready.{IsFitted, HasBegun, HasTaken}
use Rattle.mot_player.specs.PlayerView.{kept_last, AreBodiesFor, turn_with}
use Rattle.mot_player.specs.Place.{next_index}
use Rattle.mot_player.specs.declared.course.Course.{Course}
use Rattle.mot_player.specs.declared.groups.LastGroup.{LastGroup}
use Rattle.mot_player.specs.declared.part.Part.{Part}
use Rattle.mot_player.specs.declared.state.State.{State}
use Rattle.mot_player.proofs.Nearer.{taken}
use Rattle.mot_player.proofs.state.State.begin_part.Goals as goal
use Rattle.mot_player.proofs.state.State.begin_part.Goals.{then-part-eq0, else-part-eq0}

-- so many bytes stand at the front of the buffer
front-long : (n size room : ℕ) (xs : List ℕ) → n ≤ size → room ≡ size → length xs ≡ room
    → length (take n xs) ≡ n
front-long n size room xs few same long = length-take-le n xs (omega (arith, few, same, long))

-- and there is room for their group
has-room : (n k size room : ℕ) → k ≡ n → n ≤ size → size + 11 ≤ room → k + 11 ≤ room
has-room n k size room is few has = omega (arith, is, few, has)

has-place : (n k size room : ℕ) → k ≡ n → n ≤ size → size ≤ room → k ≤ room
has-place n k size room is few has = omega (arith, is, few, has)

sized : (n k size : ℕ) → k ≡ n → 0 < n → n ≤ size → size ≤ MAX_SEGMENT
    → (0 < k) × (k ≤ MAX_SEGMENT)
sized n k size is some few most = (omega (arith, is, some), omega (arith, is, few, most))

some-of : (n k : ℕ) → n ≡ k + 11 → 0 < n
some-of n k is = omega (arith, is)

-- a group of this type was written, and kept as the last one
abbrev IsWritten : LastGroup → Vec ℕ Global → LastGroup → GroupFields → Type 0
IsWritten before group last g =
    let content = segment_content g.segment in
    let index = next_index (kept_last before) content in
    (group.items ≡ bytes_of_group (record g { index = index }))
    × (kept_last last ≡ Some (record { index = index; content = content }))

module _ (old : State) (part : Part) (course : Course) (group : Vec ℕ Global)
    (last : LastGroup) (n tid : ℕ) (xs : List ℕ) (bodies : List (List ℕ)) (none : old.sent ≡ 0)
    (tid_is : tid ≡ entity_tid old.turn part.entity)
    (next : IsNext old.turn old.segment_size (course_of old.course) part)
    (early : TakesEarly old.turn old.segment_size (course_of old.course) part)
    (are : AreBodiesFor old.turn bodies)
    (course_is : course_of course ≡ passed n part (course_of old.course))
    (n_is : n ≡ length old.turn.bodies + 1) where
  begun-directory : part.entity ≡ 0
      → xs ≡ take part.len (drop part.from (entity_bytes old.turn bodies part.entity))
      → IsWritten old.last_directory group last (group_of 0 6 tid part.number part.is_last xs)
      → HasBegun old (record old { course = course; group = group; last_directory = last }) bodies
  begun-directory zero x g = record {
    segment = segment_of old.turn bodies part;
    others = waiting_of old.segment_size (turn_with old.turn bodies)
        (passed (length old.turn.bodies + 1) part (course_of old.course));
    next = next bodies are;
    group = search rules;
    place = search rules;
  }

  begun-body : (part.entity ≡ 0 → ⊥)
      → xs ≡ take part.len (drop part.from (entity_bytes old.turn bodies part.entity))
      → IsWritten old.last_body group last (group_of 0 4 tid part.number part.is_last xs)
      → HasBegun old (record old { course = course; group = group; last_body = last }) bodies
  begun-body some x g = record {
    segment = segment_of old.turn bodies part;
    others = waiting_of old.segment_size (turn_with old.turn bodies)
        (passed (length old.turn.bodies + 1) part (course_of old.course));
    next = next bodies are;
    group = search rules;
    place = search rules;
  }

pub returns-clause-begun : goal.returns-clause-begun
returns-clause-begun c = λ bodies are e.
    let old : State = c.args.self.now in
    let part : Part = c.args.part in
    let n : ℕ = c.entity_count.result in
    let xs : List ℕ = take part.len c.as_slice.result.now in
    let x = ap (take part.len) c.as_slice.ensures.value ∙ e in
    let P : State → Type 0 = λ s. course_of c.pass.new.self ≡ passed n part (course_of s.course)
    → n ≡ length s.turn.bodies + 1 → HasBegun old (record s { course = c.pass.new.self }) bodies in
    elim c.if-part-eq0.branch [
      | then-part-eq0 w ↦ (
          let new = w.begin_group.new in
          let is = w.begin_group.ensures in
          subst P (sym w.self-is) (λ course count. begun-directory old part c.pass.new.self
          new.group new.self n c.entity_tid-tid.result xs bodies c.requires.sent
          c.entity_tid-tid.ensures c.requires.next c.requires.early are course count w.if-part-eq0.true x
          (is.written, is.last)) c.pass.ensures.course c.entity_count.ensures.count)
      | else-part-eq0 w ↦ (
          let new = w.begin_group-else-part-eq0.new in
          let is = w.begin_group-else-part-eq0.ensures in
          subst P (sym w.self-is) (λ course count. begun-body old part c.pass.new.self new.group
          new.self n c.entity_tid-tid.result xs bodies c.requires.sent c.entity_tid-tid.ensures
          c.requires.next c.requires.early are course count w.if-part-eq0.false x
          (is.written, is.last)) c.pass.ensures.course c.entity_count.ensures.count)
    ]

pub returns-clause-taken : goal.returns-clause-taken
returns-clause-taken c = λ bodies are.
    let old : State = c.args.self.now in
    let part : Part = c.args.part in
    let n : ℕ = c.entity_count.result in
    let course_is : (s : State) → c.entity_count.result ≡ length s.turn.bodies + 1
    → course_of c.pass.new.self ≡ passed n part (course_of s.course)
    → course_of c.pass.new.self ≡ passed (length s.turn.bodies + 1) part (course_of s.course) =
    λ s count course. course ∙ ap (λ (k : ℕ). passed k part (course_of s.course)) count in
    let long = front-long part.len old.segment_size (vec_len old.buffer) c.as_slice.result.now
    c.requires.len.1 c.requires.fitted.buffer c.as_slice.ensures.len in
    let P : State → Type 0 = λ s. course_of c.pass.new.self ≡ passed n part (course_of s.course)
    → n ≡ length s.turn.bodies + 1 → HasTaken old (record s { course = c.pass.new.self }) bodies in
    elim c.if-part-eq0.branch [
      | then-part-eq0 w ↦ (
          let new = w.begin_group.new in
          subst P (sym w.self-is) (λ course count. taken old
          (record old { course = c.pass.new.self; group = new.group; last_directory = new.self })
          bodies part are c.requires.next c.requires.entity c.requires.range refl refl
          (course_is old count course) (w.begin_group.ensures.len ∙ ap (λ (k : ℕ). k + 11)
          long)) c.pass.ensures.course c.entity_count.ensures.count)
      | else-part-eq0 w ↦ (
          let new = w.begin_group-else-part-eq0.new in
          subst P (sym w.self-is) (λ course count. taken old
          (record old { course = c.pass.new.self; group = new.group; last_body = new.self })
          bodies part are c.requires.next c.requires.entity c.requires.range refl refl
          (course_is old count course) (w.begin_group-else-part-eq0.ensures.len
          ∙ ap (λ (k : ℕ). k + 11) long)) c.pass.ensures.course
          c.entity_count.ensures.count)
    ]

pub returns-clause-fitted : goal.returns-clause-fitted
returns-clause-fitted c =
    let old : State = c.args.self.now in
    let part : Part = c.args.part in
    let n : ℕ = c.entity_count.result in
    let size : ℕ = old.segment_size in
    let is : IsFitted old = c.requires.fitted in
    let new : Course = c.pass.new.self in
    let on : course_of new ≡ passed n part (course_of old.course)
    → n ≡ length old.turn.bodies + 1 → IsOnCourse old.turn size (course_of new) =
    λ course count. subst (IsOnCourse old.turn size) (sym (course
    ∙ ap (λ (k : ℕ). passed k part (course_of old.course)) count)) c.requires.on_course in
    let P : State → Type 0 = λ s. course_of new ≡ passed n part (course_of s.course)
    → n ≡ length s.turn.bodies + 1 → IsFitted (record s { course = new }) in
    elim c.if-part-eq0.branch [
      | then-part-eq0 w ↦ (subst P (sym w.self-is) (λ course count. record {
        index = is.index;
        on_course = on course count;
        plannable = is.plannable;
        size = is.size;
        group = le_trans is.group w.begin_group.ensures.capacity;
        directory = le_trans is.directory w.begin_group.ensures.last_capacity;
        body = is.body;
        buffer = is.buffer;
      }) c.pass.ensures.course c.entity_count.ensures.count)
      | else-part-eq0 w ↦ (subst P (sym w.self-is) (λ course count. record {
        index = is.index;
        on_course = on course count;
        plannable = is.plannable;
        size = is.size;
        group = le_trans is.group w.begin_group-else-part-eq0.ensures.capacity;
        directory = is.directory;
        body = le_trans is.body w.begin_group-else-part-eq0.ensures.last_capacity;
        buffer = is.buffer;
      }) c.pass.ensures.course c.entity_count.ensures.count)
    ]

pub begin_group-requires-clause-room : goal.begin_group-requires-clause-room
begin_group-requires-clause-room c =
    let size : ℕ = c.args.self.now.segment_size in
    has-room c.args.part.len _ size _ (front-long c.args.part.len size _ c.as_slice.result.now
    c.requires.len.1 c.requires.fitted.buffer c.as_slice.ensures.len) c.requires.len.1
    c.requires.fitted.group

pub begin_group-requires-clause-last : goal.begin_group-requires-clause-last
begin_group-requires-clause-last c =
    let size : ℕ = c.args.self.now.segment_size in
    has-place c.args.part.len _ size _ (front-long c.args.part.len size _ c.as_slice.result.now
    c.requires.len.1 c.requires.fitted.buffer c.as_slice.ensures.len) c.requires.len.1
    c.requires.fitted.directory

pub begin_group-requires-clause-segment : goal.begin_group-requires-clause-segment
begin_group-requires-clause-segment c =
    let size : ℕ = c.args.self.now.segment_size in
    sized c.args.part.len _ size (front-long c.args.part.len size _ c.as_slice.result.now
    c.requires.len.1 c.requires.fitted.buffer c.as_slice.ensures.len) c.requires.len.0
    c.requires.len.1 c.requires.fitted.size.1

pub begin_group-requires-else-part-eq0-clause-room :
    goal.begin_group-requires-else-part-eq0-clause-room
begin_group-requires-else-part-eq0-clause-room c =
    let size : ℕ = c.args.self.now.segment_size in
    has-room c.args.part.len _ size _ (front-long c.args.part.len size _ c.as_slice.result.now
    c.requires.len.1 c.requires.fitted.buffer c.as_slice.ensures.len) c.requires.len.1
    c.requires.fitted.group

pub begin_group-requires-else-part-eq0-clause-last :
    goal.begin_group-requires-else-part-eq0-clause-last
begin_group-requires-else-part-eq0-clause-last c =
    let size : ℕ = c.args.self.now.segment_size in
    has-place c.args.part.len _ size _ (front-long c.args.part.len size _ c.as_slice.result.now
    c.requires.len.1 c.requires.fitted.buffer c.as_slice.ensures.len) c.requires.len.1
    c.requires.fitted.body

pub begin_group-requires-else-part-eq0-clause-segment :
    goal.begin_group-requires-else-part-eq0-clause-segment
begin_group-requires-else-part-eq0-clause-segment c =
    let size : ℕ = c.args.self.now.segment_size in
    sized c.args.part.len _ size (front-long c.args.part.len size _ c.as_slice.result.now
    c.requires.len.1 c.requires.fitted.buffer c.as_slice.ensures.len) c.requires.len.0
    c.requires.len.1 c.requires.fitted.size.1

pub slice_bounds-bytes-end : goal.slice_bounds-bytes-end
slice_bounds-bytes-end c =
    sym (front-long c.args.part.len c.args.self.now.segment_size _ c.as_slice.result.now
    c.requires.len.1 c.requires.fitted.buffer c.as_slice.ensures.len)

pub returns-clause-sent : goal.returns-clause-sent
returns-clause-sent c =
    elim c.if-part-eq0.branch [
      | then-part-eq0 w ↦ ap (λ (s : State). s.sent) w.self-is ∙ c.requires.sent
      | else-part-eq0 w ↦ ap (λ (s : State). s.sent) w.self-is ∙ c.requires.sent
    ]

pub returns-clause-some : goal.returns-clause-some
returns-clause-some c =
    elim c.if-part-eq0.branch [
      | then-part-eq0 w ↦ some-of _ _ (ap (λ (s : State). vec_len s.group) w.self-is
          ∙ w.begin_group.ensures.len)
      | else-part-eq0 w ↦ some-of _ _ (ap (λ (s : State). vec_len s.group) w.self-is
          ∙ w.begin_group-else-part-eq0.ensures.len)
    ]

pub returns-clause-turn : goal.returns-clause-turn
returns-clause-turn c =
    elim c.if-part-eq0.branch [
      | then-part-eq0 w ↦ ap (λ (s : State). s.turn) w.self-is
      | else-part-eq0 w ↦ ap (λ (s : State). s.turn) w.self-is
    ]

pub returns-clause-size : goal.returns-clause-size
returns-clause-size c =
    elim c.if-part-eq0.branch [
      | then-part-eq0 w ↦ ap (λ (s : State). s.segment_size) w.self-is
      | else-part-eq0 w ↦ ap (λ (s : State). s.segment_size) w.self-is
    ]
