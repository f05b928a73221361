-- The course of a turn: what is due, and what it becomes.
use Rattle.std.specs.Prelude.{ℕ, ◌+◌, ◌-◌, Bool, false, ◌&&◌, ◌==◌, nat_lt, if◌then◌else◌}
use Rattle.std.specs.Prelude.{List, [], ◌∷◌, ◌++◌, Option, Some, None}
use Rattle.mot_player.specs.Course.{CourseView}
use Rattle.mot_player.specs.declared.course.Waiting.{Waiting}
use Rattle.mot_player.specs.declared.difference.Difference.{Difference}
use Rattle.mot_player.specs.declared.difference.Difference.TheVariants.{Nothing, Added, Changed}
use Rattle.mot_player.specs.declared.difference.Difference.TheVariants.{Removed}
use Rattle.mot_player.specs.declared.part.Part.{Part}

-- nothing waits of a turn of so many entities
abbrev pub ended_course : ℕ → CourseView
ended_course count = record { directory = None; queue = []; entity = count; segment = 0 }

-- the whole turn waits
abbrev pub whole_course : CourseView
whole_course = record { directory = Some 0; queue = []; entity = 1; segment = 0 }

abbrev pub has_ended_with : ℕ → Option ℕ → List Waiting → ℕ → Bool
has_ended_with count (Some s) queue entity = false
has_ended_with count None (w ∷ queue) entity = false
has_ended_with count None [] entity = entity == count

abbrev pub has_ended : ℕ → CourseView → Bool
has_ended count c = has_ended_with count c.directory c.queue c.entity

abbrev pub heard_course : ℕ → CourseView → CourseView
heard_course count c = if has_ended count c then c else record c { directory = Some 0 }

-- the segment that is due
abbrev pub due_with : ℕ → Option ℕ → List Waiting → ℕ → ℕ → Waiting
due_with count (Some s) queue entity segment = record { entity = 0; segment = s }
due_with count None (w ∷ queue) entity segment = w
due_with count None [] entity segment =
    if entity == count then record { entity = 0; segment = 0 }
    else record { entity = entity; segment = segment }

abbrev pub due_of : ℕ → CourseView → Waiting
due_of count c = due_with count c.directory c.queue c.entity c.segment

-- the course behind the part that was due
abbrev pub passed_with : ℕ → Part → Option ℕ → List Waiting → ℕ → ℕ → CourseView
passed_with count p (Some s) queue entity segment = record {
  directory = if p.is_last then None else Some p.next_segment;
  queue = queue;
  entity = entity;
  segment = segment;
}
passed_with count p None (w ∷ queue) entity segment = record {
  directory = None;
  queue =
      if p.is_last then queue
      else record { entity = p.entity; segment = p.next_segment } ∷ queue;
  entity = entity;
  segment = segment;
}
passed_with count p None [] entity segment =
    if entity == count then record {
      directory = if p.is_last then None else Some p.next_segment;
      queue = [];
      entity = 1;
      segment = 0;
    } else record {
      directory = None;
      queue = [];
      entity = p.next_entity;
      segment = p.next_segment;
    }

abbrev pub passed : ℕ → Part → CourseView → CourseView
passed count p c = passed_with count p c.directory c.queue c.entity c.segment

-- what waits of an entity, by its number in the turn that comes; none of one that went
abbrev pub kept : Difference → Waiting → Option Waiting
kept Nothing w = Some w
kept Added w = Some w
kept (Changed n) w = if w.entity == n then None else Some w
kept (Removed n) w =
    if w.entity == n then None
    else if nat_lt n w.entity then Some (record { entity = w.entity - 1; segment = w.segment })
    else Some w

-- the body that came, whole; a turn with one more has it behind so many entities
abbrev pub fresh_of : Difference → ℕ → Option Waiting
fresh_of Nothing count = None
fresh_of Added count = Some (record { entity = count; segment = 0 })
fresh_of (Changed n) count = Some (record { entity = n; segment = 0 })
fresh_of (Removed n) count = None

abbrev pub one_more : Option Waiting → List Waiting → List Waiting
one_more None queue = queue
one_more (Some w) queue = w ∷ queue

abbrev pub kept_of : Difference → List Waiting → List Waiting
kept_of difference [] = []
kept_of difference (w ∷ queue) = one_more (kept difference w) (kept_of difference queue)

-- of what is queued, how many entities are not begun
abbrev pub entities_not_begun : List Waiting → ℕ
entities_not_begun [] = 0
entities_not_begun (w ∷ queue) = (if w.segment == 0 then 1 else 0) + entities_not_begun queue

-- Whether the body that came is queued: of what stays queued, fewer are not begun.
abbrev pub is_queued : Difference → ℕ → List Waiting → Bool
is_queued difference most queue = nat_lt (entities_not_begun (kept_of difference queue)) most

-- what is queued after a change
abbrev pub queue_after : Difference → ℕ → ℕ → List Waiting → List Waiting
queue_after difference most count queue =
    kept_of difference queue
    ++ (if is_queued difference most queue then one_more (fresh_of difference count) [] else [])

-- From which segment on the bodies come, of a turn that had so many entities, where the body that
-- came is queued or is not. What was sent of a body that went is not sent again, and what was not
-- sent of it is dropped.
abbrev pub rest_from : Difference → Bool → ℕ → Waiting → Waiting
rest_from Nothing early count w = w
rest_from Added early count w =
    if w.entity == count && early then record { entity = count + 1; segment = 0 } else w
rest_from (Changed n) early count w =
    if w.entity == n then
    if w.segment == 0 then w else record { entity = w.entity + 1; segment = 0 }
    else w
rest_from (Removed n) early count w =
    if w.entity == n then record { entity = n; segment = 0 }
    else if nat_lt n w.entity then record { entity = w.entity - 1; segment = w.segment }
    else w

-- the course of a turn that is followed, with at most so many queued that are not begun
abbrev pub followed : Difference → ℕ → ℕ → CourseView → CourseView
followed difference most count c =
    let rest = rest_from difference (is_queued difference most c.queue) count
    (record { entity = c.entity; segment = c.segment }) in
    record {
      directory = Some 0;
      queue = queue_after difference most count c.queue;
      entity = rest.entity;
      segment = rest.segment;
    }

-- where no group is under way and nothing waits, the turn begins
abbrev pub left_course : Bool → ℕ → CourseView → CourseView
left_course idle count c = if idle then if has_ended count c then whole_course else c else c

-- the course of a changed turn; where it cannot be followed, it begins
abbrev pub changed_course : Option Difference → Bool → ℕ → ℕ → CourseView → CourseView
changed_course None idle most count c = whole_course
changed_course (Some difference) idle most count c =
    followed difference most count (left_course idle count c)
